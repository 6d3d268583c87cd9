-- `unmake::inner::crossed` meets its contract.
use mathlib.Core.Path.{◌∙◌, ap, ap₂, sym}
use mathlib.Core.Bool.{Bool, ◌&&◌}
use Prim.Native.Nat.{ℕ}
use Rattle.geometry.specs.declared.Color.{Color}
use Rattle.geometry.specs.Colors.{opp, behind}
use Rattle.laws.specs.Men.{man_number}
use Rattle.laws.specs.Boards.{men_in}
use Rattle.position.proofs.Editing.{no_man}
use Rattle.unmake.proofs.Answering.{up_five, crossed_is, not_crossed}
use Rattle.unmake.proofs.inner.crossed.Goals as goal

pub returns-then-rank_for-ne5 : goal.returns-then-rank_for-ne5
returns-then-rank_for-ne5 c = not_crossed (men_in c.args.p) c.args.c c.args.s (λ e. c.if-rank_for-ne5.true (c.rank_for.ensures ∙ e))

pub behind-two-requires : goal.behind-two-requires
behind-two-requires c = (c.requires, rw c.other-d.ensures (up_five c.args.c c.args.s c.requires (sym c.rank_for.ensures ∙ c.if-rank_for-ne5.false)).1)

pub returns : goal.returns
returns c = ap₂ (λ (i j : Bool). i && j) (no_man (men_in c.args.p (behind c.args.c c.args.s)) (c.man_at.ensures.0 ∙ ap (λ (q : ℕ). man_number (men_in c.args.p q)) c.behind-one.ensures.0))
    (no_man (men_in c.args.p (behind (opp c.args.c) c.args.s)) (c.man_at-2.ensures.0 ∙ ap (λ (q : ℕ). man_number (men_in c.args.p q)) (c.behind-two.ensures.0 ∙ ap (λ (d : Color). behind d c.args.s) c.other-d.ensures)))
    ∙ crossed_is (men_in c.args.p) c.args.c c.args.s (sym c.rank_for.ensures ∙ c.if-rank_for-ne5.false)
