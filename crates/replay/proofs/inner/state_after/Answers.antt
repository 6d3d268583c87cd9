-- `replay::inner::state_after` meets its contract.
use mathlib.Core.Path.{refl, sym, ap, ◌∙◌}
use mathlib.Core.Bool.{true, false, ◌||◌}
use Prim.Native.Nat.{◌+◌, ◌/◌}
use lib.Dec.{eqb}
use Rattle.geometry.specs.declared.Color.{Color}
use Rattle.geometry.specs.Colors.{opp}
use Rattle.laws.specs.Boards.{men_in}
use Rattle.replay.proofs.Forwards.{state_is}
use Rattle.replay.proofs.inner.state_after.Goals as goal

pub returns-then-is_pawn-double : goal.returns-then-is_pawn-double
returns-then-is_pawn-double c = state_is c.args.p.terms.edition (men_in c.args.p) c.args.x c.args.t c.args.s {a = c.is_pawn.result} {d = (eqb (c.args.t / 8) (c.args.s / 8 + 2) || eqb (c.args.s / 8) (c.args.t / 8 + 2))} {g = c.is_noted-near.result} {z = true} {e = c.other-d.result} c.requires.2 (sym c.if-is_pawn-double.true) c.is_pawn.ensures refl c.is_noted-near.ensures (c.other-d.ensures ∙ ap (λ (q : Color). opp q) c.color_of.ensures)

pub returns : goal.returns
returns c = state_is c.args.p.terms.edition (men_in c.args.p) c.args.x c.args.t c.args.s {a = c.is_pawn.result} {d = (eqb (c.args.t / 8) (c.args.s / 8 + 2) || eqb (c.args.s / 8) (c.args.t / 8 + 2))} {g = c.is_noted-near.result} {z = false} {e = c.other-d.result} c.requires.2 (sym c.if-is_pawn-double.false) c.is_pawn.ensures refl c.is_noted-near.ensures (c.other-d.ensures ∙ ap (λ (q : Color). opp q) c.color_of.ensures)
