-- `volume_body::inner::pair` meets its contract.
use mathlib.Core.Path.{◌∙◌, ap, ap₂}
use Prim.Native.Nat.{ℕ, ◌+◌, ◌*◌}
use Rattle.laws.specs.Men.{man_number}
use Rattle.laws.specs.Boards.{men_in}
use Rattle.volume_body.specs.Layout.{pair_at}
use Rattle.volume_body.proofs.inner.pair.Goals as goal

pub returns : goal.returns
unfolding pair_at
returns c =
    let m = men_in c.args.p in
    ap₂ (λ (x y : ℕ). 16 * x + y)
    (c.man_at-a.ensures.0 ∙ ap (λ (s : ℕ). man_number (m s)) c.square_at.ensures)
    (c.man_at-b.ensures.0 ∙ ap (λ (s : ℕ). man_number (m s)) c.square_at-2.ensures)
