-- What a press yields has squares of the board and the number of an uncaptured man.
use mathlib.Core.Path.{◌≡◌, refl, sym, ap, ◌∙◌, subst}
use mathlib.Core.Bool.{Bool, true, false, cond}
use Prim.Native.Nat.{ℕ, zero, suc, ◌<◌}
use native.Mathlib.Nat.{le_refl, le_of_suc-le-suc, not-suc-le-zero, lt_of_lt_of_le}
use Rattle.laws.specs.declared.ChessRetraction.{ChessRetraction}
use Rattle.laws.specs.Retractions.{InRange}
use Rattle.retraction_gen.specs.declared.RetractionGen.{RetractionGen}
use Rattle.retraction_gen.specs.declared.Turn.{Turn}
use Rattle.retraction_gen.specs.declared.Turn.TheVariants.{Again, Found, Over}
use Rattle.retraction_gen.specs.Cursors.{retraction_said, end_said, Answered, back, turn_of, fuel, step_of, well_formed, next_of}
use Rattle.refusal.proofs.Writing.{no_value}
use Rattle.retraction_gen.proofs.Going.{again_less, step_again, step_found, step_over}
use Rattle.retraction_gen.proofs.Whole.{turn_formed, turn_range}
use Rattle.retraction_gen.proofs.Stepping.{retraction_one}

step_range : (n : ℕ) (g : RetractionGen) (t : Turn) (r : ChessRetraction) → fuel g < n → well_formed g ≡ true → (turn_of g).turn ≡ t
    → (step_of g).said ≡ retraction_said r → InRange r
step_range zero g t r f w e s = absurd (not-suc-le-zero f)
step_range (suc n) g Again r f w e s =
    step_range n (turn_of g).cursor (turn_of (turn_of g).cursor).turn r (lt_of_lt_of_le (again_less g e) (le_of_suc-le-suc f)) (turn_formed g ∙ w) refl
    (ap (λ (x : Answered). x.said) (sym (step_again g e)) ∙ s)
step_range (suc n) g (Found q) r f w e s =
    subst InRange (retraction_one q r (ap (λ (x : Answered). x.said) (sym (step_found g q e)) ∙ s)) (turn_range g w q e)
step_range (suc n) g Over r f w e s = no_value (sym s ∙ ap (λ (x : Answered). x.said) (step_over g e))

pub next_range : (g : RetractionGen) (r : ChessRetraction) → (next_of g).said ≡ retraction_said r → InRange r
next_range g r s = by (well_formed g) refl s
  where
    by : (w : Bool) → well_formed g ≡ w → (cond w (step_of g) (back g end_said)).said ≡ retraction_said r → InRange r
    by true e s = step_range (suc (fuel g)) g (turn_of g).turn r (le_refl _) e refl s
    by false e s = no_value (sym s)
