-- A cursor that has answered the end answers it again, and stays as it is.
use mathlib.Core.Path.{◌≡◌, refl, sym, ap, ◌∙◌, subst}
use mathlib.Core.Bool.{Bool, true, false, cond}
use Prim.Native.Nat.{ℕ, zero, suc, ◌+◌, ◌<◌}
use native.Mathlib.Nat.{le_refl, le_of_suc-le-suc, not-suc-le-zero, lt_of_lt_of_le}
use native.Mathlib.Omega.{arith}
use lib.Dec.{leb, ltb}
use lib.ListN.{get_or}
use Rattle.laws.specs.declared.ChessRetraction.{ChessRetraction}
use Rattle.retraction_gen.specs.declared.RetractionGen.{RetractionGen}
use Rattle.retraction_gen.specs.declared.Turn.{Turn}
use Rattle.retraction_gen.specs.declared.Turn.TheVariants.{Again, Found, Over}
use Rattle.retraction_gen.specs.Cursors.{with_index, with_uncaptured, turned, end_said, Answered, back, entry_at, spent, is_un_en_passant, barred, un_en_passant_to, uncaptured_to, turn_in, on_entry, turn_of, fuel, step_of, well_formed, next_of}
use Rattle.squares.specs.Members.{lowest_of}
use Rattle.refusal.proofs.Writing.{no_value}
use Rattle.retraction_gen.proofs.Going.{again_less, step_again, step_found, step_over}

again_over : {A : Type 0} → ◌≡◌ {A = Turn} Again Over → A
again_over e = absurd (omega (arith, (let z : ◌≡◌ {A = ℕ} 0 1 = cc in z)))

found_over : {A : Type 0} (r : ChessRetraction) → ◌≡◌ {A = Turn} (Found r) Over → A
found_over r e = absurd (omega (arith, (let z : ◌≡◌ {A = ℕ} 0 1 = cc in z)))

-- a turn at a target is never the last
in_goes_on : {A : Type 0} (x y z w : RetractionGen) (r r' : ChessRetraction) (p u b : Bool)
    → (cond p (turned x (Found r)) (cond u (turned y Again) (cond b (turned z Again) (turned w (Found r'))))).turn ≡ Over → A
in_goes_on x y z w r r' true u b e = found_over r e
in_goes_on x y z w r r' false true b e = again_over e
in_goes_on x y z w r r' false false true e = again_over e
in_goes_on x y z w r r' false false false e = found_over r' e

ways_rest : (g : RetractionGen) (o z : Bool)
    → (cond o (cond z (turned (with_index g (g.index + 1)) Again) (turn_in g (entry_at g))) (turned g Over)).turn ≡ Over
    → (cond o (cond z (turned (with_index g (g.index + 1)) Again) (turn_in g (entry_at g))) (turned g Over)).cursor ≡ g
unfolding turn_in
ways_rest g false z e = refl
ways_rest g true true e = again_over e
ways_rest g true false e =
    in_goes_on (spent g) (with_uncaptured (spent g) 0) (with_uncaptured g (g.uncaptured + 1)) (with_uncaptured g (g.uncaptured + 1))
    (un_en_passant_to (entry_at g) (lowest_of (entry_at g).targets)) (uncaptured_to (entry_at g) (lowest_of (entry_at g).targets) g.uncaptured)
    (is_un_en_passant (entry_at g).kind) (leb 6 g.uncaptured)
    (barred (get_or g.masks g.uncaptured 0) (entry_at g).source (entry_at g).kind g.uncaptured) e

-- the last turn leaves the cursor as it is
turn_rests : (g : RetractionGen) → (turn_of g).turn ≡ Over → (turn_of g).cursor ≡ g
unfolding turn_of
turn_rests g e = ways_rest g (on_entry g) (ltb 63 (lowest_of (entry_at g).targets)) e

abbrev Rests : RetractionGen → Type 0
Rests g = next_of g ≡ back g end_said

step_rests : (g : RetractionGen) → step_of g ≡ back g end_said → Rests g
step_rests g e = by (well_formed g)
  where
    by : (w : Bool) → cond w (step_of g) (back g end_said) ≡ back g end_said
    by true = e
    by false = refl

-- the cursor of a step that answers the end rests
ended_step : (n : ℕ) (g : RetractionGen) (t : Turn) → fuel g < n → (turn_of g).turn ≡ t → (step_of g).said ≡ end_said → Rests (step_of g).cursor
ended_step zero g t f e s = absurd (not-suc-le-zero f)
ended_step (suc n) g Again f e s =
    let k = step_again g e in
    subst (λ (x : Answered). Rests x.cursor) (sym k)
    (ended_step n (turn_of g).cursor (turn_of (turn_of g).cursor).turn (lt_of_lt_of_le (again_less g e) (le_of_suc-le-suc f)) refl
    (ap (λ (x : Answered). x.said) (sym k) ∙ s))
ended_step (suc n) g (Found r) f e s = no_value (ap (λ (x : Answered). x.said) (sym (step_found g r e)) ∙ s)
ended_step (suc n) g Over f e s =
    let k : step_of g ≡ back g end_said = step_over g e ∙ ap (λ (h : RetractionGen). back h end_said) (turn_rests g e) in
    subst (λ (x : Answered). Rests x.cursor) (sym k) (step_rests g k)

-- the cursor that any press leaves which answers the end rests, a malformed one among them
pub ended_rests : (g : RetractionGen) → (next_of g).said ≡ end_said → Rests (next_of g).cursor
ended_rests g s = by (well_formed g) refl s
  where
    by : (w : Bool) → well_formed g ≡ w → (cond w (step_of g) (back g end_said)).said ≡ end_said → Rests (cond w (step_of g) (back g end_said)).cursor
    by true e s = ended_step (suc (fuel g)) g (turn_of g).turn (le_refl _) refl s
    by false e s = ap (λ (w : Bool). cond w (step_of g) (back g end_said)) e
