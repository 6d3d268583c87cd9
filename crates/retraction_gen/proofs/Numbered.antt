-- 8, exactly when: of whatever answer the promise of `new_legal` allows.
use mathlib.Core.Path.{◌≡◌, refl, ap, ◌∙◌}
use mathlib.Core.Bool.{Bool, true, false, not}
use mathlib.Core.List.{[], ◌∷◌}
use Prim.Native.Nat.{ℕ}
use native.Mathlib.Omega.{arith}
use lib.Dec.{eqb, leb}
use lib.ListN.{length}
use Rattle.squares.specs.Tests.{◌and◌}
use Rattle.refusal.specs.declared.Refusal.TheVariants.{Full}
use Rattle.std.specs.Prelude.{Result}
use Rattle.refusal.specs.declared.Refusal.{Refusal}
use Rattle.retraction_gen.specs.declared.RetractionGen.{RetractionGen}
use Rattle.refusal.specs.Said.{◌else◌, first_failing, says}
use Rattle.board.specs.declared.RetractableBoard.{RetractableBoard}
use Rattle.board.specs.Gate.{board_tests}
use Rattle.retraction_gen.specs.Making.{list_on, full_test, list_tests, cursor_on, refused_number, Makes}
use Rattle.refusal.proofs.Tested.{number_behind}
use Rattle.board.proofs.Numbers.{above_seven}

full_by : (fits : Bool) → eqb (first_failing ((fits else Full) ∷ [])) 8 ≡ not fits
unfolding first_failing
full_by true = refl
full_by false = refl

-- 8: 1 to 7 pass, and the list would need a 48th entry
pub full_exactly : (b : RetractableBoard) (r : Result RetractionGen Refusal) → Makes (list_tests b) (cursor_on b) r
    → eqb (refused_number r) 8 ≡ (eqb (first_failing (board_tests b)) 0 and not (leb (length (list_on b)) 47))
full_exactly b r k =
    ap (λ (n : ℕ). eqb n 8) (k.number ∙ number_behind (board_tests b) (full_test (list_on b)))
    ∙ above_seven b (says (first_failing (full_test (list_on b))) []) 8 (omega arith)
    ∙ ap (λ (t : Bool). eqb (first_failing (board_tests b)) 0 and t) (full_by (leb (length (list_on b)) 47))
