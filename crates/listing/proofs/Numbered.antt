-- 8 and 13, exactly when: of whatever answer the promise of `retractions_into` allows.
use mathlib.Core.Path.{◌≡◌, refl, ap, ◌∙◌}
use mathlib.Core.Bool.{Bool, true, false, not, cond}
use mathlib.Core.List.{List, [], ◌∷◌, map}
use Prim.Native.Nat.{ℕ}
use native.Mathlib.Omega.{arith}
use lib.Dec.{eqb, leb}
use lib.ListN.{length, length-map}
use Rattle.squares.specs.Tests.{◌and◌}
use Rattle.laws.specs.Retractions.{packed}
use Rattle.refusal.specs.declared.Refusal.TheVariants.{Full}
use Rattle.refusal.specs.Said.{◌else◌, first_failing, Said, says, number_said, told, fitting, behind, Writes}
use Rattle.board.specs.declared.RetractableBoard.{RetractableBoard}
use Rattle.board.specs.Gate.{board_tests}
use Rattle.retraction_gen.specs.Making.{list_on, full_test, list_tests}
use Rattle.retraction_gen.specs.Sequence.{sequence_on}
use Rattle.slots.specs.declared.Unlisted.{Unlisted}
use Rattle.slots.specs.Slots.{listed_says}
use Rattle.refusal.proofs.Tested.{behind_more}
use Rattle.board.proofs.Numbers.{above_seven}
use Rattle.std.specs.Prelude.{Result}

-- what is said behind 1 to 7: the list fits, or doesn't, and its sequence of n has room, or hasn't
abbrev said_by : ℕ → Bool → Bool → Said
said_by n fits room = behind ((fits else Full) ∷ []) (cond room (told (n ∷ [])) (says 13 (n ∷ [])))

full_by : (n : ℕ) (accepted fits room : Bool) → (accepted and eqb (number_said (said_by n fits room)) 8) ≡ (accepted and not fits)
unfolding behind first_failing ◌and◌
full_by n false fits room = refl
full_by n true false room = refl
full_by n true true false = refl
full_by n true true true = refl

room_by : (n : ℕ) (accepted fits room : Bool) → (accepted and eqb (number_said (said_by n fits room)) 13) ≡ (accepted and fits and not room)
unfolding behind first_failing ◌and◌
room_by n false fits room = refl
room_by n true false room = refl
room_by n true true false = refl
room_by n true true true = refl

module _ (b : RetractableBoard) (s after : List ℕ) (r : Result ℕ Unlisted) (k : Writes (list_tests b) (map packed (sequence_on b)) s (listed_says r) after) where
  abbrev accepted : Bool
  accepted = eqb (first_failing (board_tests b)) 0

  abbrev fits : Bool
  fits = leb (length (list_on b)) 47

  abbrev room : Bool
  room = leb (length (sequence_on b)) (length s)

  number_is : (n : ℕ) → eqb (number_said (listed_says r)) n ≡ eqb (number_said (behind (board_tests b) (said_by (length (sequence_on b)) fits room))) n
  number_is n =
      ap (λ (x : Said). eqb (number_said x) n)
      (k.answer ∙ ap (λ (i : ℕ). behind (list_tests b) (fitting i (length s))) (length-map (sequence_on b) packed)
      ∙ behind_more (board_tests b) (full_test (list_on b)) (fitting (length (sequence_on b)) (length s)))

  -- 8: 1 to 7 pass, and the list would need a 48th entry
  pub full_exactly : eqb (number_said (listed_says r)) 8 ≡ (accepted and not fits)
  full_exactly = number_is 8 ∙ above_seven b (said_by (length (sequence_on b)) fits room) 8 (omega arith) ∙ full_by (length (sequence_on b)) accepted fits room

  -- 13: 1 to 8 pass, and the lent slice is shorter than the sequence
  pub room_exactly : eqb (number_said (listed_says r)) 13 ≡ (accepted and fits and not room)
  room_exactly = number_is 13 ∙ above_seven b (said_by (length (sequence_on b)) fits room) 13 (omega arith) ∙ room_by (length (sequence_on b)) accepted fits room
