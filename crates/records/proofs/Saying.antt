-- What the writer says leaves one answer; by it one knows what the slice holds; and 13 and 16 exactly when.
use mathlib.Core.Path.{◌≡◌, refl, sym, ◌∙◌, ap}
use mathlib.Core.Bool.{Bool, true, false, not, cond}
use mathlib.Core.List.{List, [], ◌∷◌, ◌++◌}
use Prim.Native.Nat.{ℕ, ◌≤◌}
use native.Mathlib.Omega.{arith}
use lib.Dec.{eqb, leb}
use lib.ListN.{length, drop}
use Rattle.squares.specs.Tests.{◌and◌}
use Rattle.laws.specs.declared.EnPassantFlag.{EnPassantFlag}
use Rattle.refusal.specs.Said.{Test, first_failing, Said, says, number_said, told, fitting, behind, Writes}
use Rattle.refusal.proofs.Writing.{no_value, no_room}
use Rattle.board.specs.declared.RetractableBoard.{RetractableBoard}
use Rattle.board.specs.Gate.{board_tests}
use Rattle.board.proofs.Numbers.{above_seven}
use Rattle.record_fields.specs.Passed.{is_known}
use Rattle.records.specs.declared.Unwritten.{Unwritten}
use Rattle.records.specs.Entries.{record_on, written_says, WritesRecord}
use Rattle.records.proofs.Giving.{why_one}
use Rattle.records.specs.declared.Why.{Why}
use Rattle.std.specs.Prelude.{Err, Ok, Result}
use Rattle.records.specs.declared.Unwritten.TheVariants.{Room, Refused}

-- what is said settles the answer
written_one : (r q : Result ℕ Unwritten) → written_says r ≡ written_says q → r ≡ q
written_one (Ok m) (Ok n) e = cc
written_one (Ok m) (Err (Room n)) e = no_room e
written_one (Ok m) (Err (Refused w)) e = no_value e
written_one (Err (Room m)) (Ok n) e = no_room (sym e)
written_one (Err (Room m)) (Err (Room n)) e = cc
written_one (Err (Room m)) (Err (Refused w)) e = no_value e
written_one (Err (Refused v)) (Ok n) e = no_value (sym e)
written_one (Err (Refused v)) (Err (Room n)) e = no_value (sym e)
written_one (Err (Refused v)) (Err (Refused w)) e = ap (λ (z : Why). Err (Refused z)) (why_one v w (ap number_said e))

-- any two answers, and any two contents of the slice, agree
pub one_written : {ts : List Test} {e : EnPassantFlag} {t o : List ℕ} (r q : Result ℕ Unwritten) (u v : List ℕ) → WritesRecord ts e t o (written_says r) u
    → WritesRecord ts e t o (written_says q) v → (r ≡ q) × (u ≡ v)
one_written {t = t} {o = o} r q u v k l =
    let s = k.answer ∙ sym l.answer in
    (written_one r q s, k.holds ∙ ap (λ (z : Said). cond (eqb (number_said z) 0) (t ++ drop (length t) o) o) s ∙ sym l.holds)

no_told : {A : Type 0} (ts : List Test) (m n : ℕ) → told (n ∷ []) ≡ behind ts (says m []) → A
unfolding behind
no_told {A} ts m n e = go (eqb (first_failing ts) 0) e
  where
    go : (z : Bool) → told (n ∷ []) ≡ cond z (says m []) (says (first_failing ts) []) → A
    go true k = no_value k
    go false k = no_value k

-- where nothing is refused the state is known, and all is as `Writes` has it
pub writes_known : {ts : List Test} {e : EnPassantFlag} {t o : List ℕ} (n : ℕ) (after : List ℕ) → WritesRecord ts e t o (told (n ∷ [])) after
    → (is_known e ≡ true) × Writes ts t o (told (n ∷ [])) after
writes_known {ts} {e} {t} {o} n after w = go (is_known e) refl w.answer
  where
    go : (y : Bool) → is_known e ≡ y → told (n ∷ []) ≡ behind ts (cond y (fitting (length t) (length o)) (says 16 [])) → (is_known e ≡ true) × Writes ts t o (told (n ∷ [])) after
    go true q k = (q, record { answer = k; holds = w.holds })
    go false q k = no_told ts 16 n k

-- behind 1 to 7 of a board
module _ (b : RetractableBoard) (h n : ℕ) (o after : List ℕ) (r : Result ℕ Unwritten) (w : WritesRecord (board_tests b) b.passant (record_on b h n) o (written_says r) after) where
  abbrev size : ℕ
  size = length (record_on b h n)

  number_is : (m : ℕ) → 8 ≤ m
      → eqb (number_said (written_says r)) m
      ≡ (eqb (first_failing (board_tests b)) 0 and eqb (number_said (cond (is_known b.passant) (fitting size (length o)) (says 16 []))) m)
  number_is m k =
      ap (λ (x : Said). eqb (number_said x) m) w.answer ∙ above_seven b (cond (is_known b.passant) (fitting size (length o)) (says 16 [])) m k

  -- "16 UNKNOWN when the writer, after 1 to 7 .., meets an unknown state": exactly then
  pub unknown_exactly : eqb (number_said (written_says r)) 16 ≡ (eqb (first_failing (board_tests b)) 0 and not (is_known b.passant))
  unknown_exactly =
      number_is 16 (omega arith) ∙ ap (λ (t : Bool). eqb (first_failing (board_tests b)) 0 and t) (go (is_known b.passant) (leb size (length o)))
    where
      go : (y z : Bool) → eqb (number_said (cond y (cond z (told (size ∷ [])) (says 13 (size ∷ []))) (says 16 []))) 16 ≡ not y
      go true true = refl
      go true false = refl
      go false z = refl

  -- 13: 1 to 7 pass, the state is known, and the lent slice is shorter than the record
  pub room_exactly : eqb (number_said (written_says r)) 13 ≡ (eqb (first_failing (board_tests b)) 0 and (is_known b.passant and not (leb size (length o))))
  unfolding ◌and◌
  room_exactly =
      number_is 13 (omega arith) ∙ ap (λ (t : Bool). eqb (first_failing (board_tests b)) 0 and t) (go (is_known b.passant) (leb size (length o)))
    where
      go : (y z : Bool) → eqb (number_said (cond y (cond z (told (size ∷ [])) (says 13 (size ∷ []))) (says 16 []))) 13 ≡ (y and not z)
      go true true = refl
      go true false = refl
      go false z = refl
