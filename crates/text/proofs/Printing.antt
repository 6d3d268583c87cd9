-- What printing tells by its answer; any two answers agree; 13 exactly when.
use mathlib.Core.Path.{◌≡◌, sym, ap, ◌∙◌, subst}
use mathlib.Core.Bool.{not}
use mathlib.Core.List.{List, []}
use Prim.Native.Nat.{ℕ}
use lib.Dec.{eqb, leb}
use lib.ListN.{length}
use Rattle.squares.specs.Tests.{◌and◌}
use Rattle.refusal.specs.declared.Refusal.{Refusal}
use Rattle.refusal.specs.Said.{first_failing, Said, number_said, Writes}
use Rattle.board.specs.declared.RetractableBoard.{RetractableBoard}
use Rattle.board.specs.Gate.{gate_of, board_tests}
use Rattle.text.specs.declared.Unprinted.{Unprinted}
use Rattle.position_text.specs.inner.Copies.{copied_says}
use Rattle.text.specs.Entries.{text_on, printed_says}
use Rattle.refusal.proofs.Saying.{number_one}
use Rattle.refusal.proofs.Writing.{no_value, no_room, writes_behind, writes_refused, writes_one, Written, Roomless, Failed, tells_count, tells_room, tells_refused}
use Rattle.board.proofs.Numbers.{gate_refuses, gate_passes, room_seven}
use Rattle.refusal.specs.Refusals.{Verdict, nothing_refused}
use Rattle.std.specs.Prelude.{Err, Ok, Result}
use Rattle.text.specs.declared.Unprinted.TheVariants.{Room, Refused}

module _ (b : RetractableBoard) where
  abbrev Prints : List ℕ → Result ℕ Unprinted → List ℕ → Type 0
  Prints o r after = Writes (board_tests b) (text_on b) o (printed_says r) after

  -- behind the gate
  module _ (v : Verdict) (e : v ≡ gate_of b) where
    pub not_printed : {o : List ℕ} (why : Refusal) → v ≡ Err why → Prints o (Err (Refused why)) o
    not_printed why h = writes_refused why (gate_refuses b v e why h)

    pub printed_so : {o after : List ℕ} (c : Result ℕ ℕ) (r : Result ℕ Unprinted) → v ≡ nothing_refused → Writes [] (text_on b) o (copied_says c) after → printed_says r ≡ copied_says c → Prints o r after
    printed_so {o} {after} c r h k d = writes_behind (gate_passes b v e h) (subst (λ (x : Said). Writes [] (text_on b) o x after) (sym d) k)

  -- what each answer tells
  abbrev pub Tells : List ℕ → Result ℕ Unprinted → List ℕ → Type 0
  Tells o (Ok n) after = Written (board_tests b) (text_on b) o n after
  Tells o (Err (Room n)) after = Roomless (board_tests b) (text_on b) o n after
  Tells o (Err (Refused why)) after = Failed (board_tests b) o why after

  pub printing_tells : {o after : List ℕ} (r : Result ℕ Unprinted) → Prints o r after → (x : Result ℕ Unprinted) → r ≡ x → Tells o x after
  printing_tells r w (Ok n) e = tells_count w n (ap printed_says e)
  printing_tells r w (Err (Room n)) e = tells_room w n (ap printed_says e)
  printing_tells r w (Err (Refused why)) e = tells_refused w why (ap printed_says e)

  -- 13: 1 to 7 pass, and the lent slice is shorter than the text
  pub room_exactly : {o after : List ℕ} (r : Result ℕ Unprinted) → Prints o r after
      → eqb (number_said (printed_says r)) 13 ≡ (eqb (first_failing (board_tests b)) 0 and not (leb (length (text_on b)) (length o)))
  room_exactly {o} r w = ap (λ (x : Said). eqb (number_said x) 13) w.answer ∙ room_seven b (length (text_on b)) (length o)

-- what is said settles the answer
printed_one : (r q : Result ℕ Unprinted) → printed_says r ≡ printed_says q → r ≡ q
printed_one (Ok m) (Ok n) e = cc
printed_one (Ok m) (Err (Room n)) e = no_room e
printed_one (Ok m) (Err (Refused w)) e = no_value e
printed_one (Err (Room m)) (Ok n) e = no_room (sym e)
printed_one (Err (Room m)) (Err (Room n)) e = cc
printed_one (Err (Room m)) (Err (Refused w)) e = no_value e
printed_one (Err (Refused v)) (Ok n) e = no_value (sym e)
printed_one (Err (Refused v)) (Err (Room n)) e = no_value (sym e)
printed_one (Err (Refused v)) (Err (Refused w)) e = ap (λ (z : Refusal). Err (Refused z)) (number_one v w (ap number_said e))

pub one_printed : (b : RetractableBoard) {o : List ℕ} (r q : Result ℕ Unprinted) (t u : List ℕ) → Writes (board_tests b) (text_on b) o (printed_says r) t
    → Writes (board_tests b) (text_on b) o (printed_says q) u → (r ≡ q) × (t ≡ u)
one_printed b r q t u x y = let o = writes_one x y in (printed_one r q o.0, o.1)
