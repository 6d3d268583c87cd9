-- A cursor behind the gate: the gate's refusal, or what is made of an accepted board; and any two answers agree.
use mathlib.Core.Path.{◌≡◌, refl, sym, ap, subst, ◌∙◌}
use mathlib.Core.Bool.{false≢true}
use mathlib.Core.List.{List}
use Prim.Native.Nat.{ℕ, ◌≤◌}
use lib.Dec.{leb}
use lib.ListN.{length}
use borrow.Author.Tests.{leb-true, eq-eqb}
use Rattle.refusal.specs.declared.Refusal.{Refusal}
use Rattle.refusal.specs.declared.Refusal.TheVariants.{Full}
use Rattle.refusal.specs.Refusals.{number_of, Verdict, nothing_refused}
use Rattle.refusal.specs.Said.{Test, first_failing}
use Rattle.board.specs.declared.RetractableBoard.{RetractableBoard}
use Rattle.board.specs.Gate.{gate_of, board_tests}
use Rattle.retraction_gen.specs.declared.RetractionGen.{RetractionGen}
use Rattle.retraction_gen.specs.Making.{list_on, masks_on, full_test, list_tests, cursor_on, refused_number, Makes, Masked}
use Rattle.refusal.proofs.Saying.{some_number, number_one}
use Rattle.refusal.proofs.Tested.{pass_on, stop_on, none_fails, last_passes}
use Rattle.board.proofs.Numbers.{gate_refuses, gate_passes, passed_gate}
use Rattle.std.specs.Prelude.{Result, Ok, Err, IfOk}

module _ (b : RetractableBoard) (v : Verdict) (e : v ≡ gate_of b) where
  pub makes_refused : (why : Refusal) (r : Result RetractionGen Refusal) → v ≡ Err why → r ≡ Err why → Makes (list_tests b) (cursor_on b) r
  makes_refused why r h k = subst (Makes (list_tests b) (cursor_on b)) (sym k) (record { number = stop_on (board_tests b) (full_test (list_on b)) why (gate_refuses b v e why h); cursor = tt })

  pub makes_on : (r : Result RetractionGen Refusal) → v ≡ nothing_refused → Makes (full_test (list_on b)) (cursor_on b) r → Makes (list_tests b) (cursor_on b) r
  makes_on r h k = record { number = k.number ∙ pass_on (board_tests b) (full_test (list_on b)) (gate_passes b v e h); cursor = k.cursor }

  pub masked_refused : (why : Refusal) (r : Result (List ℕ) Refusal) → v ≡ Err why → r ≡ Err why → Masked (board_tests b) (masks_on b) r
  masked_refused why r h k = subst (Masked (board_tests b) (masks_on b)) (sym k) (record { number = gate_refuses b v e why h; masks = tt })

  pub masked_on : {ms : List ℕ} → v ≡ nothing_refused → ms ≡ masks_on b → Masked (board_tests b) (masks_on b) (Ok ms)
  masked_on h k = record { number = sym (gate_passes b v e h); masks = k }

-- none of the list's tests fails
pub list_passed : (b : RetractableBoard) → first_failing (list_tests b) ≡ 0 → (gate_of b ≡ nothing_refused) × (length (list_on b) ≤ 47)
list_passed b h =
    let n = none_fails (board_tests b) (full_test (list_on b)) h in
    (passed_gate b n.0, leb-true (length (list_on b)) 47 (last_passes (leb (length (list_on b)) 47) Full n.1))

-- any two answers agree
not_none : (w : Refusal) → number_of w ≡ 0 → ⊥
not_none w e = false≢true (sym (some_number w) ∙ eq-eqb (number_of w) 0 e)

one_answer : {A : Type 0} (x : A) {n : ℕ} (r q : Result A Refusal) → refused_number r ≡ n → refused_number q ≡ n → IfOk r (λ y. y ≡ x) → IfOk q (λ y. y ≡ x) → r ≡ q
one_answer x (Ok a) (Ok b) m n k l = ap Ok (k ∙ sym l)
one_answer x (Ok a) (Err w) m n k l = absurd (not_none w (n ∙ sym m))
one_answer x (Err w) (Ok a) m n k l = absurd (not_none w (m ∙ sym n))
one_answer x (Err v) (Err w) m n k l = ap Err (number_one v w (m ∙ sym n))

pub makes_one : {ts : List Test} {g : RetractionGen} (r q : Result RetractionGen Refusal) → Makes ts g r → Makes ts g q → r ≡ q
makes_one r q x y = one_answer _ r q x.number y.number x.cursor y.cursor

pub masked_one : {ts : List Test} {ms : List ℕ} (r q : Result (List ℕ) Refusal) → Masked ts ms r → Masked ts ms q → r ≡ q
masked_one r q x y = one_answer _ r q x.number y.number x.masks y.masks

-- where nothing is refused it is the cursor
pub made_is : {ts : List Test} {g : RetractionGen} (r : Result RetractionGen Refusal) → first_failing ts ≡ 0 → Makes ts g r → r ≡ Ok g
made_is r h k = one_answer _ r (Ok _) k.number (sym h) k.cursor refl
