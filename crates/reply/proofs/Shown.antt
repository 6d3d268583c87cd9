-- What a buffer shows, put together from what was added to it.
use mathlib.Core.Path.{◌≡◌, refl, sym, ◌∙◌, ap₂, subst}
use mathlib.Core.Bool.{false≢true}
use mathlib.Core.List.{List, ◌++◌}
use Prim.Native.Nat.{ℕ, ◌+◌, ◌≤◌, ◌<◌, ◌^◌}
use native.Mathlib.Nat.{zero-add}
use native.Mathlib.Omega.{arith}
use lib.ListN.{length, take, drop, length-append}
use lib.Seq.{length-take-le, take-length}
use borrow.Author.Tests.{eq-eqb}
use Rattle.refusal.specs.declared.Refusal.{Refusal}
use Rattle.refusal.specs.Refusals.{number_of, nothing_refused}
use Rattle.refusal.specs.Said.{Test}
use Rattle.board.specs.declared.RetractableBoard.{RetractableBoard}
use Rattle.board.specs.Gate.{men_on, gate_of, board_tests}
use Rattle.text.specs.Entries.{text_on}
use Rattle.output.specs.Appending.{used_of, PutsDecimal, Adds}
use Rattle.rows.specs.Rows.{decimal_of, report_of}
use Rattle.reply.specs.Replies.{word, newline, refused_text, board_text, Shows}
use Rattle.refusal.proofs.Saying.{some_number}
use Rattle.refusal.proofs.Writing.{Written, Roomless, Failed}
use Rattle.board.proofs.Passing.{gate_passed}
use Rattle.board.proofs.Numbers.{gate_passes}
use Rattle.position_text.proofs.Tails.{print_short}
use Rattle.output.proofs.Added.{adds, added_len_lem, added_out_lem, added_length}
use Rattle.output.proofs.Adding.{adds_then}
use Rattle.rows.proofs.Decimals.{number_short, decimal_added}
use Rattle.reply.proofs.Sizes.{report_short}
use Rattle.std.specs.Prelude.{Result}

-- a copy to the front
front : (o t : List ℕ) → take 0 o ++ take (length t) t ++ drop (0 + length t) o ≡ t ++ drop (length t) o
front o t = ap₂ (λ (x : List ℕ) (k : ℕ). x ++ drop k o) (take-length t) (zero-add (length t))

-- all that was added from the front on is shown
pub shown : (o out t : List ℕ) (n : ℕ) → Adds o 0 t n out → length t ≤ length o → Shows t n o out
shown o out t n a h =
    let k : 0 + length t ≤ length o = omega arith in
    let e : n ≡ length t = omega (arith, added_len_lem o t out 0 n a k) in
    let w : n ≤ length out = omega (arith, added_length o t out 0 n a k) in
    record { size = e; holds = added_out_lem o t out 0 n a k ∙ front o t; counts = (w, sym (length-take-le n out w)) }

pub written_added : {ts : List Test} {t o out : List ℕ} {n : ℕ} → Written ts t o n out → Adds o 0 t n out
written_added {t = t} {o = o} {out = out} {n = n} w =
    subst (λ (i : ℕ). Adds o 0 t i out) (zero-add (length t) ∙ sym w.size)
    (adds o t 0 (omega (arith, w.fits)) out (w.holds ∙ sym (front o t)))

-- `refused N`
pub refused_shown : (o o₁ o₂ o₃ : List ℕ) (a d n x : ℕ) (v : Result ℕ ℕ) → length o ≡ 196608 → x < 2 ^ 64 → Adds o 0 word a o₁ → PutsDecimal o₁ a x v o₂
    → d ≡ used_of v a → Adds o₂ d newline n o₃ → Shows (refused_text x) n o o₃
refused_shown o o₁ o₂ o₃ a d n x v l f p q u w =
    let s = number_short x f in
    let two = adds_then o o₁ o₂ word (decimal_of x) 0 a d (simp length-append (omega arith)) p (decimal_added o₁ o₂ a x v f q d u) in
    let three = adds_then o o₂ o₃ (word ++ decimal_of x) newline 0 d n (simp length-append (omega arith)) two w in
    shown o o₃ (refused_text x) n three (simp length-append (omega arith))

pub text_short : (b : RetractableBoard) → length (text_on b) ≤ 81
text_short b = print_short (men_on b) b.turn b.white b.black b.passant

-- a board's text and the report behind it
module _ (b : RetractableBoard) (o o₁ : List ℕ) (m : ℕ) (l : length o ≡ 196608) where
  pub lists_shown : gate_of b ≡ nothing_refused → (listed strict : List ℕ) → length listed ≤ 8192 → length strict ≤ 8192 → {ts : List Test} (n r : ℕ) (o₂ o₃ : List ℕ)
      → Written ts (text_on b) o m o₁ → Adds o₁ m newline n o₂ → Adds o₂ n (report_of b.checkers listed strict) r o₃ → Shows (board_text b listed strict) r o o₃
  lists_shown g listed strict u v n r o₂ o₃ k w x =
      let e = (gate_passed b g).checkers_are in
      let t = report_of b.checkers listed strict in
      let s = text_short b in
      let y = report_short b.checkers listed strict u v in
      let two = adds_then o o₁ o₂ (text_on b) newline 0 m n (simp length-append (omega arith)) (written_added k) w in
      let three = adds_then o o₂ o₃ (text_on b ++ newline) t 0 n r (simp length-append (omega arith)) two x in
      subst (λ (c : ℕ). Shows (text_on b ++ newline ++ report_of c listed strict) r o o₃) e
      (shown o o₃ (text_on b ++ newline ++ t) r three (simp length-append (omega arith)))

  pub never_room : {ts : List Test} → Roomless ts (text_on b) o m o₁ → ⊥
  never_room k = omega (arith, text_short b, k.short)

-- a refusal has a number
never_refused : (why : Refusal) → number_of why ≡ 0 → ⊥
never_refused why e = false≢true (sym (some_number why) ∙ eq-eqb (number_of why) 0 e)

pub never_failed : (b : RetractableBoard) {o out : List ℕ} {why : Refusal} → gate_of b ≡ nothing_refused → Failed (board_tests b) o why out → ⊥
never_failed b {why = why} g k = never_refused why (k.number ∙ gate_passes b (gate_of b) refl g)
