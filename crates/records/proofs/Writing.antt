-- The writer: the bytes of a record, and what is said of the lent slice.
use mathlib.Core.Path.{◌≡◌, refl, sym, ◌∙◌, ap, ap₂, subst}
use mathlib.Core.Bool.{Bool, true, false, cond}
use mathlib.Core.List.{List, [], ◌∷◌, ◌++◌, append_assoc}
use Prim.Native.Nat.{ℕ, ◌+◌, ◌≤◌, ◌<◌, min}
use native.Mathlib.Nat.{zero-add}
use native.Mathlib.Omega.{arith}
use lib.Dec.{leb}
use lib.ListN.{length, take, drop, length-append}
use lib.Seq.{paste, length-take-le, take-length}
use borrow.Author.Tests.{leb-true, leb-false}
use Rattle.io.specs.Counts.{IsPrefixLen}
use Rattle.laws.specs.declared.EnPassantFlag.{EnPassantFlag}
use Rattle.laws.specs.declared.Position.{Position}
use Rattle.laws.specs.Boards.{men_in}
use Rattle.refusal.specs.declared.Refusal.{Refusal}
use Rattle.refusal.specs.Refusals.{number_of, Verdict, nothing_refused}
use Rattle.refusal.specs.Said.{Test, first_failing, Said, says, told, fitting, behind, Writes}
use Rattle.refusal.proofs.Saying.{some_number, behind_by}
use Rattle.refusal.proofs.Writing.{writes_roomless, writes_whole}
use Rattle.board.specs.declared.RetractableBoard.{RetractableBoard}
use Rattle.board.specs.Gate.{gate_of, board_tests}
use Rattle.board.proofs.Numbers.{gate_refuses, gate_passes}
use Rattle.position_text.specs.Form.{printed}
use Rattle.position_text.proofs.Tails.{print_short}
use Rattle.output.specs.Appending.{put_says, used_of, Puts, PutsDecimal, Adds}
use Rattle.output.proofs.Added.{added_len_lem, added_bytes, added_length}
use Rattle.rows.specs.Rows.{decimal_of}
use Rattle.output.proofs.Adding.{adds_then}
use Rattle.rows.proofs.Decimals.{decimal_added}
use Rattle.record_fields.specs.Passed.{passed_state, is_known}
use Rattle.record_fields.proofs.Counters.{five_long}
use Rattle.records.specs.declared.Why.TheVariants.{Base, Unknown}
use Rattle.records.specs.Form.{counters_text, record_of}
use Rattle.records.specs.Entries.{why_number, record_on, written_says, WritesRecord}
use Rattle.records.specs.inner.Answering.{passed_fields}
use Rattle.std.specs.Prelude.{Err, Ok, Result}
use Rattle.records.specs.declared.Unwritten.TheVariants.{Room as room, Refused as notWritten}

-- the fields have at most 81 bytes and, as any counter has at most five digits, a record at most 93
fields_short : (f : Position) → length (printed (passed_fields f)) ≤ 81
fields_short f = print_short (men_in f) f.turn f.white f.black (passed_state f.passant)

pub record_length : (f : Position) (h n : ℕ) → length (record_of f h n) ≤ 83 + length (decimal_of h) + length (decimal_of n)
record_length f h n =
    omega (arith, fields_short f, length-append (printed (passed_fields f)) (counters_text h n), length-append (decimal_of h) (32 ∷ decimal_of n))

-- a buffer of 96, into which the fields and the counters were put
module _ (f : Position) (h n : ℕ) (o o₁ o₂ o₃ o₄ o₅ : List ℕ) (a b c d e : ℕ) (r s : Result ℕ ℕ) (l : length o ≡ 96) (hs : h < 65536) (ns : n < 65536)
    (p₁ : Adds o 0 (printed (passed_fields f)) a o₁) (p₂ : Adds o₁ a (32 ∷ []) b o₂) (p₃ : PutsDecimal o₂ b h r o₃) (u₃ : c ≡ used_of r b)
    (p₄ : Adds o₃ c (32 ∷ []) d o₄) (p₅ : PutsDecimal o₄ d n s o₅) (u₅ : e ≡ used_of s d) where
  abbrev four : List ℕ
  four = printed (passed_fields f)

  short : (length four ≤ 81) × (length (decimal_of h) ≤ 5) × (length (decimal_of n) ≤ 5)
  short = (fields_short f, five_long h hs, five_long n ns)

  two : Adds o 0 (four ++ (32 ∷ [])) b o₂
  two = adds_then o o₁ o₂ four (32 ∷ []) 0 a b (simp length-append (omega (arith, short))) p₁ p₂

  three : Adds o 0 ((four ++ (32 ∷ [])) ++ decimal_of h) c o₃
  three =
      adds_then o o₂ o₃ (four ++ (32 ∷ [])) (decimal_of h) 0 b c (simp length-append (omega (arith, short))) two
      (decimal_added o₂ o₃ b h r (omega arith) p₃ c u₃)

  fourth : Adds o 0 (((four ++ (32 ∷ [])) ++ decimal_of h) ++ (32 ∷ [])) d o₄
  fourth = adds_then o o₃ o₄ ((four ++ (32 ∷ [])) ++ decimal_of h) (32 ∷ []) 0 c d (simp length-append (omega (arith, short))) three p₄

  all : Adds o 0 ((((four ++ (32 ∷ [])) ++ decimal_of h) ++ (32 ∷ [])) ++ decimal_of n) e o₅
  all =
      adds_then o o₄ o₅ (((four ++ (32 ∷ [])) ++ decimal_of h) ++ (32 ∷ [])) (decimal_of n) 0 d e (simp length-append (omega (arith, short))) fourth
      (decimal_added o₄ o₅ d n s (omega arith) p₅ e u₅)

  whole : Adds o 0 (record_of f h n) e o₅
  whole = subst (λ (t : List ℕ). Adds o 0 t e o₅) (simp append_assoc) all

  pub record_shown : IsPrefixLen e o₅ × (take e o₅ ≡ record_of f h n)
  record_shown =
      let k : 0 + length (record_of f h n) ≤ length o = omega (arith, short, record_length f h n) in
      let w : e ≤ length o₅ = omega (arith, added_len_lem o (record_of f h n) o₅ 0 e whole k, added_length o (record_of f h n) o₅ 0 e whole k) in
      ((w, sym (length-take-le e o₅ w)), added_bytes o (record_of f h n) o₅ 0 e whole k)

-- bytes put to the front of a slice, as `Writes` says it
module _ (f : Position) (h n : ℕ) (o t after : List ℕ) (r : Result ℕ ℕ) (hs : h < 65536) (ns : n < 65536) (is : t ≡ record_of f h n) (p : Puts o 0 t r after) where
  abbrev all_of : List ℕ
  all_of = record_of f h n

  abbrev said_of : Bool → ℕ × ℕ
  said_of x = cond x (0, 0 + length all_of) (13, min (length all_of) 18446744073709551615)

  abbrev left_of : Bool → List ℕ
  left_of x = cond x (paste o 0 all_of (length all_of)) o

  puts : Puts o 0 all_of r after
  puts = subst (λ (u : List ℕ). Puts o 0 u r after) is p

  size : length all_of ≤ 93
  size = omega (arith, record_length f h n, five_long h hs, five_long n ns)

  front : paste o 0 all_of (length all_of) ≡ all_of ++ drop (length all_of) o
  front = ap₂ (λ (x : List ℕ) (k : ℕ). x ++ drop k o) (take-length all_of) (zero-add (length all_of))

  pub put_count : (k : ℕ) → r ≡ Ok k → Writes [] all_of o (written_says (Ok k)) after
  put_count k e = go (leb (0 + length all_of) (length o)) refl (sym (ap put_says e) ∙ puts.says) puts.holds
    where
      go : (x : Bool) → leb (0 + length all_of) (length o) ≡ x → (0, k) ≡ said_of x → after ≡ left_of x → Writes [] all_of o (told (k ∷ [])) after
      go true q u v =
          let z : k ≡ 0 + length all_of = ap (λ (x : ℕ × ℕ). x.1) u in
          writes_whole k (z ∙ zero-add (length all_of)) (omega (arith, leb-true (0 + length all_of) (length o) q)) (v ∙ front)
      go false q u v = absurd (omega (arith, ap (λ (x : ℕ × ℕ). x.0) u))

  pub put_room : (k : ℕ) → r ≡ Err k → Writes [] all_of o (written_says (Err (room k))) after
  put_room k e = go (leb (0 + length all_of) (length o)) refl (sym (ap put_says e) ∙ puts.says) puts.holds
    where
      go : (x : Bool) → leb (0 + length all_of) (length o) ≡ x → (13, k) ≡ said_of x → after ≡ left_of x → Writes [] all_of o (says 13 (k ∷ [])) after
      go true q u v = absurd (omega (arith, ap (λ (x : ℕ × ℕ). x.0) u))
      go false q u v =
          let z : k ≡ length all_of = omega (arith, size, ap (λ (x : ℕ × ℕ). x.1) u) in
          let s : length o < k = omega (arith, leb-false (0 + length all_of) (length o) q) in
          subst (λ (y : List ℕ). Writes [] all_of o (says 13 (k ∷ [])) y) (sym v) (writes_roomless k z s)

-- 16 stands behind the tests, and before 13
module _ (e : EnPassantFlag) (t o : List ℕ) where
  pub known_writes : (u : List ℕ) (x : Said) (after : List ℕ) → is_known e ≡ true → u ≡ t → Writes [] u o x after → WritesRecord [] e t o x after
  known_writes u x after k q v =
      let w : Writes [] t o x after = subst (λ (l : List ℕ). Writes [] l o x after) q v in
      record {
        answer = w.answer ∙ ap (λ (y : Bool). behind [] (cond y (fitting (length t) (length o)) (says (why_number Unknown) []))) (sym k);
        holds = w.holds;
      }

  pub unknown_writes : is_known e ≡ false → WritesRecord [] e t o (written_says (Err (notWritten Unknown))) o
  unfolding behind first_failing
  unknown_writes k = record { answer = rw k; holds = refl }

  refused_writes : (ts : List Test) (why : Refusal) → number_of why ≡ first_failing ts → WritesRecord ts e t o (written_says (Err (notWritten (Base why)))) o
  refused_writes ts why h = record {
    answer = behind_by (Err why) ts (cond (is_known e) (fitting (length t) (length o)) (says (why_number Unknown) [])) h;
    holds = rw (some_number why);
  }

  behind_writes : (ts : List Test) (x : Said) (after : List ℕ) → first_failing ts ≡ 0 → WritesRecord [] e t o x after → WritesRecord ts e t o x after
  unfolding behind first_failing
  behind_writes ts x after h w = record { answer = w.answer ∙ rw h; holds = w.holds }

-- behind the gate
module _ (b : RetractableBoard) (h n : ℕ) (o : List ℕ) (v : Verdict) (e : v ≡ gate_of b) where
  pub not_written : (why : Refusal) → v ≡ Err why → WritesRecord (board_tests b) b.passant (record_on b h n) o (written_says (Err (notWritten (Base why)))) o
  not_written why k = refused_writes b.passant (record_on b h n) o (board_tests b) why (gate_refuses b v e why k)

  pub written_so : (x : Said) (after : List ℕ) → v ≡ nothing_refused → WritesRecord [] b.passant (record_on b h n) o x after
      → WritesRecord (board_tests b) b.passant (record_on b h n) o x after
  written_so x after k w = behind_writes b.passant (record_on b h n) o (board_tests b) x after (gate_passes b v e k) w
