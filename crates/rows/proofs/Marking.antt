-- A set of numbers as bits: one number more, a list's slots, and the rows by a set.
use mathlib.Core.Path.{◌≡◌, refl, sym, ap, ap₂, ◌∙◌, fun_ext}
use mathlib.Core.Bool.{Bool, true, false}
use mathlib.Core.List.{List, []}
use Prim.Native.Nat.{ℕ, zero, suc, ◌+◌, ◌/◌, ◌%◌, ◌≤◌, ◌<◌}
use native.Mathlib.Numerals.{add-one}
use native.Mathlib.Omega.{arith}
use lib.Bits.{bit_or}
use lib.Dec.{eqb}
use lib.ListN.{length, get_or, set, drop, replicate, length-set, length-replicate}
use lib.Seq.{get_or-set_same, get_or-set_other, drop-cons}
use borrow.Author.Tests.{eq-eqb, ne_eqb, eqb-true, eqb-false}
use Rattle.squares.specs.Tests.{◌or◌}
use Rattle.squares.specs.Squares.{has, only}
use Rattle.squares.proofs.Testing.{bool_ext, or_false}
use Rattle.squares.proofs.Digits.{has_or, has_zero}
use Rattle.squares.proofs.Comprehension.{has_set_of}
use Rattle.rows.specs.Rows.{is_in, listed_row, strict_row}
use Rattle.rows.specs.inner.Marked.{marked, Marks, MarksOf, listed_by, strict_by}
use Rattle.rows.proofs.Rows.{in_none, listed_row_lem, strict_row_lem}

swap : (a b : Bool) → (a or b) ≡ (b or a)
unfolding ◌or◌
swap true true = refl
swap true false = refl
swap false true = refl
swap false false = refl

none : (b : Bool) → (false or b) ≡ b
unfolding ◌or◌
none b = refl

-- a member goes from those that are to come to those that are marked
moved : (e m d : Bool) → ((e or m) or d) ≡ (m or (e or d))
unfolding ◌or◌
moved true true d = refl
moved true false d = refl
moved false m d = refl

same_bit : (i k : ℕ) → k / 64 ≡ i / 64 → eqb (k % 64) (i % 64) ≡ eqb i k
same_bit i k e = bool_ext _ _ (λ h. eq-eqb i k (one (eqb-true (k % 64) (i % 64) h))) (λ h. eq-eqb (k % 64) (i % 64) (ap (λ (x : ℕ). x % 64) (sym (eqb-true i k h))))
  where
    one : k % 64 ≡ i % 64 → i ≡ k
    one q = omega arith

pub mark_is : (w : List ℕ) (i x : ℕ) → i / 64 < length w → x ≡ only (i % 64) → Marks w i (set w (i / 64) (bit_or (get_or w (i / 64) 0) x))
unfolding marked
mark_is w i x h e = record { each = λ k. go k (eqb (k / 64) (i / 64)) refl; long = length-set w (i / 64) v }
  where
    v : ℕ
    v = bit_or (get_or w (i / 64) 0) x

    go : (k : ℕ) (t : Bool) → eqb (k / 64) (i / 64) ≡ t → has (get_or (set w (i / 64) v) (k / 64) 0) (k % 64) ≡ (eqb i k or has (get_or w (k / 64) 0) (k % 64))
    go k true q =
        let s : k / 64 ≡ i / 64 = eqb-true (k / 64) (i / 64) q in
        ap (λ (j : ℕ). has (get_or (set w (i / 64) v) j 0) (k % 64)) s
        ∙ ap (λ (y : ℕ). has y (k % 64)) (get_or-set_same w (i / 64) v 0 h)
        ∙ has_or (get_or w (i / 64) 0) x (k % 64)
        ∙ swap (has (get_or w (i / 64) 0) (k % 64)) (has x (k % 64))
        ∙ ap₂ (λ (a b : Bool). a or b)
        (ap (λ (y : ℕ). has y (k % 64)) e ∙ has_set_of (λ j. eqb j (i % 64)) (k % 64) (omega arith) ∙ same_bit i k s)
        (ap (λ (j : ℕ). has (get_or w j 0) (k % 64)) (sym s))
    go k false q =
        let s : k / 64 ≡ i / 64 → ⊥ = eqb-false (k / 64) (i / 64) q in
        ap (λ (y : ℕ). has y (k % 64)) (get_or-set_other w (i / 64) (k / 64) v 0 s)
        ∙ sym (ap (λ (b : Bool). b or has (get_or w (k / 64) 0) (k % 64)) (ne_eqb i k (λ z. s (ap (λ (y : ℕ). y / 64) (sym z)))) ∙ none _)

zeros : (n i : ℕ) → ◌≡◌ {A = ℕ} (get_or (replicate n 0) i 0) 0
zeros zero i = refl
zeros (suc n) zero = refl
zeros (suc n) (suc i) = zeros n i

-- words of zeros are the empty set
pub none_marked : (n k : ℕ) → marked (replicate n 0) k ≡ false
unfolding marked
none_marked n k = ap (λ (x : ℕ). has x (k % 64)) (zeros n (k / 64)) ∙ has_zero (k % 64)

pub marks_none : MarksOf [] (replicate 1024 0)
unfolding is_in
marks_none = record { each = none_marked 1024; long = length-replicate {A = ℕ} 1024 0 }

-- the slots before i are marked, and those from i on are to come
abbrev pub Marking : List ℕ → List ℕ → ℕ → Type 0
Marking slots w i = (slot : ℕ) → (marked w slot or is_in slot (drop i slots)) ≡ is_in slot slots

pub marking_none : (slots w : List ℕ) → MarksOf [] w → Marking slots w 0
unfolding is_in
marking_none slots w m slot = ap (λ (b : Bool). b or is_in slot slots) (m.each slot) ∙ none (is_in slot slots)

pub marking_next : (slots w v : List ℕ) (i : ℕ) → i < length slots → Marking slots w i → Marks w (get_or slots i 0) v → Marking slots v (i + 1)
unfolding is_in
marking_next slots w v i h m q slot =
    ap (λ (b : Bool). b or is_in slot (drop (i + 1) slots)) (q.each slot)
    ∙ moved (eqb (get_or slots i 0) slot) (marked w slot) (is_in slot (drop (i + 1) slots))
    ∙ ap (λ (b : Bool). marked w slot or b) (rw (drop-cons slots i 0 h, add-one))
    ∙ m slot

pub marking_all : (slots w : List ℕ) (i : ℕ) → i ≤ length slots → length slots ≤ i → Marking slots w i → length w ≡ 1024 → MarksOf slots w
marking_all slots w i h k m l = record {
  each = λ slot. sym (ap (λ (b : Bool). marked w slot or b) (in_none slot slots i h k) ∙ or_false (marked w slot)) ∙ m slot;
  long = l;
}

-- the rows by a set are the rows by its list
pub listed_same : {strict w : List ℕ} → MarksOf strict w → listed_by w ≡ listed_row strict
listed_same m = fun_ext λ slot. listed_row_lem slot (m.each slot)

pub strict_same : {listed w : List ℕ} → MarksOf listed w → strict_by w ≡ strict_row listed
strict_same m = fun_ext λ slot. strict_row_lem slot (m.each slot)
