-- A line says one retraction, the one that is read: the reader inverts the printer.
use mathlib.Core.Path.{◌≡◌, refl, sym, ap, ap₂, ◌∙◌}
use mathlib.Core.Logic.{◌⊎◌, inl, inr}
use mathlib.Core.Bool.{Bool, true, false, cond}
use mathlib.Core.List.{List, [], ◌∷◌}
use Prim.Native.Nat.{ℕ, zero, suc, ◌+◌, ◌/◌, ◌%◌, ◌≤◌, ◌<◌}
use native.Mathlib.Omega.{arith}
use lib.Dec.{eqb}
use lib.ListN.{get_or}
use borrow.Author.Tests.{ne_eqb, eqb-true, eqb-false}
use Rattle.laws.specs.declared.ChessRetraction.{ChessRetraction}
use Rattle.laws.specs.Retractions.{InRange}
use Rattle.rows.specs.Rows.{uncaptured_letter, mark_byte, fields_by}
use Rattle.solution_lines.specs.Lines.{Says}
use Rattle.solution_lines.specs.inner.Reading.{square_from, letter_number, leniently}

square_back : (s : ℕ) → s < 64 → square_from (97 + s % 8) (49 + s / 8) ≡ s
square_back s h = omega arith

letter_back : (u : ℕ) → u ≤ 5 → letter_number (uncaptured_letter u) ≡ u
unfolding letter_number uncaptured_letter
letter_back zero h = refl
letter_back (suc zero) h = refl
letter_back (suc (suc zero)) h = refl
letter_back (suc (suc (suc zero))) h = refl
letter_back (suc (suc (suc (suc zero)))) h = refl
letter_back (suc (suc (suc (suc (suc zero))))) h = refl
letter_back (suc (suc (suc (suc (suc (suc n)))))) h = absurd (omega arith)

mark_back : (b : Bool) → eqb (mark_byte b) 61 ≡ b
mark_back true = refl
mark_back false = refl

pub read_printed : (r : ChessRetraction) → InRange r → leniently (fields_by r) ≡ r
unfolding leniently
read_printed r h =
    λ i. record {
      source = square_back r.source h.source_in i;
      target = square_back r.target h.target_in i;
      uncaptured = letter_back r.uncaptured h.uncaptured_in i;
      unpromotion = mark_back r.unpromotion i;
    }

pub says_read : {r : ChessRetraction} {l : List ℕ} → Says r l → leniently l ≡ r
says_read {r} h = sym (ap leniently h.1) ∙ read_printed r h.0

pub says_one : {r q : ChessRetraction} {l : List ℕ} → Says r l → Says q l → r ≡ q
says_one h k = sym (says_read h) ∙ says_read k

-- whatever the bytes, what is read is in range
letter_in : (b : ℕ) → letter_number b ≤ 5
unfolding letter_number
letter_in b = go (eqb b 80) (eqb b 78) (eqb b 66) (eqb b 82) (eqb b 81)
  where
    go : (p n s r q : Bool) → cond p 1 (cond n 2 (cond s 3 (cond r 4 (cond q 5 0)))) ≤ 5
    go true n s r q = omega arith
    go false true s r q = omega arith
    go false false true r q = omega arith
    go false false false true q = omega arith
    go false false false false true = omega arith
    go false false false false false = omega arith

lenient_in : (l : List ℕ) → InRange (leniently l)
unfolding leniently
lenient_in l = record { source_in = omega arith; target_in = omega arith; uncaptured_in = letter_in (get_or l 5 0) }

same_or_not : (a l : List ℕ) → (a ≡ l) ⊎ (a ≡ l → ⊥)
same_or_not [] [] = inl refl
same_or_not [] (y ∷ l) = inr (λ e. omega (arith, (let w : ◌≡◌ {A = ℕ} 0 1 = cc in w)))
same_or_not (x ∷ a) [] = inr (λ e. omega (arith, (let w : ◌≡◌ {A = ℕ} 0 1 = cc in w)))
same_or_not (x ∷ a) (y ∷ l) = go (eqb x y) refl (same_or_not a l)
  where
    go : (b : Bool) → eqb x y ≡ b → (a ≡ l) ⊎ (a ≡ l → ⊥) → (x ∷ a ≡ y ∷ l) ⊎ (x ∷ a ≡ y ∷ l → ⊥)
    go true e (inl q) = inl (ap₂ (λ (z : ℕ) (k : List ℕ). z ∷ k) (eqb-true x y e) q)
    go true e (inr f) = inr (λ q. f (cc))
    go false e d = inr (λ q. eqb-false x y e (cc))

-- a line of which it is not so that it says nothing says what is read
pub says_something : (l : List ℕ) → (((r : ChessRetraction) → Says r l → ⊥) → ⊥) → Says (leniently l) l
says_something l f = go (same_or_not (fields_by (leniently l)) l)
  where
    go : (fields_by (leniently l) ≡ l) ⊎ (fields_by (leniently l) ≡ l → ⊥) → Says (leniently l) l
    go (inl e) = (lenient_in l, e)
    go (inr n) = absurd (f (λ r h. n (ap fields_by (says_read h) ∙ h.1)))

-- no letter of a man
pub letter_none : (b : ℕ) → (b ≡ 80 → ⊥) → (b ≡ 78 → ⊥) → (b ≡ 66 → ⊥) → (b ≡ 82 → ⊥) → (b ≡ 81 → ⊥) → 0 ≡ letter_number b
unfolding letter_number
letter_none b p n s r q = rw (ne_eqb b 80 p, ne_eqb b 78 n, ne_eqb b 66 s, ne_eqb b 82 r, ne_eqb b 81 q)

-- the bytes that are read, one by one
pub read_is : (l : List ℕ) {s t u b0 b1 b2 b3 b5 b7 : ℕ} → b0 ≡ get_or l 0 0 → b1 ≡ get_or l 1 0 → b2 ≡ get_or l 2 0 → b3 ≡ get_or l 3 0 → b5 ≡ get_or l 5 0 → b7 ≡ get_or l 7 0
    → s ≡ square_from b0 b1 → t ≡ square_from b2 b3 → u ≡ letter_number b5 → record { source = s; target = t; uncaptured = u; unpromotion = eqb b7 61 } ≡ leniently l
unfolding leniently
read_is l e0 e1 e2 e3 e5 e7 es et eu =
    λ i. record {
      source = (es ∙ ap₂ square_from e0 e1) i;
      target = (et ∙ ap₂ square_from e2 e3) i;
      uncaptured = (eu ∙ ap letter_number e5) i;
      unpromotion = ap (λ (b : ℕ). eqb b 61) e7 i;
    }
