-- The search for a slot, and what a row is.
use mathlib.Core.Path.{◌≡◌, refl, ◌∙◌, ap, ap₂}
use mathlib.Core.Bool.{Bool, true, false, cond}
use mathlib.Core.List.{List, [], ◌∷◌, ◌++◌}
use Prim.Native.Nat.{ℕ, zero, suc, ◌+◌, ◌*◌, ◌≤◌}
use native.Mathlib.Omega.{arith}
use lib.Dec.{eqb}
use lib.ListN.{length, get_or, drop, length-append}
use lib.Seq.{drop-length}
use Rattle.std.specs.Prelude.{not, count_by}
use Rattle.std.specs.List.{list_any}
use Rattle.std.proofs.lemmas.List.Sums.{sum_by-cons}
use Rattle.squares.specs.Tests.{◌or◌}
use Rattle.squares.specs.Squares.{file, rank}
use Rattle.squares.specs.Members.{concat}
use Rattle.laws.specs.declared.ChessRetraction.{ChessRetraction}
use Rattle.laws.specs.Retractions.{unpacked}
use Rattle.men_field.specs.Placement.{square_name}
use Rattle.rows.specs.Rows.{uncaptured_letter, mark_byte, fields_by, row_by, row_of, is_in, plus, minus, star, listed_row}
use Rattle.rows.specs.inner.Marked.{marked, strict_by}

-- the search for a slot, in the library's words
pub in_any : (slot : ℕ) (l : List ℕ) → list_any (λ x. eqb x slot) l ≡ is_in slot l
unfolding is_in ◌or◌
in_any slot [] = refl
in_any slot (x ∷ l) = ap (λ (b : Bool). eqb x slot or b) (in_any slot l)

pub in_none : (slot : ℕ) (l : List ℕ) (i : ℕ) → i ≤ length l → length l ≤ i → is_in slot (drop i l) ≡ false
unfolding is_in
in_none slot l i h k = let e : i ≡ length l = omega arith in ap (is_in slot) (ap (λ (j : ℕ). drop j l) e ∙ drop-length l)

-- a number that is none of the five has no letter
pub letter_none : (u : ℕ) → (u ≡ 1 → ⊥) → (u ≡ 2 → ⊥) → (u ≡ 3 → ⊥) → (u ≡ 4 → ⊥) → (u ≡ 5 → ⊥) → 46 ≡ uncaptured_letter u
unfolding uncaptured_letter
letter_none zero a b c d e = refl
letter_none (suc zero) a b c d e = absurd (a refl)
letter_none (suc (suc zero)) a b c d e = absurd (b refl)
letter_none (suc (suc (suc zero))) a b c d e = absurd (c refl)
letter_none (suc (suc (suc (suc zero)))) a b c d e = absurd (d refl)
letter_none (suc (suc (suc (suc (suc zero))))) a b c d e = absurd (e refl)
letter_none (suc (suc (suc (suc (suc (suc n)))))) a b c d e = refl

-- the eight bytes of a retraction's fields, and the eleven of a row
pub fields_is : (letter mark : ℕ) (r : ChessRetraction) → letter ≡ uncaptured_letter r.uncaptured → mark ≡ mark_byte r.unpromotion
    → (97 + file r.source) ∷ (49 + rank r.source) ∷ (97 + file r.target) ∷ (49 + rank r.target) ∷ 32 ∷ letter ∷ 32 ∷ mark ∷ [] ≡ fields_by r
fields_is letter mark r a b = ap₂ (λ (x y : ℕ). square_name r.source ++ square_name r.target ++ (32 ∷ x ∷ 32 ∷ y ∷ [])) a b

pub row_is : (slot sign : ℕ) (f : List ℕ) (r : ChessRetraction) → r ≡ unpacked slot → f ≡ fields_by r
    → get_or f 0 0 ∷ get_or f 1 0 ∷ get_or f 2 0 ∷ get_or f 3 0 ∷ get_or f 4 0 ∷ get_or f 5 0 ∷ get_or f 6 0 ∷ get_or f 7 0 ∷ 32 ∷ sign ∷ 10 ∷ [] ≡ row_of slot sign
row_is slot sign f r e h =
    ap (λ (g : List ℕ). get_or g 0 0 ∷ get_or g 1 0 ∷ get_or g 2 0 ∷ get_or g 3 0 ∷ get_or g 4 0 ∷ get_or g 5 0 ∷ get_or g 6 0 ∷ get_or g 7 0 ∷ 32 ∷ sign ∷ 10 ∷ []) h
    ∙ ap (λ (x : ChessRetraction). row_by x sign) e

-- the row by what is said of the slot in the other list
pub listed_row_lem : (slot : ℕ) {t u : Bool} → t ≡ u → row_of slot (cond t plus minus) ≡ row_of slot (cond u plus minus)
listed_row_lem slot e = ap (λ (b : Bool). row_of slot (cond b plus minus)) e

pub strict_row_lem : (slot : ℕ) {t u : Bool} → t ≡ u → cond t [] (row_of slot star) ≡ cond u [] (row_of slot star)
strict_row_lem slot e = ap (λ (b : Bool). cond b [] (row_of slot star)) e

-- each listed retraction has a row of 11 bytes
pub listed_size : (strict l : List ℕ) → length (concat (listed_row strict) l) ≡ 11 * length l
unfolding concat
listed_size strict [] = refl
listed_size strict (x ∷ l) = omega (arith, length-append (listed_row strict x) (concat (listed_row strict) l), listed_size strict l)

-- and each strict one that is not listed
pub strict_size : (listed l : List ℕ) → 11 * count_by (λ slot. not (marked listed slot)) l ≡ length (concat (strict_by listed) l)
unfolding concat
strict_size listed [] = refl
strict_size listed (x ∷ l) =
    omega (
      arith,
      sum_by-cons (λ slot. cond (not (marked listed slot)) 1 0) x l,
      length-append (strict_by listed x) (concat (strict_by listed) l),
      row (marked listed x),
      strict_size listed l,
    )
  where
    row : (t : Bool) → length (cond t [] (row_of x star)) ≡ 11 * cond (not t) 1 0
    row true = refl
    row false = refl
