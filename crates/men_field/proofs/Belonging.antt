-- The sets of 64 numbers of men are the sets of the men that they are.
use mathlib.Core.Path.{◌≡◌, refl, sym, ◌∙◌, ap}
use mathlib.Core.Bool.{Bool, true, false, cond}
use mathlib.Core.List.{List}
use Prim.Native.Nat.{ℕ, zero, suc, ◌/◌, ◌%◌, ◌<◌, ◌+◌}
use lib.Dec.{eqb, leb, ltb}
use native.Mathlib.Omega.{arith}
use lib.ListN.{get_or}
use borrow.Author.Tests.{lt-ltb, le-ltb, ne_eqb}
use Rattle.squares.specs.Tests.{◌and◌}
use Rattle.squares.specs.Squares.{set_of, all_to}
use Rattle.geometry.specs.declared.Color.{Color}
use Rattle.geometry.specs.declared.Color.TheVariants.{White, Black}
use Rattle.laws.specs.declared.Piece.{Piece}
use Rattle.laws.specs.declared.Piece.TheVariants.{Pawn, Knight, Bishop, Rook, Queen, King}
use Rattle.laws.specs.Men.{Man, kind_place, color_place, man_number, same_man, is_kind, is_of}
use Rattle.men_field.specs.inner.Letters.{place_of, man_by_number, men_by_numbers, belongs}
use Rattle.squares.proofs.Testing.{agree, agree_eq}
use Rattle.squares.proofs.Comprehension.{up_to_cong}
use Rattle.squares.proofs.Every.{all_at}
use Rattle.laws.proofs.Cases.{by_men}
use Rattle.laws.proofs.Mans.{same}
use Rattle.laws.proofs.ManSets.{OnBoard}

-- a number below 2 is no man's
pub nobody : (w n : ℕ) → n < 2 → false ≡ belongs w n
unfolding belongs ◌and◌
nobody w n l = go n l (ltb w 6)
  where
    go : (j : ℕ) → j < 2 → (b : Bool) → false ≡ cond b (eqb (j % 14 / 2) (w + 1)) (leb 2 (j % 14) and eqb (j % 14 % 2 + 6) w)
    go zero h true = sym (ne_eqb 0 (w + 1) (λ e. absurd (omega arith)))
    go zero h false = refl
    go (suc zero) h true = sym (ne_eqb 0 (w + 1) (λ e. absurd (omega arith)))
    go (suc zero) h false = refl
    go (suc (suc j)) h b = absurd (omega arith)

-- computed over the fourteen numbers
right_kind : Piece → ℕ → Bool
right_kind k n = agree (belongs (kind_place k) n) (is_kind k (man_by_number n))

every_kind : (k : Piece) → all_to 14 (right_kind k) ≡ true
unfolding right_kind belongs man_by_number all_to ◌and◌
every_kind Pawn = refl
every_kind Knight = refl
every_kind Bishop = refl
every_kind Rook = refl
every_kind Queen = refl
every_kind King = refl

right_color : Color → ℕ → Bool
right_color c n = agree (belongs (6 + color_place c) n) (is_of c (man_by_number n))

every_color : (c : Color) → all_to 14 (right_color c) ≡ true
unfolding right_color belongs man_by_number all_to ◌and◌
every_color White = refl
every_color Black = refl

-- a number and its remainder are the same man
round : (n : ℕ) → n % 14 % 14 ≡ n % 14
round n = omega arith

kind_low : (k : Piece) (n : ℕ) → n < 14 → belongs (kind_place k) n ≡ is_kind k (man_by_number n)
unfolding right_kind
kind_low k n h = agree_eq (belongs (kind_place k) n) (is_kind k (man_by_number n)) (all_at 14 (right_kind k) (every_kind k) n h)

kind_in : (k : Piece) (n : ℕ) → belongs (kind_place k) n ≡ is_kind k (man_by_number n)
unfolding belongs man_by_number
kind_in k n = let e = kind_low k (n % 14) (omega arith) in simp (round n) at e

color_low : (c : Color) (n : ℕ) → n < 14 → belongs (6 + color_place c) n ≡ is_of c (man_by_number n)
unfolding right_color
color_low c n h = agree_eq (belongs (6 + color_place c) n) (is_of c (man_by_number n)) (all_at 14 (right_color c) (every_color c) n h)

color_in : (c : Color) (n : ℕ) → belongs (6 + color_place c) n ≡ is_of c (man_by_number n)
unfolding belongs man_by_number
color_in c n = let e = color_low c (n % 14) (omega arith) in simp (round n) at e

man_there : (l : List ℕ) (k : ℕ) → k < 64 → men_by_numbers l k ≡ man_by_number (get_or l (place_of k) 0)
unfolding men_by_numbers
man_there l k h = rw (lt-ltb k 64 h)

pub men_of_on : (l : List ℕ) → OnBoard (men_by_numbers l)
unfolding men_by_numbers
men_of_on l k h = rw (le-ltb k 64 h)

pub kind_set : (l : List ℕ) (k : Piece) → set_of (λ a. belongs (kind_place k) (get_or l (place_of a) 0)) ≡ set_of (λ a. is_kind k (men_by_numbers l a))
kind_set l k = up_to_cong 64 _ _ (λ a h. kind_in k (get_or l (place_of a) 0) ∙ ap (is_kind k) (sym (man_there l a h)))

pub color_set : (l : List ℕ) (c : Color) → set_of (λ a. belongs (6 + color_place c) (get_or l (place_of a) 0)) ≡ set_of (λ a. is_of c (men_by_numbers l a))
color_set l c = up_to_cong 64 _ _ (λ a h. color_in c (get_or l (place_of a) 0) ∙ ap (is_of c) (sym (man_there l a h)))

-- a man is the man of its number
pub man_back : (x : Man) → man_by_number (man_number x) ≡ x
unfolding man_by_number ◌and◌
man_back x = same (man_by_number (man_number x)) x (by_men (λ y. same_man (man_by_number (man_number y)) y) refl x)
