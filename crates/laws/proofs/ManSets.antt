-- The sets of given men, and the men that arrays of sets show.
use mathlib.Core.Path.{◌≡◌, refl, sym, ap, ap₂, ◌∙◌, subst, fun_ext}
use mathlib.Core.Bool.{Bool, true, false}
use mathlib.Core.List.{List}
use Prim.Native.Nat.{◌^◌, ℕ, ◌+◌, ◌≤◌, ◌<◌}
use lib.Dec.{eqb, leb, ltb}
use borrow.Author.Tests.{ltb-true, ltb-false, lt-ltb, le-ltb}
use Rattle.squares.specs.Tests.{◌and◌}
use Rattle.squares.specs.Squares.{has, flag}
use Rattle.geometry.specs.declared.Color.{Color}
use Rattle.geometry.specs.declared.Color.TheVariants.{White, Black}
use Rattle.laws.specs.declared.Piece.{Piece}
use Rattle.laws.specs.declared.Piece.TheVariants.{Pawn, Knight, Bishop, Rook, Queen, King}
use Rattle.laws.specs.Men.{Man, empty, man, Men, is_of, is_kind}
use Rattle.laws.specs.Boards.{Clean, kind_set, color_set, kind_by, man_by, men_at, kinds_at, colors_at, men_ok, kind_sets, color_sets}
use Rattle.squares.proofs.Comprehension.{up_to_lt, has_set_of}
use Rattle.squares.proofs.Every.{all_of}
use Rattle.laws.proofs.Cases.{by_men}

-- the men stand on the 64 squares
abbrev pub OnBoard : Men → Type 0
OnBoard m = (k : ℕ) → 64 ≤ k → m k ≡ empty

by_its_sets : (x : Man) → man_by (is_of White x) (is_of Black x) (kind_by (is_kind Pawn x) (is_kind Knight x) (is_kind Bishop x) (is_kind Rook x) (is_kind Queen x)) ≡ x
by_its_sets empty = refl
by_its_sets (man White Pawn) = refl
by_its_sets (man White Knight) = refl
by_its_sets (man White Bishop) = refl
by_its_sets (man White Rook) = refl
by_its_sets (man White Queen) = refl
by_its_sets (man White King) = refl
by_its_sets (man Black Pawn) = refl
by_its_sets (man Black Knight) = refl
by_its_sets (man Black Bishop) = refl
by_its_sets (man Black Rook) = refl
by_its_sets (man Black Queen) = refl
by_its_sets (man Black King) = refl

-- what stands on a square of the sets of m
module _ (m : Men) (a : ℕ) (h : a < 64) where
  pub of_kind : (k : Piece) → has (kind_set (kind_sets m) k) a ≡ is_kind k (m a)
  unfolding kind_sets
  of_kind Pawn = has_set_of (λ j. is_kind Pawn (m j)) a h
  of_kind Knight = has_set_of (λ j. is_kind Knight (m j)) a h
  of_kind Bishop = has_set_of (λ j. is_kind Bishop (m j)) a h
  of_kind Rook = has_set_of (λ j. is_kind Rook (m j)) a h
  of_kind Queen = has_set_of (λ j. is_kind Queen (m j)) a h
  of_kind King = has_set_of (λ j. is_kind King (m j)) a h

  pub of_colour : (c : Color) → has (color_set (color_sets m) c) a ≡ is_of c (m a)
  unfolding color_sets
  of_colour White = has_set_of (λ j. is_of White (m j)) a h
  of_colour Black = has_set_of (λ j. is_of Black (m j)) a h

pub men_shown : (m : Men) → OnBoard m → men_at (kind_sets m) (color_sets m) ≡ m
unfolding men_at
men_shown m on = fun_ext λ a. go a (ltb a 64) refl
  where
    shown : ℕ → Man
    shown a =
        man_by (has (color_set (color_sets m) White) a) (has (color_set (color_sets m) Black) a)
        (kind_by (has (kind_set (kind_sets m) Pawn) a) (has (kind_set (kind_sets m) Knight) a) (has (kind_set (kind_sets m) Bishop) a) (has (kind_set (kind_sets m) Rook) a) (has (kind_set (kind_sets m) Queen) a))

    go : (a : ℕ) (t : Bool) → ltb a 64 ≡ t → (elim t as (λ _. Man) [ true ↦ shown a | false ↦ empty ]) ≡ m a
    go a true e =
        let h : a < 64 = ltb-true a 64 e in
        (λ i. man_by (of_colour m a h White i) (of_colour m a h Black i)
        (kind_by (of_kind m a h Pawn i) (of_kind m a h Knight i) (of_kind m a h Bishop i) (of_kind m a h Rook i) (of_kind m a h Queen i)))
        ∙ by_its_sets (m a)
    go a false e = sym (on a (ltb-false a 64 e))

-- a man has one kind and one colour
abbrev one_kind : Man → Bool
one_kind x =
    eqb (flag (is_kind Pawn x) + flag (is_kind Knight x) + flag (is_kind Bishop x) + flag (is_kind Rook x) + flag (is_kind Queen x) + flag (is_kind King x))
    (flag (is_of White x) + flag (is_of Black x))
    and leb (flag (is_kind Pawn x) + flag (is_kind Knight x) + flag (is_kind Bishop x) + flag (is_kind Rook x) + flag (is_kind Queen x) + flag (is_kind King x)) 1

pub men_ok_lem : (m : Men) → men_ok (kind_sets m) (color_sets m) ≡ true
unfolding men_ok ◌and◌
men_ok_lem m = all_of 64 (λ a. eqb (kinds_at (kind_sets m) a) (colors_at (color_sets m) a) and leb (kinds_at (kind_sets m) a) 1) at
  where
    at : (a : ℕ) → a < 64 → (eqb (kinds_at (kind_sets m) a) (colors_at (color_sets m) a) and leb (kinds_at (kind_sets m) a) 1) ≡ true
    at a h = ap₂ (λ (x y : ℕ). eqb x y and leb x 1) kinds colours ∙ by_men one_kind refl (m a)
      where
        kinds : kinds_at (kind_sets m) a ≡ flag (is_kind Pawn (m a)) + flag (is_kind Knight (m a)) + flag (is_kind Bishop (m a)) + flag (is_kind Rook (m a)) + flag (is_kind Queen (m a)) + flag (is_kind King (m a))
        kinds = λ i. flag (of_kind m a h Pawn i) + flag (of_kind m a h Knight i) + flag (of_kind m a h Bishop i) + flag (of_kind m a h Rook i) + flag (of_kind m a h Queen i) + flag (of_kind m a h King i)

        colours : colors_at (color_sets m) a ≡ flag (is_of White (m a)) + flag (is_of Black (m a))
        colours = λ i. flag (of_colour m a h White i) + flag (of_colour m a h Black i)

-- what stands on a square of the board
pub shown_at : (pieces colors : List ℕ) (a : ℕ) → a < 64 → men_at pieces colors a
    ≡ man_by (has (color_set colors White) a) (has (color_set colors Black) a)
    (kind_by (has (kind_set pieces Pawn) a) (has (kind_set pieces Knight) a) (has (kind_set pieces Bishop) a) (has (kind_set pieces Rook) a) (has (kind_set pieces Queen) a))
unfolding men_at
shown_at pieces colors a h = rw (lt-ltb a 64 h, men_at)

-- nothing stands on 64 and above
pub men_on : (pieces colors : List ℕ) → OnBoard (men_at pieces colors)
unfolding men_at
men_on pieces colors k h = rw (men_at, le-ltb k 64 h)

-- the sets of men are sets of the 64 squares
pub kinds_lt : (m : Men) (k : Piece) → kind_set (kind_sets m) k < 2 ^ 64
unfolding kind_sets
kinds_lt m Pawn = up_to_lt 64 _
kinds_lt m Knight = up_to_lt 64 _
kinds_lt m Bishop = up_to_lt 64 _
kinds_lt m Rook = up_to_lt 64 _
kinds_lt m Queen = up_to_lt 64 _
kinds_lt m King = up_to_lt 64 _

pub colours_lt : (m : Men) (c : Color) → color_set (color_sets m) c < 2 ^ 64
unfolding color_sets
colours_lt m White = up_to_lt 64 _
colours_lt m Black = up_to_lt 64 _

-- the sets of clean men, by the man on each square
module _ (pieces colors : List ℕ) (ok : Clean pieces colors) where
  pub has_kind : (k : Piece) (a : ℕ) → a < 64 → has (kind_set pieces k) a ≡ is_kind k (men_at pieces colors a)
  has_kind k a h = ap (λ (s : List ℕ). has (kind_set s k) a) ok.kinds ∙ of_kind (men_at pieces colors) a h k

  pub has_colour : (c : Color) (a : ℕ) → a < 64 → has (color_set colors c) a ≡ is_of c (men_at pieces colors a)
  has_colour c a h = ap (λ (s : List ℕ). has (color_set s c) a) ok.colours ∙ of_colour (men_at pieces colors) a h c

  pub kind_lt : (k : Piece) → kind_set pieces k < 2 ^ 64
  kind_lt k = subst (λ (s : List ℕ). kind_set s k < 2 ^ 64) (sym ok.kinds) (kinds_lt (men_at pieces colors) k)

  pub colour_lt : (c : Color) → color_set colors c < 2 ^ 64
  colour_lt c = subst (λ (s : List ℕ). color_set s c < 2 ^ 64) (sym ok.colours) (colours_lt (men_at pieces colors) c)
