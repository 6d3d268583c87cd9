-- Arrays that pass refusal 1 are clean.
use mathlib.Core.Path.{◌≡◌, refl, sym, ap, ◌∙◌, subst}
use mathlib.Core.Bool.{Bool, true}
use mathlib.Core.List.{List}
use Prim.Native.Nat.{ℕ, zero, suc, ◌+◌, ◌<◌, ◌≤◌, ◌^◌}
use native.Mathlib.Nat.{not-suc-le-zero, le_of_suc-le-suc}
use native.Mathlib.Omega.{arith}
use lib.Dec.{eqb, leb}
use lib.Pow.{pow_pos}
use lib.ListN.{length, get_or, get_or-eq_default}
use lib.Seq.{ext_get_or}
use Rattle.squares.specs.Tests.{◌and◌}
use Rattle.squares.specs.Squares.{has, flag, set_of}
use Rattle.geometry.specs.declared.Color.{Color}
use Rattle.geometry.specs.declared.Color.TheVariants.{White, Black}
use Rattle.laws.specs.declared.Piece.{Piece}
use Rattle.laws.specs.declared.Piece.TheVariants.{Pawn, Knight, Bishop, Rook, Queen, King}
use Rattle.laws.specs.declared.Board.{Board}
use Rattle.laws.specs.Men.{Man, is_of, is_kind}
use Rattle.laws.specs.Boards.{kind_set, color_set, kind_by, man_by, men_at, kinds_at, colors_at, men_ok, kind_sets, color_sets, Clean, Shaped}
use Rattle.squares.proofs.Testing.{agree, agree_eq}
use Rattle.squares.proofs.Comprehension.{is_up_to}
use Rattle.squares.proofs.Every.{all_at}
use Rattle.laws.proofs.ManSets.{shown_at}
use Rattle.laws.proofs.Cases.{implies, given, by_colors, by_kinds, every, by_cases}

-- the eight tests of a square, by colour and by kind
abbrev by_color : Color → (w b : Bool) → Bool
by_color White w b = w
by_color Black w b = b

abbrev by_kind : Piece → (p n l r q k : Bool) → Bool
by_kind Pawn p n l r q k = p
by_kind Knight p n l r q k = n
by_kind Bishop p n l r q k = l
by_kind Rook p n l r q k = r
by_kind Queen p n l r q k = q
by_kind King p n l r q k = k

-- 1 of a square, by its eight tests, and the man that they show
abbrev pub ok_by : (w b p n l r q k : Bool) → Bool
ok_by w b p n l r q k =
    eqb (flag p + flag n + flag l + flag r + flag q + flag k) (flag w + flag b) and leb (flag p + flag n + flag l + flag r + flag q + flag k) 1

abbrev shown : (w b p n l r q k : Bool) → Man
shown w b p n l r q k = man_by w b (kind_by p n l r q)

abbrev color_law : Color → (w b p n l r q k : Bool) → Bool
color_law c w b p n l r q k = implies (ok_by w b p n l r q k) (agree (by_color c w b) (is_of c (shown w b p n l r q k)))

abbrev kind_law : Piece → (w b p n l r q k : Bool) → Bool
kind_law x w b p n l r q k = implies (ok_by w b p n l r q k) (agree (by_kind x p n l r q k) (is_kind x (shown w b p n l r q k)))

color_law_lem : (c : Color) (w b p n l r q k : Bool) → color_law c w b p n l r q k ≡ true
unfolding ◌and◌
color_law_lem c = by_cases 8 (color_law c) (by_colors (λ d. every 8 (color_law d)) refl c)

kind_law_lem : (x : Piece) (w b p n l r q k : Bool) → kind_law x w b p n l r q k ≡ true
unfolding ◌and◌
kind_law_lem x = by_cases 8 (kind_law x) (by_kinds (λ y. every 8 (kind_law y)) refl x)

module _ (pieces colors : List ℕ) (ok : men_ok pieces colors ≡ true) (a : ℕ) (h : a < 64) where
  -- the eight tests at the square a
  abbrev at : {A : Type 0} → ((w b p n l r q k : Bool) → A) → A
  at f =
      f (has (color_set colors White) a) (has (color_set colors Black) a) (has (kind_set pieces Pawn) a) (has (kind_set pieces Knight) a) (has (kind_set pieces Bishop) a)
      (has (kind_set pieces Rook) a) (has (kind_set pieces Queen) a) (has (kind_set pieces King) a)

  at_law : (f : (w b p n l r q k : Bool) → Bool) → ((w b p n l r q k : Bool) → f w b p n l r q k ≡ true) → at f ≡ true
  at_law f e = e _ _ _ _ _ _ _ _

  there : men_at pieces colors a ≡ at shown
  there = shown_at pieces colors a h

  fine : at ok_by ≡ true
  unfolding men_ok
  fine = all_at 64 (λ j. eqb (kinds_at pieces j) (colors_at colors j) and leb (kinds_at pieces j) 1) ok a h

  has_colour : (c : Color) → has (color_set colors c) a ≡ is_of c (men_at pieces colors a)
  has_colour c = digit c ∙ agree_eq _ _ (given (at ok_by) _ (at_law (color_law c) (color_law_lem c)) fine) ∙ ap (λ (x : Man). is_of c x) (sym there)
    where
      digit : (c : Color) → has (color_set colors c) a ≡ at (λ w b p n l r q k. by_color c w b)
      digit White = refl
      digit Black = refl

  has_kind : (x : Piece) → has (kind_set pieces x) a ≡ is_kind x (men_at pieces colors a)
  has_kind x = digit x ∙ agree_eq _ _ (given (at ok_by) _ (at_law (kind_law x) (kind_law_lem x)) fine) ∙ ap (λ (y : Man). is_kind x y) (sym there)
    where
      digit : (x : Piece) → has (kind_set pieces x) a ≡ at (λ w b p n l r q k. by_kind x p n l r q k)
      digit Pawn = refl
      digit Knight = refl
      digit Bishop = refl
      digit Rook = refl
      digit Queen = refl
      digit King = refl

-- every set of an array is one of the 64 squares
abbrev pub Bounded : List ℕ → Type 0
Bounded s = (i : ℕ) → get_or s i 0 < 2 ^ 64

pub clean : (pieces colors : List ℕ) → length pieces ≡ 6 → length colors ≡ 2 → Bounded pieces → Bounded colors → men_ok pieces colors ≡ true → Clean pieces colors
unfolding kind_sets color_sets
clean pieces colors six two bp bc ok = record {
  kinds = ext_get_or 0 pieces (kind_sets (men_at pieces colors)) six (λ i l. kind_at i (subst (λ (n : ℕ). i < n) six l));
  colours = ext_get_or 0 colors (color_sets (men_at pieces colors)) two (λ i l. colour_at i (subst (λ (n : ℕ). i < n) two l));
}
  where
    kind_is : (k : Piece) → kind_set pieces k ≡ set_of (λ a. is_kind k (men_at pieces colors a))
    kind_is k = is_up_to 64 (kind_set pieces k) (λ a. is_kind k (men_at pieces colors a)) (bp _) (λ a h. has_kind pieces colors ok a h k)

    colour_is : (c : Color) → color_set colors c ≡ set_of (λ a. is_of c (men_at pieces colors a))
    colour_is c = is_up_to 64 (color_set colors c) (λ a. is_of c (men_at pieces colors a)) (bc _) (λ a h. has_colour pieces colors ok a h c)

    kind_at : (i : ℕ) → i < 6 → get_or pieces i 0 ≡ get_or (kind_sets (men_at pieces colors)) i 0
    kind_at zero l = kind_is Pawn
    kind_at (suc zero) l = kind_is Knight
    kind_at (suc (suc zero)) l = kind_is Bishop
    kind_at (suc (suc (suc zero))) l = kind_is Rook
    kind_at (suc (suc (suc (suc zero)))) l = kind_is Queen
    kind_at (suc (suc (suc (suc (suc zero))))) l = kind_is King
    kind_at (suc (suc (suc (suc (suc (suc i)))))) l = absurd (not-suc-le-zero (le_of_suc-le-suc (le_of_suc-le-suc (le_of_suc-le-suc (le_of_suc-le-suc (le_of_suc-le-suc (le_of_suc-le-suc l)))))))

    colour_at : (i : ℕ) → i < 2 → get_or colors i 0 ≡ get_or (color_sets (men_at pieces colors)) i 0
    colour_at zero l = colour_is White
    colour_at (suc zero) l = colour_is Black
    colour_at (suc (suc i)) l = absurd (not-suc-le-zero (le_of_suc-le-suc (le_of_suc-le-suc l)))

-- the sets of a shaped board are of 64 squares, and past them the arrays have none
beyond : (l : List ℕ) (i : ℕ) → length l ≤ i → get_or l i 0 < 2 ^ 64
beyond l i h = subst (λ (x : ℕ). x < 2 ^ 64) (sym (get_or-eq_default l 0 h)) (pow_pos 64)

module _ (b : Board) (shape : Shaped b) where
  kinds_bounded : Bounded b.pieces
  kinds_bounded zero = shape.kinds_fit Pawn
  kinds_bounded (suc zero) = shape.kinds_fit Knight
  kinds_bounded (suc (suc zero)) = shape.kinds_fit Bishop
  kinds_bounded (suc (suc (suc zero))) = shape.kinds_fit Rook
  kinds_bounded (suc (suc (suc (suc zero)))) = shape.kinds_fit Queen
  kinds_bounded (suc (suc (suc (suc (suc zero))))) = shape.kinds_fit King
  kinds_bounded (suc (suc (suc (suc (suc (suc i)))))) = beyond b.pieces (suc (suc (suc (suc (suc (suc i)))))) (omega (arith, shape.six))

  colours_bounded : Bounded b.colors
  colours_bounded zero = shape.colors_fit White
  colours_bounded (suc zero) = shape.colors_fit Black
  colours_bounded (suc (suc i)) = beyond b.colors (suc (suc i)) (omega (arith, shape.two))

  pub shaped_clean : men_ok b.pieces b.colors ≡ true → Clean b.pieces b.colors
  shaped_clean = clean b.pieces b.colors shape.six shape.two kinds_bounded colours_bounded
