-- A man of c comes back where none of c stands: a soul more where the first men of its kind are there already.
use mathlib.Core.Path.{◌≡◌, refl, ap, ◌∙◌}
use mathlib.Core.Bool.{Bool, true, false, not, cond}
use Prim.Native.Nat.{ℕ, ◌+◌, ◌-◌, ◌<◌}
use native.Mathlib.Omega.{arith}
use lib.Dec.{eqb, leb}
use borrow.Author.Tests.{leb-true, leb-false}
use Rattle.squares.specs.Tests.{◌and◌}
use Rattle.squares.specs.Squares.{flag}
use Rattle.geometry.specs.declared.Color.{Color}
use Rattle.laws.specs.declared.Piece.{Piece}
use Rattle.laws.specs.declared.Piece.TheVariants.{Pawn, Knight, Bishop, Rook, Queen, King}
use Rattle.laws.specs.Men.{man, Men, kind_number, is_of, same_man, put}
use Rattle.laws.specs.Souls.{dark, number, souls}
use Rattle.returning.specs.inner.Back.{bishops_like}
use Rattle.squares.proofs.Testing.{agree, agree_eq}
use Rattle.laws.proofs.Cases.{every_kind, by_colors, by_kinds}
use Rattle.returning.proofs.Counted.{souls_from, by_kind, by_shade, grown}

-- a man more, or none, of a kind whose first t are no souls
beyond_one : (n t : ℕ) (w : Bool) → (n + flag w) - t ≡ (n - t) + flag (w and leb t n)
unfolding ◌and◌
beyond_one n t true = go (leb t n) refl
  where
    go : (b : Bool) → leb t n ≡ b → (n + 1) - t ≡ (n - t) + flag b
    go true e = omega (arith, leb-true t n e)
    go false e = omega (arith, leb-false t n e)
beyond_one n t false = omega arith

-- of each kind
more : (p n l d r q : ℕ) (a b e f g h : Bool) → souls_from (p + flag a) (n + flag b) (l + flag e) (d + flag f) (r + flag g) (q + flag h)
    ≡ souls_from p n l d r q + (flag a + flag (b and leb 2 n) + flag (e and leb 1 l) + flag (f and leb 1 d) + flag (g and leb 2 r) + flag (h and leb 1 q))
more p n l d r q a b e f g h = rw (beyond_one n 2 b, beyond_one l 1 e, beyond_one d 1 f, beyond_one r 2 g, beyond_one q 1 h) (regroup _ _ _ _ _ _ _ _ _ _ _ _)
  where
    regroup : (p n l d r q a b e f g h : ℕ) → (p + a) + (n + b) + (l + e) + (d + f) + (r + g) + (q + h) ≡ (p + n + l + d + r + q) + (a + b + e + f + g + h)
    regroup p n l d r q a b e f g h = omega arith

-- the man of c and the kind j is one of the kind k
own : (c : Color) (j k : Piece) → same_man (man c j) (man c k) ≡ eqb (kind_number j) (kind_number k)
unfolding ◌and◌
own c j k =
    agree_eq _ _
    (by_kinds (test c j) (by_kinds (λ i. every_kind (test c i)) (by_colors (λ d. every_kind (λ i. every_kind (test d i))) refl c) j) k)
  where
    test : Color → Piece → Piece → Bool
    test c j k = agree (same_man (man c j) (man c k)) (eqb (kind_number j) (kind_number k))

module _ (m : Men) (c : Color) (s : ℕ) where
  -- one more of a kind on s is a soul more: the first of them are there already. A pawn always is, a king never
  abbrev pub costs : Piece → Bool
  costs Pawn = true
  costs Knight = leb 2 (number m c Knight)
  costs Bishop = leb 1 (bishops_like m c s)
  costs Rook = leb 2 (number m c Rook)
  costs Queen = leb 1 (number m c Queen)
  costs King = false

  -- what each count adds for a man of the kind j on s
  adds : Piece → ℕ
  adds j =
      flag (eqb (kind_number j) 1) + flag (eqb (kind_number j) 2 and leb 2 (number m c Knight))
      + flag ((eqb (kind_number j) 3 and not (dark s)) and leb 1 ((by_shade c (λ a. not (dark a))).of m))
      + flag ((eqb (kind_number j) 3 and dark s) and leb 1 ((by_shade c dark).of m))
      + flag (eqb (kind_number j) 4 and leb 2 (number m c Rook)) + flag (eqb (kind_number j) 5 and leb 1 (number m c Queen))

  adds_is : (j : Piece) → adds j ≡ flag (costs j)
  unfolding adds ◌and◌ bishops_like
  adds_is Pawn = refl
  adds_is Knight = omega arith
  adds_is Bishop = shade (dark s)
    where
      shade : (b : Bool) → 0 + 0 + flag (not b and leb 1 ((by_shade c (λ a. not (dark a))).of m)) + flag (b and leb 1 ((by_shade c dark).of m)) + 0 + 0
          ≡ flag (leb 1 ((by_shade c (λ a. cond b (dark a) (not (dark a)))).of m))
      shade true = omega arith
      shade false = omega arith
  adds_is Rook = omega arith
  adds_is Queen = omega arith
  adds_is King = refl

  module _ (h : s < 64) (free : is_of c (m s) ≡ false) where
    pub souls_gained : (j : Piece) → souls (put s (man c j) m) c ≡ souls m c + flag (costs j)
    unfolding adds
    souls_gained j =
        (λ i. souls_from (one Pawn i) (one Knight i) (bishop not i) (bishop (λ b. b) i) (one Rook i) (one Queen i))
        ∙ more _ _ _ _ _ _ (eqb (kind_number j) 1) (eqb (kind_number j) 2) (eqb (kind_number j) 3 and not (dark s)) (eqb (kind_number j) 3 and dark s) (eqb (kind_number j) 4) (eqb (kind_number j) 5)
        ∙ ap (λ (n : ℕ). souls m c + n) (adds_is j)
      where
        one : (k : Piece) → number (put s (man c j) m) c k ≡ number m c k + flag (eqb (kind_number j) (kind_number k))
        one k = grown (by_kind c k) m s (man c j) h free ∙ ap (λ (t : Bool). number m c k + flag t) (own c j k)

        bishop : (f : Bool → Bool) → (by_shade c (λ a. f (dark a))).of (put s (man c j) m) ≡ (by_shade c (λ a. f (dark a))).of m + flag (eqb (kind_number j) 3 and f (dark s))
        bishop f =
            grown (by_shade c (λ a. f (dark a))) m s (man c j) h free
            ∙ ap (λ (t : Bool). (by_shade c (λ a. f (dark a))).of m + flag (t and f (dark s))) (own c j Bishop)
