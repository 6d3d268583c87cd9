-- The souls of an earlier position, parted: the retractor's are those with the man that moved still on the source, the other side's those with
-- the uncaptured man there.
use mathlib.Core.Path.{◌≡◌, refl, ap, ap₂, ◌∙◌, fun_ext}
use mathlib.Core.Logic.{◌≢◌}
use mathlib.Core.Bool.{Bool, true, false, not, false≢true}
use Prim.Native.Nat.{ℕ, ◌<◌}
use native.Mathlib.Omega.{arith}
use lib.Dec.{leb}
use Rattle.squares.specs.Tests.{◌and◌}
use Rattle.squares.specs.Squares.{flag}
use Rattle.geometry.specs.declared.Color.{Color}
use Rattle.geometry.specs.declared.Color.TheVariants.{White, Black}
use Rattle.geometry.specs.Colors.{opp}
use Rattle.laws.specs.declared.Piece.TheVariants.{Pawn, Knight, Bishop, Rook, Queen}
use Rattle.laws.specs.Men.{Man, empty, man, Men, is_of, is_kind, same_man, put}
use Rattle.laws.specs.Souls.{dark, souls, souls_ok}
use Rattle.squares.proofs.Testing.{and_swap}
use Rattle.laws.proofs.Mans.{same}
use Rattle.laws.proofs.Puts.{over, put_off}
use Rattle.returning.proofs.Counted.{souls_from, Count, by_kind, by_shade, grown}

-- equal counts, equal souls
souls_eq : (c : Color) (m n : Men) → (by_kind c Pawn).of m ≡ (by_kind c Pawn).of n → (by_kind c Knight).of m ≡ (by_kind c Knight).of n
    → (by_shade c (λ a. not (dark a))).of m ≡ (by_shade c (λ a. not (dark a))).of n → (by_shade c dark).of m ≡ (by_shade c dark).of n
    → (by_kind c Rook).of m ≡ (by_kind c Rook).of n → (by_kind c Queen).of m ≡ (by_kind c Queen).of n → souls m c ≡ souls n c
souls_eq c m n p k l d r q = λ i. souls_from (p i) (k i) (l i) (d i) (r i) (q i)

-- neither the man put there nor what stood there is of c
module _ (m : Men) (c : Color) (s : ℕ) (x : Man) (h : s < 64) (free : is_of c (m s) ≡ false) (other : is_of c x ≡ false) where
  kept : (C : Count c) → C.of (put s x m) ≡ C.of m
  kept C = omega (arith, grown C m s x h free, C.none s x other)

  pub souls_kept : souls (put s x m) c ≡ souls m c
  souls_kept = souls_eq c (put s x m) m (kept (by_kind c Pawn)) (kept (by_kind c Knight)) (kept (by_shade c (λ a. not (dark a)))) (kept (by_shade c dark)) (kept (by_kind c Rook)) (kept (by_kind c Queen))

-- a square stays empty
bare_still : (m : Men) (c : Color) (s q : ℕ) (y : Man) → q ≢ s → m q ≡ empty → is_of c (put s y m q) ≡ false
bare_still m c s q y apart bare = ap (is_of c) (put_off s y m q apart ∙ bare)

-- x stands on the empty square q in place of s, where a man comes that is not of c
module _ (m : Men) (c : Color) (s q : ℕ) (x y : Man) (hs : s < 64) (hq : q < 64) (apart : q ≢ s) (bare : m q ≡ empty) (other : is_of c y ≡ false)
    (shade : is_kind Bishop x ≡ true → dark q ≡ dark s) where
  moved : (C : Count c) → C.at q x ≡ C.at s x → C.of (put q x (put s y m)) ≡ C.of (put s x m)
  moved C e = omega (arith, grown C (put s y m) q x hq (bare_still m c s q y apart bare), C.change m s y hs, C.change m s x hs, C.none s y other)

  bishop : (f : Bool → Bool) → flag (same_man x (man c Bishop) and f (dark q)) ≡ flag (same_man x (man c Bishop) and f (dark s))
  unfolding ◌and◌
  bishop f = go (same_man x (man c Bishop)) refl
    where
      go : (t : Bool) → same_man x (man c Bishop) ≡ t → flag (t and f (dark q)) ≡ flag (t and f (dark s))
      go true e = ap (λ (b : Bool). flag (f b)) (shade (ap (is_kind Bishop) (same x (man c Bishop) e)))
      go false e = refl

  souls_moved : souls (put q x (put s y m)) c ≡ souls (put s x m) c
  souls_moved =
      souls_eq c (put q x (put s y m)) (put s x m) (moved (by_kind c Pawn) refl) (moved (by_kind c Knight) refl)
      (moved (by_shade c (λ a. not (dark a))) (bishop not)) (moved (by_shade c dark) (bishop (λ b. b))) (moved (by_kind c Rook) refl) (moved (by_kind c Queen) refl)

-- a man of c is none of the other side's
pub not_theirs : (c : Color) (x : Man) → is_of c x ≡ true → is_of (opp c) x ≡ false
not_theirs c empty e = refl
not_theirs White (man White k) e = refl
not_theirs White (man Black k) e = absurd (false≢true e)
not_theirs Black (man White k) e = absurd (false≢true e)
not_theirs Black (man Black k) e = refl

-- both sides, c first
ok_turned : (m : Men) (c : Color) → souls_ok m ≡ (leb (souls m c) 8 and leb (souls m (opp c)) 8)
ok_turned m White = refl
ok_turned m Black = and_swap (leb (souls m White) 8) (leb (souls m Black) 8)

pub souls_parted : (m : Men) (c : Color) (s q : ℕ) (x y : Man) → s < 64 → q < 64 → q ≢ s → m q ≡ empty → is_of c x ≡ true → is_of c y ≡ false
    → (is_kind Bishop x ≡ true → dark q ≡ dark s) → souls_ok (put q x (put s y m)) ≡ (leb (souls (put s x m) c) 8 and leb (souls (put s y m) (opp c)) 8)
souls_parted m c s q x y hs hq apart bare own other shade =
    ok_turned (put q x (put s y m)) c
    ∙ ap₂ (λ (a b : ℕ). leb a 8 and leb b 8) (souls_moved m c s q x y hs hq apart bare other shade)
    (souls_kept (put s y m) (opp c) q x hq (bare_still m (opp c) s q y apart bare) (not_theirs c x own))

-- what stands on a square put there again, and a man of c lifted from it
pub souls_own : (m : Men) (c : Color) (s : ℕ) → souls (put s (m s) m) c ≡ souls m c
souls_own m c s = ap (λ (z : Men). souls z c) (fun_ext (λ j. over m s j refl (λ ne. refl)))

pub souls_lifted : (m : Men) (c : Color) (s : ℕ) → s < 64 → is_of c (m s) ≡ true → souls (put s empty m) (opp c) ≡ souls m (opp c)
souls_lifted m c s h own = souls_kept m (opp c) s empty h (not_theirs c (m s) own) refl
