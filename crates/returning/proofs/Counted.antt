-- The six counts that a colour's souls are made of, after a man is put on a square.
use mathlib.Core.Path.{◌≡◌, refl, sym, ap, ◌∙◌, fun_ext}
use mathlib.Core.Bool.{Bool, true, false, cond, true≢false}
use Prim.Native.Nat.{ℕ, ◌+◌, ◌-◌, ◌<◌}
use native.Mathlib.Omega.{arith}
use lib.Dec.{eqb}
use borrow.Author.Tests.{eqb-true}
use Rattle.squares.specs.Tests.{◌and◌}
use Rattle.squares.specs.Squares.{flag, how_many}
use Rattle.geometry.specs.declared.Color.{Color}
use Rattle.laws.specs.declared.Piece.{Piece}
use Rattle.laws.specs.declared.Piece.TheVariants.{Bishop}
use Rattle.laws.specs.Men.{Man, empty, man, Men, is_of, same_man, put}
use Rattle.laws.specs.Souls.{number}
use Rattle.squares.proofs.Testing.{and_true, and_false}
use Rattle.squares.proofs.Counting.{count_cong}
use Rattle.laws.proofs.Mans.{same, own_colour}
use Rattle.laws.proofs.Numbers.{weigh, number_put}

-- the souls of so many pawns, knights, light and dark bishops, rooks and queens
abbrev pub souls_from : (p n l d r q : ℕ) → ℕ
souls_from p n l d r q = p + (n - 2) + (l - 1) + (d - 1) + (r - 2) + (q - 1)

-- a man that is not of c is none of its men
pub not_own : (c : Color) (k : Piece) (x : Man) → is_of c x ≡ false → same_man x (man c k) ≡ false
not_own c k x h = go (same_man x (man c k)) refl
  where
    go : (t : Bool) → same_man x (man c k) ≡ t → t ≡ false
    go true e = absurd (true≢false (sym (own_colour c k) ∙ sym (ap (is_of c) (same x (man c k) e)) ∙ h))
    go false e = refl

-- a count of men of c: what a man on a square adds to it, nothing where it is not of c
pub record Count (c : Color) : Type 0 where
  pub of : Men → ℕ
  pub at : ℕ → Man → ℕ
  pub none : (k : ℕ) (x : Man) → is_of c x ≡ false → at k x ≡ 0
  pub change : (m : Men) (k : ℕ) (x : Man) → k < 64 → of (put k x m) + at k (m k) ≡ of m + at k x

-- the men of a kind
abbrev pub by_kind : (c : Color) → Piece → Count c
by_kind c k = record {
  of = λ m. number m c k;
  at = λ s x. weigh (man c k) x;
  none = λ s x h. ap flag (not_own c k x h);
  change = λ m s x h. number_put m c k s x h;
}

-- the bishops on the squares of a test: all bishops, were the other squares bare
module _ (c : Color) (f : ℕ → Bool) where
  abbrev bishops : Men → ℕ
  bishops m = how_many (λ a. same_man (m a) (man c Bishop) and f a)

  abbrev on : ℕ → Man → Man
  on a x = cond (f a) x empty

  on_same : (a : ℕ) (x : Man) → same_man (on a x) (man c Bishop) ≡ (same_man x (man c Bishop) and f a)
  on_same a x = go (f a)
    where
      go : (t : Bool) → same_man (cond t x empty) (man c Bishop) ≡ (same_man x (man c Bishop) and t)
      go true = sym (and_true (same_man x (man c Bishop)))
      go false = not_own c Bishop empty refl ∙ sym (and_false (same_man x (man c Bishop)))

  on_put : (m : Men) (s : ℕ) (x : Man) (j : ℕ) → put s (on s x) (λ a. on a (m a)) j ≡ on j (put s x m j)
  on_put m s x j = go (eqb j s) refl
    where
      go : (t : Bool) → eqb j s ≡ t → cond t (on s x) (on j (m j)) ≡ on j (cond t x (m j))
      go true e = ap (λ (a : ℕ). on a x) (sym (eqb-true j s e))
      go false e = refl

  bishops_are : (m : Men) → number (λ a. on a (m a)) c Bishop ≡ bishops m
  bishops_are m = count_cong 64 (λ a. same_man (on a (m a)) (man c Bishop)) (λ a. same_man (m a) (man c Bishop) and f a) (λ a l. on_same a (m a))

  bishops_after : (m : Men) (s : ℕ) (x : Man) → number (put s (on s x) (λ a. on a (m a))) c Bishop ≡ bishops (put s x m)
  bishops_after m s x = ap (λ (z : Men). number z c Bishop) (fun_ext (on_put m s x)) ∙ bishops_are (put s x m)

  pub bishops_put : (m : Men) (s : ℕ) (x : Man) → s < 64 → bishops (put s x m) + flag (same_man (m s) (man c Bishop) and f s) ≡ bishops m + flag (same_man x (man c Bishop) and f s)
  bishops_put m s x h =
      rw (← bishops_after m s x, ← bishops_are m, ← on_same s (m s), ← on_same s x) (number_put (λ a. on a (m a)) c Bishop s (on s x) h)

  pub bishops_none : (s : ℕ) (x : Man) → is_of c x ≡ false → flag (same_man x (man c Bishop) and f s) ≡ 0
  unfolding ◌and◌
  bishops_none s x h = ap (λ (t : Bool). flag (t and f s)) (not_own c Bishop x h)

  abbrev pub by_shade : Count c
  by_shade = record {
    of = bishops;
    at = λ s x. flag (same_man x (man c Bishop) and f s);
    none = bishops_none;
    change = bishops_put;
  }

-- a man put where none of c stands
pub grown : {c : Color} (C : Count c) (m : Men) (s : ℕ) (x : Man) → s < 64 → is_of c (m s) ≡ false → C.of (put s x m) ≡ C.of m + C.at s x
grown C m s x h free = omega (arith, C.change m s x h, C.none s (m s) free)
