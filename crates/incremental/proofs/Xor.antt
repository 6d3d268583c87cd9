-- Sets joined by xor, where no square is in two of them.
use mathlib.Core.Path.{◌≡◌, refl, ap, ◌∙◌}
use mathlib.Core.Bool.{Bool, true, false}
use Prim.Native.Nat.{ℕ, zero, suc, ◌<◌, ◌^◌}
use native.Mathlib.Nat.{le_refl, le_trans, le-suc}
use native.Mathlib.Omega.{arith}
use lib.Bits.{xor_lt}
use Rattle.squares.specs.Tests.{◌or◌}
use Rattle.squares.specs.Squares.{has, any_to}
use Rattle.incremental.proofs.Searched.{xor_from}
use Rattle.squares.proofs.Digits.{differs, has_xor, has_zero}
use Rattle.squares.proofs.Every.{any_at}

pub xor_fits : (x n : ℕ) (f : ℕ → ℕ) → x < 2 ^ 64 → ((a : ℕ) → f a < 2 ^ 64) → xor_from x n f < 2 ^ 64
unfolding xor_from
xor_fits x zero f l h = l
xor_fits x (suc n) f l h = xor_lt 64 (xor_from x n f) (f n) (xor_fits x n f l h) (h n)

-- a square that is in one set at most changes where it is in some
pub has_xor_from : (x n : ℕ) (f : ℕ → ℕ) (k : ℕ) → ((a b : ℕ) → a < n → b < n → has (f a) k ≡ true → has (f b) k ≡ true → a ≡ b)
    → has (xor_from x n f) k ≡ differs (has x k) (any_to n (λ a. has (f a) k))
unfolding xor_from any_to ◌or◌
has_xor_from x zero f k one = none (has x k)
  where
    none : (t : Bool) → t ≡ differs t false
    none true = refl
    none false = refl
has_xor_from x (suc n) f k one =
    has_xor (xor_from x n f) (f n) k
    ∙ ap (λ (t : Bool). differs t (has (f n) k)) (has_xor_from x n f k (λ a b ha hb. one a b (le_trans ha (le-suc n)) (le_trans hb (le-suc n))))
    ∙ go (has x k) (has (f n) k) refl (any_to n (λ a. has (f a) k)) refl
  where
    apart : (a : ℕ) → a < n → a ≡ n → ⊥
    apart a h e = omega arith

    go : (s t : Bool) → has (f n) k ≡ t → (u : Bool) → any_to n (λ a. has (f a) k) ≡ u → differs (differs s u) t ≡ differs s (t or u)
    go s true e true g =
        let w = any_at n (λ a. has (f a) k) g in
        absurd (apart w.0 w.1 (one w.0 n (le_trans w.1 (le-suc n)) (le_refl (suc n)) w.2 e))
    go true true e false g = refl
    go false true e false g = refl
    go true false e true g = refl
    go false false e true g = refl
    go true false e false g = refl
    go false false e false g = refl

pub has_xor_to : (n : ℕ) (f : ℕ → ℕ) (k : ℕ) → ((a b : ℕ) → a < n → b < n → has (f a) k ≡ true → has (f b) k ≡ true → a ≡ b) → has (xor_from 0 n f) k ≡ any_to n (λ a. has (f a) k)
has_xor_to n f k one = has_xor_from 0 n f k one ∙ ap (λ (t : Bool). differs t (any_to n (λ a. has (f a) k))) (has_zero k) ∙ own (any_to n (λ a. has (f a) k))
  where
    own : (t : Bool) → differs false t ≡ t
    own true = refl
    own false = refl
