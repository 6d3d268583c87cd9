-- Counts of squares compared: tests that pass only where another does, and never two of them, count at most what that one counts.
use mathlib.Core.Path.{◌≡◌, refl, sym, ap, subst}
use mathlib.Core.Logic.{⊎_elim}
use mathlib.Core.Bool.{Bool, true, false, not}
use Prim.Native.Nat.{ℕ, zero, suc, ◌+◌, ◌<◌, ◌≤◌, ◌^◌, zero-le}
use native.Mathlib.Nat.{le_refl, le_trans, le-suc}
use native.Mathlib.Omega.{arith}
use lib.Dec.{eqb}
use borrow.Author.Tests.{ne_eqb}
use Rattle.squares.specs.Tests.{◌and◌}
use Rattle.squares.specs.Squares.{has, flag, count_to, how_many, size}
use Rattle.squares.proofs.Testing.{both, order}
use Rattle.squares.proofs.Comprehension.{empty}
use Rattle.squares.proofs.Counting.{count_out, count_none}

pub flag_le : (a b : Bool) → (a ≡ true → b ≡ true) → flag a ≤ flag b
flag_le true b h = subst (λ (t : Bool). 1 ≤ flag t) (sym (h refl)) (le_refl 1)
flag_le false b h = zero-le

-- one test
pub count_mono : (n : ℕ) (p q : ℕ → Bool) → ((k : ℕ) → k < n → p k ≡ true → q k ≡ true) → count_to n p ≤ count_to n q
unfolding count_to
count_mono zero p q h = zero-le
count_mono (suc n) p q h = omega (arith, flag_le (p n) (q n) (h n (le_refl (suc n))), count_mono n p q (λ k l. h k (le_trans l (le-suc n))))

-- five
pub count_five : (n : ℕ) (a b c d e q : ℕ → Bool) → ((k : ℕ) → k < n → flag (a k) + flag (b k) + flag (c k) + flag (d k) + flag (e k) ≤ flag (q k))
    → count_to n a + count_to n b + count_to n c + count_to n d + count_to n e ≤ count_to n q
unfolding count_to
count_five zero a b c d e q h = zero-le
count_five (suc n) a b c d e q h = omega (arith, h n (le_refl (suc n)), count_five n a b c d e q (λ k l. h k (le_trans l (le-suc n))))

-- one, and a square where it fails and the other passes
pub count_apart : (p q : ℕ → Bool) (j : ℕ) → j < 64 → ((k : ℕ) → k < 64 → p k ≡ true → q k ≡ true) → q j ≡ true → (p j ≡ true → ⊥) → how_many p + 1 ≤ how_many q
count_apart p q j l h m f = omega (arith, count_out 64 q j l m, count_mono 64 p (λ k. q k and not (eqb k j)) within)
  where
    within : (k : ℕ) → k < 64 → p k ≡ true → (q k and not (eqb k j)) ≡ true
    within k i e = both (h k i e) (ap not (ne_eqb k j (λ r. f (subst (λ (x : ℕ). p x ≡ true) r e))))

-- a set that is not empty has a member
pub count_some : (s : ℕ) → s < 2 ^ 64 → (s ≡ 0 → ⊥) → 1 ≤ size s
count_some s h f = ⊎_elim (λ l. l) (λ l. absurd (f (empty 64 s h (count_none 64 (has s) (omega arith))))) (order 0 (size s))
