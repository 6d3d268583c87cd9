-- What one look passes over, and looks one after the other.
use mathlib.Core.Path.{◌≡◌, ap, ◌∙◌}
use mathlib.Core.Logic.{◌⊎◌, inl, inr}
use mathlib.Core.Bool.{Bool, true, false}
use Prim.Native.Nat.{ℕ, ◌+◌, ◌*◌, ◌/◌, ◌%◌, ◌≤◌, ◌<◌}
use native.Mathlib.Nat.{le_refl, le_trans}
use native.Mathlib.Omega.{arith}
use Rattle.laws.specs.Positions.{Pos}
use Rattle.laws.specs.StrictLists.{retraction_at}
use Rattle.unmake.specs.Retracted.{source_for, target_for}
use Rattle.strict_test.specs.inner.Coming.{comes_for}
use Rattle.strict_search.specs.inner.Searching.{test_of, Skips, Looks}
use Rattle.squares.proofs.Testing.{order}
use Rattle.strict_test.proofs.Passing.{no_source, no_target, no_coming}

-- the source alone decides 9, the target alone 10, and both the step
source_only : (p : Pos) (i k : ℕ) → i / 768 ≡ k / 768 → source_for p (retraction_at i) ≡ source_for p (retraction_at k)
unfolding source_for
source_only p i k e = rw e

target_only : (p : Pos) (i k : ℕ) → i / 12 % 64 ≡ k / 12 % 64 → target_for p (retraction_at i) ≡ target_for p (retraction_at k)
unfolding target_for
target_only p i k e = rw e

step_only : (p : Pos) (i k : ℕ) → i / 768 ≡ k / 768 → i / 12 % 64 ≡ k / 12 % 64 → comes_for p (retraction_at i) ≡ comes_for p (retraction_at k)
unfolding comes_for
step_only p i k e f = rw (e, f)

-- the twelve places of a source and a target
twelve : (i k : ℕ) → i ≤ k → k < (i / 12 + 1) * 12 → (k / 768 ≡ i / 768) × (k / 12 % 64 ≡ i / 12 % 64)
twelve i k l m = (omega arith, ap (λ (q : ℕ). q % 64) (same l m))
  where
    same : i ≤ k → k < (i / 12 + 1) * 12 → k / 12 ≡ i / 12
    same l m = omega arith

module _ (p : Pos) (i : ℕ) (h : i < 49152) where
  block : ((k : ℕ) → i ≤ k → k < (i / 12 + 1) * 12 → test_of p k ≡ false) → Looks (test_of p) i ((i / 12 + 1) * 12)
  block none = record { skips = record { on = omega arith; most = omega arith; none = none }; here = λ q. absurd (omega arith) }

  pub skip_source : source_for p (retraction_at i) ≡ false → Looks (test_of p) i ((i / 768 + 1) * 768)
  unfolding test_of
  skip_source e = record {
    skips = record { on = omega arith; most = omega arith; none = λ k l m. no_source p (retraction_at k) (source_only p k i (omega arith) ∙ e) };
    here = λ q. absurd (omega arith);
  }

  pub skip_target : target_for p (retraction_at i) ≡ false → Looks (test_of p) i ((i / 12 + 1) * 12)
  unfolding test_of
  skip_target e = block (λ k l m. no_target p (retraction_at k) (target_only p k i (twelve i k l m).1 ∙ e))

  pub skip_coming : comes_for p (retraction_at i) ≡ false → Looks (test_of p) i ((i / 12 + 1) * 12)
  unfolding test_of
  skip_coming e = block (λ k l m. no_coming p (retraction_at k) (step_only p k i (twelve i k l m).0 (twelve i k l m).1 ∙ e))

module _ (f : ℕ → Bool) (i : ℕ) where
  pub found : i < 49152 → f i ≡ true → Looks f i i
  found h e = record { skips = record { on = le_refl i; most = omega arith; none = λ k l m. absurd (omega arith) }; here = λ q. e }

  pub passed : i < 49152 → f i ≡ false → Looks f i (i + 1)
  passed h e = record {
    skips = record { on = omega arith; most = omega arith; none = λ k l m. ap f (only_one l m) ∙ e };
    here = λ q. absurd (omega arith);
  }
    where
      only_one : {k : ℕ} → i ≤ k → k < i + 1 → k ≡ i
      only_one l m = omega arith

  pub skips_none : i ≤ 49152 → Skips f i i
  skips_none h = record { on = le_refl i; most = h; none = λ k l m. absurd (omega arith) }

pub skips_both : (f : ℕ → Bool) (i j k : ℕ) → Skips f i j → Skips f j k → Skips f i k
skips_both f i j k p q = record { on = le_trans p.on q.on; most = q.most; none = λ n l m. go n l m (order n j) }
  where
    go : (n : ℕ) → i ≤ n → n < k → (n < j) ⊎ (j ≤ n) → f n ≡ false
    go n l m (inl h) = p.none n l h
    go n l m (inr h) = q.none n h m
