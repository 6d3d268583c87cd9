-- Rows tested one by one, and found by their number.
use mathlib.Core.Path.{◌≡◌, subst}
use mathlib.Core.Bool.{Bool}
use mathlib.Core.List.{List}
use mathlib.Core.Logic.{⊎_elim}
use Prim.Native.Nat.{ℕ, ◌+◌, ◌≤◌, ◌<◌}
use native.Mathlib.Omega.{arith}
use Rattle.squares.proofs.Testing.{order as either}
use Rattle.std.specs.Prelude.{Ok}
use Rattle.volume_contents.specs.inner.Walks.{number_in, last_in, tested_in, Rising}

module _ (back : Bool) (n from last : ℕ) (s : List ℕ) (at k : ℕ) where
  -- j rows are sound, and the last of them has the number `before`
  pub record Sofar (before j : ℕ) : Type 0 where
    pub sound : (i : ℕ) → i < j → tested_in back n from last s at i ≡ Ok tt
    pub before_is : before ≡ last_in last s at j
    pub inside : j ≤ k

module _ (s : List ℕ) (at k x : ℕ) where
  -- the rows before `low` have a number below x, those from `high` on have none
  pub record Between (low high : ℕ) : Type 0 where
    pub order : low ≤ high
    pub inside : high ≤ k
    pub below : (j : ℕ) → j < low → number_in s at j < x
    pub above : (j : ℕ) → high ≤ j → j < k → x ≤ number_in s at j

  pub find_low : Rising s at k → (low high mid : ℕ) → Between low high → low ≤ mid → mid < high → number_in s at mid < x → Between (mid + 1) high
  find_low up low high mid b h g t =
      record { order = omega arith; inside = b.inside; below = λ j l. ⊎_elim (λ q. less j q) (λ q. same j l q) (either j mid); above = b.above }
    where
      less : (j : ℕ) → j < mid → number_in s at j < x
      less j q = let u = up j mid q (omega (arith, b.inside)) in omega arith

      same : (j : ℕ) → j < mid + 1 → mid ≤ j → number_in s at j < x
      same j l q = let e : mid ≡ j = omega arith in subst (λ (i : ℕ). number_in s at i < x) e t

  pub find_high : Rising s at k → (low high mid : ℕ) → Between low high → low ≤ mid → mid < high → x ≤ number_in s at mid → Between low mid
  find_high up low high mid b h g t =
      record { order = h; inside = omega (arith, b.inside); below = b.below; above = λ j l m. ⊎_elim (λ q. more j m q) (λ q. same j l q) (either mid j) }
    where
      more : (j : ℕ) → j < k → mid < j → x ≤ number_in s at j
      more j m q = let u = up mid j q m in omega arith

      same : (j : ℕ) → mid ≤ j → j ≤ mid → x ≤ number_in s at j
      same j l q = let e : mid ≡ j = omega arith in subst (λ (i : ℕ). x ≤ number_in s at i) e t
