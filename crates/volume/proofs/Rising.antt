-- Rows that were walked and are sound have numbers that rise.
use mathlib.Core.Path.{◌≡◌, subst}
use mathlib.Core.Bool.{Bool}
use mathlib.Core.List.{List}
use mathlib.Core.Logic.{⊎_elim}
use Prim.Native.Nat.{ℕ, zero, suc, ◌+◌, ◌*◌, ◌<◌}
use native.Mathlib.Omega.{arith}
use Rattle.squares.proofs.Testing.{order}
use Rattle.std.specs.Prelude.{Ok}
use Rattle.volume_contents.specs.Layout.{entry_at}
use Rattle.volume_contents.specs.inner.Walks.{number_in, WalksTo, Rising}
use Rattle.volume_contents.proofs.Sound.{sound_row}

module _ (back : Bool) (n from last : ℕ) (s : List ℕ) (at k r : ℕ) (w : WalksTo back n from last s at k (Ok r)) where
  pub walked_rising : Rising s at k
  walked_rising = up
    where
      one : (j : ℕ) → suc j < k → number_in s at j < number_in s at (suc j)
      one j h = (sound_row back n (from + suc j) (number_in s at j) (entry_at s (at + 8 * suc j)) (w.0 (suc j) h)).rising

      up : (i j : ℕ) → i < j → j < k → number_in s at i < number_in s at j
      up i zero h g = absurd (omega arith)
      up i (suc j) h g =
          ⊎_elim (λ q. let a = up i j q (omega arith) in let b = one j g in omega arith)
          (λ q. let x : j ≡ i = omega arith in subst (λ (y : ℕ). number_in s at y < number_in s at (suc j)) x (one j g))
          (order i j)
