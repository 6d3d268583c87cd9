-- Texts added one behind the other.
use mathlib.Core.Path.{◌≡◌}
use mathlib.Core.Bool.{Bool, true, false, cond}
use mathlib.Core.List.{List, ◌++◌}
use Prim.Native.Nat.{ℕ, ◌+◌, ◌≤◌}
use native.Mathlib.Omega.{arith}
use lib.Dec.{leb}
use lib.ListN.{length, length-append}
use Rattle.output.specs.Appending.{Adds}
use Rattle.output.proofs.Adding.{adds_then}

-- as many bytes more at most, with room or without
pub ends : {o b x : List ℕ} {len r : ℕ} (k : ℕ) → Adds o len b r x → length b ≤ k → r ≤ len + k
ends {o} {b} {x} {len} {r} k a h = by (leb (len + length b) (length o)) a.used
  where
    by : (t : Bool) → r ≡ cond t (len + length b) len → r ≤ len + k
    by true e = omega arith
    by false e = omega arith

-- three texts and more, where there is room for all
module _ {o o₁ o₂ o₃ a b c : List ℕ} {n n₁ n₂ n₃ : ℕ} (p₁ : Adds o n a n₁ o₁) (p₂ : Adds o₁ n₁ b n₂ o₂) (p₃ : Adds o₂ n₂ c n₃ o₃) where
  pub three_added : n + length (a ++ b ++ c) ≤ length o → Adds o n (a ++ b ++ c) n₃ o₃
  three_added h = adds_then o o₂ o₃ (a ++ b) c n n₂ n₃ h (adds_then o o₁ o₂ a b n n₁ n₂ (omega (arith, length-append (a ++ b) c)) p₁ p₂) p₃

  module _ {o₄ d : List ℕ} {n₄ : ℕ} (p₄ : Adds o₃ n₃ d n₄ o₄) where
    pub four_added : n + length (a ++ b ++ c ++ d) ≤ length o → Adds o n (a ++ b ++ c ++ d) n₄ o₄
    four_added h = adds_then o o₃ o₄ (a ++ b ++ c) d n n₃ n₄ h (three_added (omega (arith, length-append (a ++ b ++ c) d))) p₄

    pub five_added : {o₅ e : List ℕ} {n₅ : ℕ} → n + length (a ++ b ++ c ++ d ++ e) ≤ length o → Adds o₄ n₄ e n₅ o₅ → Adds o n (a ++ b ++ c ++ d ++ e) n₅ o₅
    five_added {o₅} {e} {n₅} h p₅ =
        adds_then o o₄ o₅ (a ++ b ++ c ++ d) e n n₄ n₅ h (four_added (omega (arith, length-append (a ++ b ++ c ++ d) e))) p₅
