-- The number before a new row.
use mathlib.Core.Path.{◌≡◌, refl, ap}
use mathlib.Core.List.{List}
use Prim.Native.Nat.{ℕ, zero, suc, ◌+◌, ◌-◌, ◌*◌}
use native.Mathlib.Omega.{arith}
use Rattle.volume_contents.specs.Layout.{entry_at}
use Rattle.volume_contents.specs.Contents.{number_before}

pub number_before_lem : (v : List ℕ) (n : ℕ) → (n ≡ 0 → ⊥) → (entry_at v (6 + 8 * (n - 1))).number ≡ number_before v n
number_before_lem v zero f = absurd (f refl)
number_before_lem v (suc n) f = let z : suc n - 1 ≡ n = omega arith in ap (λ (k : ℕ). (entry_at v (6 + 8 * k)).number) z
