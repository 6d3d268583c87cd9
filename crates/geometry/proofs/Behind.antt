-- The square behind a square is on the board, one rank nearer to home.
use mathlib.Core.Path.{◌≡◌}
use Prim.Native.Nat.{ℕ, ◌+◌, ◌<◌}
use native.Mathlib.Omega.{arith}
use Rattle.geometry.specs.declared.Color.{Color}
use Rattle.geometry.specs.declared.Color.TheVariants.{White, Black}
use Rattle.geometry.specs.Colors.{rank_for, behind}

pub behind_in : (c : Color) (q : ℕ) → q < 64 → 0 < rank_for c q → (behind c q < 64) × (rank_for c (behind c q) + 1 ≡ rank_for c q)
behind_in White q h r = (omega arith, omega arith)
behind_in Black q h r = (omega arith, omega arith)
