-- The squares that a way touches are squares of the board, and so is the home square of a double step.
use mathlib.Core.Path.{◌≡◌}
use Prim.Native.Nat.{ℕ, ◌<◌}
use native.Mathlib.Omega.{arith}
use lib.Dec.{lit<}
use Rattle.geometry.specs.declared.Color.{Color}
use Rattle.geometry.specs.declared.Color.TheVariants.{White, Black}
use Rattle.geometry.specs.Colors.{rank_for, behind}
use Rattle.laws.specs.declared.Side.{Side}
use Rattle.laws.specs.declared.Side.TheVariants.{Short as short, Long as long}
use Rattle.laws.specs.Positions.{corner, rook_to}

pub behind_in : (c : Color) (s : ℕ) → s < 64 → rank_for c s ≡ 5 → behind c s < 64
behind_in White s h e = omega arith
behind_in Black s h e = omega arith

pub twice_behind_in : (c : Color) (q : ℕ) → q < 64 → rank_for c q ≡ 3 → behind c (behind c q) < 64
twice_behind_in White q h e = omega arith
twice_behind_in Black q h e = omega arith

pub corner_in : (c : Color) (d : Side) → corner c d < 64
corner_in White short = lit< tt
corner_in White long = lit< tt
corner_in Black short = lit< tt
corner_in Black long = lit< tt

pub rook_to_in : (c : Color) (d : Side) → rook_to c d < 64
rook_to_in White short = lit< tt
rook_to_in White long = lit< tt
rook_to_in Black short = lit< tt
rook_to_in Black long = lit< tt
