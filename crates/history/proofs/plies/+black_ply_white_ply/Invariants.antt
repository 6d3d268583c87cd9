use mathlib.Core.Path.{◌≡◌}
use Prim.Native.Nat.{◌≤◌, ◌-◌}
use Rattle.history.specs.inner.Searching.{NoneBelow}
use Rattle.history.proofs.plies.+black_ply_white_ply.Given as goal

abbrev pub decreases-black_ply : goal.decreases-black_ply
decreases-black_ply l = l.depth

abbrev pub decreases-white_ply : goal.decreases-white_ply
decreases-white_ply l = l.depth

abbrev pub invariant-black_ply-loop-x : goal.invariant-black_ply-loop-x
invariant-black_ply-loop-x l = ((l.depth ≡ 0) → ⊥) × (l.at ≤ 49152) × NoneBelow l.depth l.b l.at

abbrev pub decreases-black_ply-loop-x : goal.decreases-black_ply-loop-x
decreases-black_ply-loop-x l = 49153 - l.at

abbrev pub invariant-white_ply-loop-x : goal.invariant-white_ply-loop-x
invariant-white_ply-loop-x l = ((l.depth ≡ 0) → ⊥) × (l.at ≤ 49152) × NoneBelow l.depth l.b l.at

abbrev pub decreases-white_ply-loop-x : goal.decreases-white_ply-loop-x
decreases-white_ply-loop-x l = 49153 - l.at
