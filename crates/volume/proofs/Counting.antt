-- Lines are no more than their bytes.
use mathlib.Core.Path.{ap}
use mathlib.Core.List.{List, [], ◌∷◌}
use Prim.Native.Nat.{ℕ, ◌+◌, ◌≤◌}
use native.Mathlib.Omega.{arith}
use lib.ListN.{length, length-append, length-drop}
use Rattle.laws.specs.declared.Position.{Position}
use Rattle.volume_lines.specs.Register.{lines_of}
use Rattle.volume_lines.specs.declared.Named.{Named}
use Rattle.volume_lines.specs.declared.Survey.{Survey}
use Rattle.volume_lines.specs.inner.Surveys.{Surveyed}

lines_long : (ps : List Position) → length ps ≤ length (lines_of ps)
unfolding lines_of
lines_long [] = omega arith
lines_long (p ∷ ps) = let h = lines_long ps in simp length-append (omega arith)

pub surveyed_count : (t : List ℕ) (count : ℕ) (before : Named) (s : Survey) → Surveyed t count before s → s.count ≤ count + s.at
surveyed_count t count before s h =
    omega (arith, lines_long h.boards, h.number, h.inside, simp (length-append, length-drop) at (ap length h.text))
