use Prim.Native.Nat.{◌≤◌}
use lib.ListN.{length}
use Rattle.solution_lines.specs.Lines.{lines_of, OutOfForm}
use Rattle.solution_lines.proofs.Walking.{Through}
use Rattle.solution_lines.proofs.form_of.Given as goal

abbrev pub invariant-loop-n : goal.invariant-loop-n
invariant-loop-n l = (l.at ≤ length l.lines) × Through (OutOfForm (lines_of l.lines)) l.lines l.at l.n
