-- No more bytes came than the buffer has; each read brings one at least.
use Rattle.std.proofs.Common.{◌≤◌, ◌-◌, length}
use Rattle.solutions.proofs.fill.Given as goal

abbrev pub invariant-loop-n : goal.invariant-loop-n
invariant-loop-n g l = l.n ≤ length l.file

abbrev pub decreases-loop-n : goal.decreases-loop-n
decreases-loop-n g l = length l.file - l.n
