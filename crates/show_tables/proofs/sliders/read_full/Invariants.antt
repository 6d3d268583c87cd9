-- No more bytes came than the line has; each read brings one at least.
use Rattle.std.proofs.Common.{◌≤◌, ◌-◌}
use Rattle.show_tables.proofs.sliders.read_full.Given as goal

abbrev pub invariant-loop-n : goal.invariant-loop-n
invariant-loop-n g l = l.n ≤ 17

abbrev pub decreases-loop-n : goal.decreases-loop-n
decreases-loop-n g l = 17 - l.n
