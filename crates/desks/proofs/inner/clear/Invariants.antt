use Rattle.std.proofs.Common.{◌≡◌}
use Rattle.desks.specs.Calls.{cleared}
use Rattle.desks.proofs.inner.clear.Given as goal

abbrev pub invariant-loop-i : goal.invariant-loop-i
invariant-loop-i l = l.table ≡ cleared l.initial.table l.i
