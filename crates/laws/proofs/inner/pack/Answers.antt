-- `laws::inner::pack` meets its contract.
use native.Mathlib.Omega.{arith}
use Rattle.laws.proofs.Packing.{byte_lt}
use Rattle.laws.proofs.inner.pack.Goals as goal

pub overflow_mul-result-3 : goal.overflow_mul-result-3
overflow_mul-result-3 c = omega (arith, byte_lt c.args.r.unpromotion)

pub overflow_add-result-3 : goal.overflow_add-result-3
overflow_add-result-3 c = omega (arith, byte_lt c.args.r.unpromotion, c.requires.source_in, c.requires.target_in, c.requires.uncaptured_in)
