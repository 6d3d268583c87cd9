-- `record_fields::inner::count` meets its contract.
use mathlib.Core.Path.{sym, ◌∙◌, subst}
use Prim.Native.Nat.{ℕ}
use native.Mathlib.Omega.{arith}
use Rattle.record_fields.specs.inner.Counting.{Counted}
use Rattle.record_fields.proofs.Decimals.{run_step, run_done, walk_counted}
use Rattle.record_fields.proofs.inner.count.Goals as goal

pub loop-b-preserved : goal.loop-b-preserved
loop-b-preserved c = (omega arith, rw c.count_step-s.ensures.0 (run_step c.loop-b.s c.args.t.now c.loop-b.b-index (omega arith) ∙ c.loop-b.invariant.1))

pub returns : goal.returns
returns c = subst (λ (x : ℕ). Counted c.args.t.now x) (sym (sym (run_done c.loop-b.s c.args.t.now c.loop-b.b-index (omega arith)) ∙ c.loop-b.invariant.1)) (walk_counted c.args.t.now)
