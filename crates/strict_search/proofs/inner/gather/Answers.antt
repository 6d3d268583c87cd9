-- `strict_search::inner::gather` meets its contract.
use native.Mathlib.Omega.{arith}
use Rattle.laws.specs.Boards.{pos_at}
use Rattle.strict_search.proofs.Sourcing.{gathered_none, gathered_more, gathered_le, gathered_all}
use Rattle.strict_search.proofs.inner.gather.Goals as goal

pub loop-s-init : goal.loop-s-init
loop-s-init c = gathered_none _ _ c.requires.1

pub targets_of-w-requires : goal.targets_of-w-requires
targets_of-w-requires c = (c.requires.0.0, c.requires.0.1, omega arith)

pub keep-requires : goal.keep-requires
keep-requires c = (omega arith, c.loop-s.invariant.long)

pub overflow_add-n : goal.overflow_add-n
overflow_add-n c = omega (arith, gathered_le _ _ _ _ (gathered_more (pos_at c.args.p) c.loop-s.kept _ c.loop-s.n c.loop-s.s _ _ c.loop-s.invariant c.targets_of-w.ensures c.keep.ensures c.size_of-n.ensures))

pub loop-s-preserved : goal.loop-s-preserved
loop-s-preserved c = gathered_more (pos_at c.args.p) c.loop-s.kept _ c.loop-s.n c.loop-s.s _ _ c.loop-s.invariant c.targets_of-w.ensures c.keep.ensures c.size_of-n.ensures

pub returns : goal.returns
returns c = gathered_all (pos_at c.args.p) _ _ c.loop-s.s c.loop-s.invariant (omega arith)
