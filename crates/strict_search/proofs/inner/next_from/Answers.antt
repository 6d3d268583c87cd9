-- `strict_search::inner::next_from` meets its contract.
use native.Mathlib.Omega.{arith}
use Rattle.laws.specs.Boards.{pos_at}
use Rattle.strict_search.proofs.Skipping.{skips_none, skips_both}
use Rattle.strict_search.proofs.Sourcing.{first_exact, next_here}
use Rattle.strict_search.proofs.inner.next_from.Goals as goal

pub loop-i-init : goal.loop-i-init
loop-i-init c = skips_none _ _ c.requires.2

pub targets_of-w-requires : goal.targets_of-w-requires
targets_of-w-requires c = (c.requires.0, c.requires.1, omega arith)

pub first_in-j-requires : goal.first_in-j-requires
first_in-j-requires c = c.loop-i-test.true

pub returns-then-j-i : goal.returns-then-j-i
returns-then-j-i c = next_here _ _ _ _ c.loop-i.invariant (first_exact (pos_at c.args.p) _ _ _ c.targets_of-w.ensures c.first_in-j.ensures) c.if-j-i.true

pub loop-i-smaller : goal.loop-i-smaller
loop-i-smaller c = omega (arith, c.first_in-j.ensures.skips.on)

pub loop-i-preserved : goal.loop-i-preserved
loop-i-preserved c = skips_both _ _ _ _ c.loop-i.invariant (first_exact (pos_at c.args.p) _ _ _ c.targets_of-w.ensures c.first_in-j.ensures).skips

pub returns : goal.returns
returns c = record { skips = c.loop-i.invariant; there = λ h. absurd (omega arith) }
