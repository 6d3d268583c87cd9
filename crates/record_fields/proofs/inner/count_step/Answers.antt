-- `record_fields::inner::count_step` meets its contract.
use native.Mathlib.Omega.{arith}
use borrow.Author.Tests.{eq-eqb, ne_eqb, lt-ltb, le-ltb}
use Rattle.record_fields.specs.inner.Counting.{count_step}
use Rattle.record_fields.proofs.Decimals.{step_value}
use Rattle.record_fields.proofs.inner.count_step.Goals as goal

pub returns-then-s-eq10002 : goal.returns-then-s-eq10002
unfolding count_step
returns-then-s-eq10002 c = (simp (eq-eqb _ _ c.if-s-eq10002.true), omega arith)

pub returns-then-b-lt48 : goal.returns-then-b-lt48
unfolding count_step
returns-then-b-lt48 c = (simp (ne_eqb _ _ c.if-s-eq10002.false, lt-ltb _ _ c.if-b-lt48.true), omega arith)

pub returns-then-b-gt57 : goal.returns-then-b-gt57
unfolding count_step
returns-then-b-gt57 c = (simp (ne_eqb _ _ c.if-s-eq10002.false, le-ltb _ _ c.if-b-lt48.false, lt-ltb _ _ c.if-b-gt57.true), omega arith)

pub returns-then-s-eq10001 : goal.returns-then-s-eq10001
unfolding count_step
returns-then-s-eq10001 c = (simp (ne_eqb _ _ c.if-s-eq10002.false, le-ltb _ _ c.if-b-lt48.false, le-ltb _ _ c.if-b-gt57.false, eq-eqb _ _ c.if-s-eq10001.true), omega arith)

pub returns : goal.returns
returns c = (omega (arith, step_value c.args.s c.args.b c.if-s-eq10002.false (omega arith) (omega arith) c.if-s-eq10001.false (λ e. omega arith)), omega arith)
