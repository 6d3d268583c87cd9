-- `officers::inner::alone` meets its contract.
use borrow.Author.Tests.{eq-eqb, ne_eqb}
use Rattle.retraction_list.specs.inner.Pushing.{pushed_all}
use Rattle.officers.specs.Officers.{alone_of}
use Rattle.officers.proofs.inner.alone.Goals as goal

pub returns-then-v-ours-eq0 : goal.returns-then-v-ours-eq0
unfolding alone_of pushed_all
returns-then-v-ours-eq0 c = rw (← c.free-ours.ensures, eq-eqb _ _ c.if-v-ours-eq0.true)

pub returns-then-kind-eq1 : goal.returns-then-kind-eq1
unfolding alone_of
returns-then-kind-eq1 c = rw (c.offer.ensures, c.steps-m.ensures, c.to_square-src.ensures.0, ← c.free-ours.ensures, ne_eqb _ _ c.if-v-ours-eq0.false, eq-eqb _ _ c.if-kind-eq1.true)

pub returns : goal.returns
unfolding alone_of
returns c = rw (c.alone_at.ensures, c.to_square-src.ensures.0, ← c.free-ours.ensures, ne_eqb _ _ c.if-v-ours-eq0.false, ne_eqb _ _ c.if-kind-eq1.false)
