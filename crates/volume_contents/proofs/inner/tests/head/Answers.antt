use Rattle.std.proofs.lemmas.Result.{err_from_is_err_and}
use mathlib.Core.Path.{◌∙◌}
use Rattle.squares.specs.Tests.{◌and◌}
use Rattle.volume_contents.proofs.Chain.{fails, passed, head_so}
use Rattle.volume_contents.proofs.inner.tests.head.Goals as goal

pub returns-in_err-unless : goal.returns-in_err-unless
unfolding ◌and◌
returns-in_err-unless c = let p = err_from_is_err_and c.from_residual.result c.from_residual.ensures.1 in rw (p.1, p.2) ((fails _ _ _ _ c.in_err-unless.ensures) ∙ head_so c.args.v.now c.args.size c.byte.ensures c.byte-2.ensures c.byte-3.ensures c.byte-version.ensures c.two.ensures.0)

pub returns-in_err-unless-2 : goal.returns-in_err-unless-2
unfolding ◌and◌
returns-in_err-unless-2 c = let p = err_from_is_err_and c.from_residual-in_err-unless-2.result c.from_residual-in_err-unless-2.ensures.1 in rw (p.1, p.2) ((passed _ _ _ c.in_ok-unless.ensures (fails _ _ _ _ c.in_err-unless-2.ensures)) ∙ head_so c.args.v.now c.args.size c.byte.ensures c.byte-2.ensures c.byte-3.ensures c.byte-version.ensures c.two.ensures.0)

pub returns : goal.returns
unfolding ◌and◌
returns c = (passed _ _ _ c.in_ok-unless.ensures (passed _ _ _ c.in_ok-unless-2.ensures c.unless-3.ensures)) ∙ head_so c.args.v.now c.args.size c.byte.ensures c.byte-2.ensures c.byte-3.ensures c.byte-version.ensures c.two.ensures.0
