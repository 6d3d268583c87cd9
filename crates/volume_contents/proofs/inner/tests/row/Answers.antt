use Rattle.std.proofs.lemmas.Result.{err_from_is_err_and}
use Rattle.squares.specs.Tests.{◌or◌}
use Rattle.volume_contents.specs.Contents.{row_tested}
use Rattle.volume_contents.proofs.Chain.{fails, passed}
use Rattle.volume_contents.proofs.inner.tests.row.Goals as goal

pub returns-in_err-unless : goal.returns-in_err-unless
unfolding row_tested ◌or◌
returns-in_err-unless c = let p = err_from_is_err_and c.from_residual.result c.from_residual.ensures.1 in rw (p.1, p.2) (fails _ _ _ _ c.in_err-unless.ensures)

pub returns-in_err-unless-2 : goal.returns-in_err-unless-2
unfolding row_tested ◌or◌
returns-in_err-unless-2 c = let p = err_from_is_err_and c.from_residual-in_err-unless-2.result c.from_residual-in_err-unless-2.ensures.1 in rw (p.1, p.2) (passed _ _ _ c.in_ok-unless.ensures (fails _ _ _ _ c.in_err-unless-2.ensures))

pub returns-in_err-unless-3 : goal.returns-in_err-unless-3
unfolding row_tested ◌or◌
returns-in_err-unless-3 c = let p = err_from_is_err_and c.from_residual-in_err-unless-3.result c.from_residual-in_err-unless-3.ensures.1 in rw (p.1, p.2) (passed _ _ _ c.in_ok-unless.ensures (passed _ _ _ c.in_ok-unless-2.ensures (fails _ _ _ _ c.in_err-unless-3.ensures)))

pub returns-in_err-unless-4 : goal.returns-in_err-unless-4
unfolding row_tested ◌or◌
returns-in_err-unless-4 c = let p = err_from_is_err_and c.from_residual-in_err-unless-4.result c.from_residual-in_err-unless-4.ensures.1 in rw (p.1, p.2) (passed _ _ _ c.in_ok-unless.ensures (passed _ _ _ c.in_ok-unless-2.ensures (passed _ _ _ c.in_ok-unless-3.ensures (fails _ _ _ _ c.in_err-unless-4.ensures))))

pub returns-in_err-unless-5 : goal.returns-in_err-unless-5
unfolding row_tested ◌or◌
returns-in_err-unless-5 c = let p = err_from_is_err_and c.from_residual-in_err-unless-5.result c.from_residual-in_err-unless-5.ensures.1 in rw (p.1, p.2) (passed _ _ _ c.in_ok-unless.ensures (passed _ _ _ c.in_ok-unless-2.ensures (passed _ _ _ c.in_ok-unless-3.ensures (passed _ _ _ c.in_ok-unless-4.ensures (fails _ _ _ _ c.in_err-unless-5.ensures)))))

pub returns-in_err-unless-6 : goal.returns-in_err-unless-6
unfolding row_tested ◌or◌
returns-in_err-unless-6 c = let p = err_from_is_err_and c.from_residual-in_err-unless-6.result c.from_residual-in_err-unless-6.ensures.1 in rw (p.1, p.2) (passed _ _ _ c.in_ok-unless.ensures (passed _ _ _ c.in_ok-unless-2.ensures (passed _ _ _ c.in_ok-unless-3.ensures (passed _ _ _ c.in_ok-unless-4.ensures (passed _ _ _ c.in_ok-unless-5.ensures (fails _ _ _ _ c.in_err-unless-6.ensures))))))

pub returns-in_err-unless-7 : goal.returns-in_err-unless-7
unfolding row_tested ◌or◌
returns-in_err-unless-7 c = let p = err_from_is_err_and c.from_residual-in_err-unless-7.result c.from_residual-in_err-unless-7.ensures.1 in rw (p.1, p.2) (passed _ _ _ c.in_ok-unless.ensures (passed _ _ _ c.in_ok-unless-2.ensures (passed _ _ _ c.in_ok-unless-3.ensures (passed _ _ _ c.in_ok-unless-4.ensures (passed _ _ _ c.in_ok-unless-5.ensures (passed _ _ _ c.in_ok-unless-6.ensures (fails _ _ _ _ c.in_err-unless-7.ensures)))))))

pub returns-in_err-unless-8 : goal.returns-in_err-unless-8
unfolding row_tested ◌or◌
returns-in_err-unless-8 c = let p = err_from_is_err_and c.from_residual-in_err-unless-8.result c.from_residual-in_err-unless-8.ensures.1 in rw (p.1, p.2) (passed _ _ _ c.in_ok-unless.ensures (passed _ _ _ c.in_ok-unless-2.ensures (passed _ _ _ c.in_ok-unless-3.ensures (passed _ _ _ c.in_ok-unless-4.ensures (passed _ _ _ c.in_ok-unless-5.ensures (passed _ _ _ c.in_ok-unless-6.ensures (passed _ _ _ c.in_ok-unless-7.ensures (fails _ _ _ _ c.in_err-unless-8.ensures))))))))

pub returns : goal.returns
unfolding row_tested ◌or◌
returns c = passed _ _ _ c.in_ok-unless.ensures (passed _ _ _ c.in_ok-unless-2.ensures (passed _ _ _ c.in_ok-unless-3.ensures (passed _ _ _ c.in_ok-unless-4.ensures (passed _ _ _ c.in_ok-unless-5.ensures (passed _ _ _ c.in_ok-unless-6.ensures (passed _ _ _ c.in_ok-unless-7.ensures (passed _ _ _ c.in_ok-unless-8.ensures c.unless-9.ensures)))))))
