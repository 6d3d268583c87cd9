use Rattle.volume_read.proofs.Boards.{scanning_none, scanning_more}
use Rattle.volume_read.proofs.inner.scan.Goals as goal

pub loop-i-init : goal.loop-i-init
loop-i-init c = scanning_none c.args.v.now c.args.n

pub loop-i-preserved : goal.loop-i-preserved
loop-i-preserved c = scanning_more c.in_ok-p.p c.loop-i.invariant c.loop-i-test.true c.in_ok-p.ensures c.line_of-l.ensures.0.len c.line_of-l.ensures.1
