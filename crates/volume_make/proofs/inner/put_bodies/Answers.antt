use mathlib.Core.Path.{◌≡◌}
use native.Mathlib.Omega.{arith}
use lib.ListN.{length}
use Rattle.volume_make.proofs.Filling.{filled_length}
use Rattle.volume_make.proofs.Bodies.{going_room, going_more, going_done}
use Rattle.volume_make.proofs.inner.put_bodies.Goals as goal

pub put-requires : goal.put-requires
put-requires c = let z : length c.loop-at.out ≡ length c.args.out.now = filled_length c.loop-at.invariant.filled in (omega (arith, c.body_of.ensures.1), omega (arith, c.body_of.ensures.1, going_room c.args.t.now c.args.out.now c.args.start c.loop-at.at c.loop-at.to c.loop-at.out c.loop-at.invariant c.loop-at-test.true))

pub loop-at-preserved : goal.loop-at-preserved
loop-at-preserved c = going_more c.args.t.now c.args.out.now c.args.start c.loop-at.at c.loop-at.to c.loop-at.out c.loop-at.invariant c.loop-at-test.true c.find-stop.result c.find-stop.ensures.0 c.read_raw-raw.result c.read_raw-raw.ensures _ c.body_of.result c.body_of.ensures.0 c.put.ensures

pub returns : goal.returns
returns c = going_done c.args.t.now c.args.out.now c.args.start c.loop-at.at c.loop-at.to c.loop-at.out c.loop-at-test.false c.loop-at.invariant
