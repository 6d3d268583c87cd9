use Rattle.volume_make.proofs.Bodies.{volume_in}
use Rattle.volume_make.proofs.inner.write.Goals as goal

pub returns : goal.returns
returns c = volume_in c.args.t.now c.args.out.now _ _ _ c.args.n c.head_of.result c.requires.1 c.head_of.ensures.0 c.put.ensures c.put_rows.ensures c.put_bodies.ensures
