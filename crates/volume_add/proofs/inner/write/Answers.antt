use mathlib.Core.Path.{◌≡◌}
use native.Mathlib.Omega.{arith}
use lib.ListN.{length}
use Rattle.volume_add.proofs.Lengthening.{longer_in}
use borrow.Author.Rules.{rules}
use Rattle.volume_add.proofs.inner.write.Goals as goal

pub returns : goal.returns
returns c = longer_in c.args.v.now c.args.out.now _ _ _ _ _ c.args.n c.args.number c.args.board c.head_of.result c.row_of.result c.body_of.result c.requires.1 c.requires.2 c.head_of.ensures.0 c.put.ensures c.put_rows.ensures c.row_of.ensures.0 c.put-2.ensures c.copy.ensures c.body_of.ensures.0 c.put-3.ensures
