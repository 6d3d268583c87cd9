-- `position::inner::put_man` meets its contract.
use borrow.Author.Rules.{rules}
use Rattle.position.proofs.Editing.{put_is}
use Rattle.position.proofs.inner.put_man.Goals as goal

pub returns : goal.returns
returns c = put_is c.args.p _ c.args.x c.requires.0 c.requires.1 (search rules) (search rules) c.edited.ensures c.edited-2.ensures c.edited-3.ensures c.edited-4.ensures c.edited-5.ensures c.edited-6.ensures c.edited-7.ensures c.edited-8.ensures
