-- `unmake::inner::back::before` meets its contract.
use Rattle.unmake.specs.inner.Parts.{before_for}
use Rattle.position.proofs.Composing.{once_clean, twice_clean, thrice_clean, four}
use Rattle.unmake.proofs.Backs.{edits}
use Rattle.unmake.proofs.inner.back.before.Goals as goal

pub put_man-left-requires : goal.put_man-left-requires
put_man-left-requires c = (once_clean (edits c.args.w c.args.c c.args.s c.requires.0.2 c.requires.1.2) c.args.p c.uncleared-lifted.ensures, c.requires.1.1)

pub unfilled-filled-requires : goal.unfilled-filled-requires
unfilled-filled-requires c = (twice_clean (edits c.args.w c.args.c c.args.s c.requires.0.2 c.requires.1.2) c.args.p c.uncleared-lifted.ensures _ c.put_man-left.ensures, c.requires.0.2, c.requires.1.2)

pub put_man-requires : goal.put_man-requires
put_man-requires c = (thrice_clean (edits c.args.w c.args.c c.args.s c.requires.0.2 c.requires.1.2) c.args.p c.uncleared-lifted.ensures _ c.put_man-left.ensures c.unfilled-filled.ensures, c.requires.1.0)

pub returns : goal.returns
unfolding before_for
returns c = four (edits c.args.w c.args.c c.args.s c.requires.0.2 c.requires.1.2) c.args.p c.uncleared-lifted.ensures _ c.put_man-left.ensures c.unfilled-filled.ensures _ _ c.put_man.ensures
