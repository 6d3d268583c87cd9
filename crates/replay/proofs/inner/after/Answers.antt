-- `replay::inner::after` meets its contract.
use borrow.Author.Rules.{rules}
use Rattle.laws.specs.Men.{empty}
use Rattle.replay.specs.inner.Parts.{after_for}
use Rattle.position.proofs.Composing.{once_clean, twice_clean, thrice_clean, four}
use Rattle.replay.proofs.Forwards.{edits}
use Rattle.replay.proofs.inner.after.Goals as goal

pub put_man-left-requires : goal.put_man-left-requires
put_man-left-requires c = (once_clean (edits c.args.w c.args.c c.args.t c.args.s c.requires.0.1 c.requires.0.2 c.requires.1.1) c.args.p c.cleared-taken.ensures, search rules)

pub filled-ready-requires : goal.filled-ready-requires
filled-ready-requires c = twice_clean (edits c.args.w c.args.c c.args.t c.args.s c.requires.0.1 c.requires.0.2 c.requires.1.1) c.args.p c.cleared-taken.ensures empty c.put_man-left.ensures

pub put_man-requires : goal.put_man-requires
put_man-requires c = (thrice_clean (edits c.args.w c.args.c c.args.t c.args.s c.requires.0.1 c.requires.0.2 c.requires.1.1) c.args.p c.cleared-taken.ensures empty c.put_man-left.ensures c.filled-ready.ensures, c.requires.1.0)

pub returns : goal.returns
unfolding after_for
returns c = four (edits c.args.w c.args.c c.args.t c.args.s c.requires.0.1 c.requires.0.2 c.requires.1.1) c.args.p c.cleared-taken.ensures empty c.put_man-left.ensures c.filled-ready.ensures _ _ c.put_man.ensures
