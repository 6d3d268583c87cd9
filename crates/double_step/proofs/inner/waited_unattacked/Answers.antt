-- `double_step::inner::waited_unattacked` meets its contract.
use Rattle.double_step.proofs.PutBack.{on_board, on_fourth, before_clean, before_kings, step_told}
use Rattle.double_step.proofs.inner.waited_unattacked.Goals as goal

pub unstepped-before-requires : goal.unstepped-before-requires
unstepped-before-requires c = (c.requires.0, on_board c.args.e c.args.q c.requires.1 c.requires.2 c.other-c.ensures, on_fourth c.args.e c.args.q c.requires.1 c.requires.2 c.other-c.ensures)

pub bad_check-requires : goal.bad_check-requires
bad_check-requires c = (before_clean c.args.e c.args.q c.requires.1 c.requires.2 c.other-c.ensures c.unstepped-before.ensures, before_kings c.args.e c.args.q c.requires.1 c.requires.2 c.other-c.ensures c.unstepped-before.ensures)

pub returns : goal.returns
returns c = step_told c.args.e c.args.q c.requires.1 c.requires.2 c.other-c.ensures c.unstepped-before.ensures c.bad_check.ensures
