-- `strict_test::inner::coming::can_come` meets its contract.
use Rattle.laws.specs.Boards.{men_in}
use Rattle.position.specs.inner.Edits.{man_with}
use Rattle.position.proofs.Editing.{is_man}
use Rattle.squares.specs.Tests.{◌or◌}
use Rattle.strict_test.specs.inner.Coming.{comes_for}
use Rattle.strict_test.proofs.inner.coming.can_come.Goals as goal

pub returns : goal.returns
unfolding comes_for ◌or◌
returns c = rw (c.steps-same.ensures, c.steps-promoted.ensures, is_man (men_in c.args.p c.args.r.source) c.man_at-x.ensures.0, is_man (man_with c.other-c.result 1) c.man_number-pawn.ensures.0, c.king_home.ensures.0, c.other-c.ensures)
