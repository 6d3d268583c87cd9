-- `strict_test::inner::few_souls` meets its contract.
use Rattle.laws.specs.Boards.{men_in}
use Rattle.strict_test.proofs.Earlier.{souls_by_lem}
use Rattle.strict_test.proofs.inner.few_souls.Goals as goal

pub returns : goal.returns
returns c = rw (c.souls-mine.ensures, c.souls-theirs.ensures, c.other-d.ensures) (souls_by_lem (men_in c.args.e) c.args.e.turn)
