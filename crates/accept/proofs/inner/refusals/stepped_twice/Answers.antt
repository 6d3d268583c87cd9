-- `accept::inner::refusals::stepped_twice` meets its contract.
use mathlib.Core.Path.{◌∙◌, sym}
use Rattle.squares.specs.Tests.{◌and◌}
use Rattle.laws.specs.Boards.{men_in}
use Rattle.accept.proofs.Judged.{is_stepped, not_stepped}
use Rattle.accept.proofs.inner.refusals.stepped_twice.Goals as goal

pub returns-then-rank_for-ne3 : goal.returns-then-rank_for-ne3
returns-then-rank_for-ne3 c = not_stepped (men_in c.args.p) c.args.color c.args.sq (λ e. c.if-rank_for-ne3.true (c.rank_for.ensures ∙ e))

pub returns : goal.returns
unfolding ◌and◌
returns c = rw (c.stands-pawn.ensures, c.is_empty-near.ensures, c.is_empty-far.ensures, c.behind-two.ensures.0, c.behind-one.ensures.0) (is_stepped (men_in c.args.p) c.args.color c.args.sq (sym c.rank_for.ensures ∙ c.if-rank_for-ne3.false))
