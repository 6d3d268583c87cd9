-- `strict_search::inner::list` meets its contract.
use mathlib.Core.Path.{◌∙◌, ap}
use native.Mathlib.Omega.{arith}
use lib.ListN.{length}
use Rattle.laws.specs.Boards.{pos_at}
use Rattle.slots.specs.Slots.{fill_from}
use Rattle.slots.proofs.Telling.{listed_roomless, listed_written}
use Rattle.strict_search.specs.inner.Searching.{strict_moves}
use Rattle.strict_search.proofs.Sourcing.{same_moves}
use Rattle.strict_search.proofs.inner.list.Goals as goal

pub returns-then-n-slots : goal.returns-then-n-slots
returns-then-n-slots c = listed_roomless (strict_moves (pos_at c.args.p)) _ c.gather-n.ensures.all c.if-n-slots.true

pub fill-requires : goal.fill-requires
fill-requires c = omega (arith, c.if-n-slots.false, c.gather-n.ensures.all, ap length (same_moves (pos_at c.args.p) _ _ c.gather-n.ensures))

pub returns : goal.returns
returns c = listed_written (strict_moves (pos_at c.args.p)) _ c.gather-n.ensures.all c.if-n-slots.false (c.fill.ensures ∙ ap (fill_from _ 0) (same_moves (pos_at c.args.p) _ _ c.gather-n.ensures))
