-- `listing::inner::list_from` meets its contract.
use native.Mathlib.Omega.{arith}
use Rattle.retraction_gen.specs.Sequence.{sequence_of}
use Rattle.listing.specs.inner.Giving.{entries_of}
use Rattle.slots.proofs.Telling.{listed_roomless, listed_written}
use Rattle.listing.proofs.inner.list_from.Goals as goal

pub returns-then-n-slots : goal.returns-then-n-slots
returns-then-n-slots c = listed_roomless (sequence_of c.args.masks.now (entries_of c.args.list)) _ c.count-n.ensures c.if-n-slots.true

pub fill-requires : goal.fill-requires
fill-requires c = (c.requires, omega (arith, c.count-n.ensures, c.if-n-slots.false))

pub returns : goal.returns
returns c = listed_written (sequence_of c.args.masks.now (entries_of c.args.list)) _ c.count-n.ensures c.if-n-slots.false c.fill.ensures
