-- `reply::inner::put_board` meets its contract.
use mathlib.Core.Path.{sym, ap, ◌∙◌}
use Rattle.std.specs.Prelude.{Err}
use lib.Seq.{length-take-le}
use Rattle.retraction_gen.specs.Sequence.{sequence_on}
use Rattle.slots.proofs.Telling.{listing_tells}
use Rattle.reply.proofs.Slots.{written_is, written_within}
use Rattle.reply.proofs.Spoken.{listed_passes, board_shown, board_roomless, board_refused}
use Rattle.reply.proofs.inner.put_board.Goals as goal

pub list-l-requires : goal.list-l-requires
list-l-requires c = (c.requires.0, c.requires.1)

pub slice_bounds-put_strict-end : goal.slice_bounds-put_strict-end
slice_bounds-put_strict-end c = written_within (listing_tells (sequence_on c.args.b) _ c.list-l.ensures _ c.in-Ok.is)

pub slice_bounds-put_strict-end-in-Ok : goal.slice_bounds-put_strict-end-in-Ok
slice_bounds-put_strict-end-in-Ok c = sym (length-take-le _ _ (written_within (listing_tells (sequence_on c.args.b) _ c.list-l.ensures _ c.in-Ok.is)))

pub put_strict-requires : goal.put_strict-requires
put_strict-requires c = (c.requires.0, listed_passes c.args.b c.requires.1 c.requires.2 _ c.list-l.ensures _ c.in-Ok.is, written_is (listing_tells (sequence_on c.args.b) _ c.list-l.ensures _ c.in-Ok.is), c.requires.3)

pub returns-in-Ok : goal.returns-in-Ok
returns-in-Ok c = board_shown c.args.b c.requires.1 c.requires.2 _ c.list-l.ensures _ c.in-Ok.is c.put_strict.ensures

pub returns-in-Room : goal.returns-in-Room
returns-in-Room c = board_roomless c.args.b c.requires.1 c.requires.2 _ c.list-l.ensures _ (c.in-Err.is ∙ ap Err c.in-Room.is) c.put_refused.ensures

pub returns-in-Refused : goal.returns-in-Refused
returns-in-Refused c = board_refused c.args.b c.requires.1 c.requires.2 _ c.list-l.ensures _ (c.in-Err.is ∙ ap Err c.in-Refused.is) c.put_refused-in-Refused.ensures
