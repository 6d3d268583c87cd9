-- `reply::inner::put_strict` meets its contract.
use mathlib.Core.Path.{sym, ap, ◌∙◌}
use Rattle.std.specs.Prelude.{Err}
use native.Mathlib.Omega.{arith}
use lib.ListN.{length}
use lib.Seq.{length-take-le}
use Rattle.slots.proofs.Telling.{listing_tells}
use Rattle.reply.proofs.Slots.{passed_board, passed_room, written_is, written_within}
use Rattle.reply.proofs.Shown.{never_failed}
use Rattle.reply.proofs.Spoken.{strict_shown, strict_roomless}
use Rattle.reply.proofs.inner.put_strict.Goals as goal

pub list-s-requires : goal.list-s-requires
list-s-requires c = (c.requires.0, passed_board c.args.b c.requires.1)

pub slice_bounds-put_lists-end : goal.slice_bounds-put_lists-end
slice_bounds-put_lists-end c = let x = c.list-s.ensures in written_within (listing_tells x.moves _ x.into _ c.in-Ok.is)

pub slice_bounds-put_lists-end-in-Ok : goal.slice_bounds-put_lists-end-in-Ok
slice_bounds-put_lists-end-in-Ok c = let x = c.list-s.ensures in sym (length-take-le _ _ (written_within (listing_tells x.moves _ x.into _ c.in-Ok.is)))

pub put_lists-requires : goal.put_lists-requires
put_lists-requires c = let x = c.list-s.ensures in let w = listing_tells x.moves _ x.into _ c.in-Ok.is in (passed_board c.args.b c.requires.1, (let k = passed_room c.args.b c.requires.1 in omega (arith, ap length c.requires.2)), omega (arith, ap length (written_is w), w.fits, c.requires.3))

pub returns-in-Ok : goal.returns-in-Ok
returns-in-Ok c = strict_shown c.args.b c.requires.1 c.requires.3 _ c.list-s.ensures _ c.in-Ok.is _ c.requires.2 c.put_lists.ensures

pub returns-in-Room : goal.returns-in-Room
returns-in-Room c = strict_roomless c.args.b c.requires.1 c.requires.3 _ c.list-s.ensures _ (c.in-Err.is ∙ ap Err c.in-Room.is) c.put_refused.ensures

pub returns-in-Refused : goal.returns-in-Refused
returns-in-Refused c = let x = c.list-s.ensures in absurd (never_failed c.args.b (passed_board c.args.b c.requires.1) (listing_tells x.moves _ x.into _ (c.in-Err.is ∙ ap Err c.in-Refused.is)))
