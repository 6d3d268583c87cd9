-- `desks::set_up` meets its contract.
use mathlib.Core.Path.{sym, ap, ◌∙◌}
use native.Mathlib.Omega.{arith}
use lib.ListN.{length, length-set}
use Rattle.desks.proofs.Room.{has_room}
use Rattle.desks.proofs.Calling.{set_refused, set_done, length_cleared}
use Rattle.desks.proofs.set_up.Goals as goal

pub returns-then-not-has_room : goal.returns-then-not-has_room
returns-then-not-has_room c = set_refused c.args.table.now c.args.first c.args.second (sym c.has_room.ensures ∙ c.if-not-has_room.true)

pub bounds-table-0 : goal.bounds-table-0
bounds-table-0 c = omega (arith, (has_room (length c.args.table.now) c.args.first c.args.second (sym c.has_room.ensures ∙ c.if-not-has_room.false)).0)

pub bounds-table-1 : goal.bounds-table-1
bounds-table-1 c = simp length-set (omega (arith, (has_room (length c.args.table.now) c.args.first c.args.second (sym c.has_room.ensures ∙ c.if-not-has_room.false)).0))

pub overflow_add-n : goal.overflow_add-n
overflow_add-n c = omega (arith, (has_room (length c.args.table.now) c.args.first c.args.second (sym c.has_room.ensures ∙ c.if-not-has_room.false)).1)

pub clear-requires : goal.clear-requires
clear-requires c = simp length-set (has_room (length c.args.table.now) c.args.first c.args.second (sym c.has_room.ensures ∙ c.if-not-has_room.false)).1

pub shape_of-table : goal.shape_of-table
shape_of-table c = ap length c.clear.ensures ∙ simp (length_cleared, length-set)

pub returns : goal.returns
returns c = set_done c.args.table.now c.args.first c.args.second _ (sym c.has_room.ensures ∙ c.if-not-has_room.false) c.clear.ensures
