-- `retraction_gen::inner::one_turn` meets its contract.
use mathlib.Core.Path.{sym, ◌∙◌}
use native.Mathlib.Omega.{arith}
use borrow.Author.Tests.{lt-ltb, le-ltb}
use Rattle.retraction_gen.specs.Cursors.{turn_of}
use Rattle.retraction_gen.proofs.Going.{on_index}
use Rattle.retraction_gen.proofs.inner.one_turn.Goals as goal

pub returns-then-not-on_entry : goal.returns-then-not-on_entry
unfolding turn_of
returns-then-not-on_entry c = rw (← c.on_entry.ensures, c.if-not-on_entry.true)

pub offset_bounds-g-i : goal.offset_bounds-g-i
offset_bounds-g-i c = omega (arith, on_index _ (sym c.on_entry.ensures ∙ c.if-not-on_entry.false))

pub bounds-g-i : goal.bounds-g-i
bounds-g-i c = on_index _ (sym c.on_entry.ensures ∙ c.if-not-on_entry.false)

pub overflow_add-g2 : goal.overflow_add-g2
overflow_add-g2 c = omega (arith, on_index _ (sym c.on_entry.ensures ∙ c.if-not-on_entry.false))

pub returns-then-lowest-gt63 : goal.returns-then-lowest-gt63
unfolding turn_of
returns-then-lowest-gt63 c = rw (c.again.ensures, sym c.on_entry.ensures ∙ c.if-not-on_entry.false, ← c.lowest.ensures, lt-ltb _ _ c.if-lowest-gt63.true)

pub turn_in-requires : goal.turn_in-requires
turn_in-requires c = on_index _ (sym c.on_entry.ensures ∙ c.if-not-on_entry.false)

pub returns : goal.returns
unfolding turn_of
returns c = rw (sym c.on_entry.ensures ∙ c.if-not-on_entry.false, ← c.lowest.ensures, le-ltb _ _ c.if-lowest-gt63.false, c.turn_in.ensures)
