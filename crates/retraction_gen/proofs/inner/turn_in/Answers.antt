-- `retraction_gen::inner::turn_in` meets its contract.
use borrow.Author.Tests.{le-leb, lt-leb}
use Rattle.retraction_gen.specs.Cursors.{turn_in}
use Rattle.retraction_gen.proofs.inner.turn_in.Goals as goal

pub returns-then-is_un_en_passant : goal.returns-then-is_un_en_passant
unfolding turn_in
returns-then-is_un_en_passant c = rw (c.found.ensures, ← c.is_un_en_passant.ensures, c.if-is_un_en_passant.true, c.spend.ensures, c.lowest-target.ensures)

pub returns-then-u-ge6 : goal.returns-then-u-ge6
unfolding turn_in
returns-then-u-ge6 c = rw (c.again.ensures, ← c.is_un_en_passant.ensures, c.if-is_un_en_passant.false, le-leb _ _ c.if-u-ge6.true, c.spend-g2.ensures)

pub returns-then-is_barred : goal.returns-then-is_barred
unfolding turn_in
returns-then-is_barred c = rw (c.again-then-is_barred.ensures, ← c.is_un_en_passant.ensures, c.if-is_un_en_passant.false, lt-leb _ _ c.if-u-ge6.false, ← c.is_barred.ensures, c.if-is_barred.true)

pub returns : goal.returns
unfolding turn_in
returns c = rw (c.found-2.ensures, ← c.is_un_en_passant.ensures, c.if-is_un_en_passant.false, lt-leb _ _ c.if-u-ge6.false, ← c.is_barred.ensures, c.if-is_barred.false, c.lowest-target.ensures)
