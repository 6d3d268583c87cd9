-- `strict_sets::inner::calm::calm` meets its contract.
use Rattle.laws.proofs.Facts.{accepts}
use Rattle.laws.specs.Boards.{pos_at, men_in}
use Rattle.laws.specs.Men.{man_of}
use Rattle.geometry.specs.Colors.{opp}
use Rattle.strict_sets.proofs.Calming.{calm_none}
use Rattle.strict_sets.proofs.Placing.{left_clean, calm_told}
use Rattle.strict_sets.proofs.inner.calm.calm.Goals as goal

pub comes_from-from-requires : goal.comes_from-from-requires
comes_from-from-requires c = (c.requires.1.sound, c.requires.2.man_in, c.requires.2.source_in)

pub returns-then-from-eq0 : goal.returns-then-from-eq0
returns-then-from-eq0 c = calm_none (men_in c.args.p) (opp c.args.p.turn) (man_of c.args.x) c.args.taking c.args.s c.comes_from-from.ensures c.if-from-eq0.true

pub king_square-king-requires : goal.king_square-king-requires
king_square-king-requires c = (c.requires.1.sound, (accepts (pos_at c.args.p) c.requires.1.lawful).kings)

pub put_man-left-requires : goal.put_man-left-requires
put_man-left-requires c = (c.requires.1.sound, c.stood_there.ensures.1)

pub exposed-requires : goal.exposed-requires
exposed-requires c = (c.requires.0, left_clean c.args.p c.args.s c.args.x c.requires.2 c.stood_there.result c.put_man-left.ensures, c.requires.2.man_in, c.king_square-king.ensures.here)

pub returns : goal.returns
returns c = calm_told c.args.p c.args.s c.args.x c.requires.2 c.args.taking c.stood_there.result c.comes_from-from.ensures c.king_square-king.ensures c.stood_there.ensures.0 c.put_man-left.ensures c.other-c.ensures c.exposed.ensures
