-- `strict_sets::inner::calm::raised` meets its contract.
use mathlib.Core.Path.{◌∙◌, sym}
use mathlib.Core.Bool.{true, false}
use Rattle.laws.specs.Boards.{men_in}
use Rattle.laws.specs.Men.{man_of}
use Rattle.geometry.specs.Colors.{opp}
use Rattle.strict_sets.proofs.Calming.{rises, rises_not}
use Rattle.strict_sets.proofs.Placing.{pawn_comes, pawn_half}
use Rattle.strict_sets.proofs.inner.calm.raised.Goals as goal

pub may_rise-requires : goal.may_rise-requires
may_rise-requires c = (c.requires.2.man_in, c.requires.2.source_in)

pub returns-then-not-may_rise : goal.returns-then-not-may_rise
returns-then-not-may_rise c = (rises_not (men_in c.args.p) (opp c.args.p.turn) false c.args.s (man_of c.args.y) (sym (rw c.other-c.ensures at c.may_rise.ensures) ∙ c.if-not-may_rise.true), rises_not (men_in c.args.p) (opp c.args.p.turn) true c.args.s (man_of c.args.y) (sym (rw c.other-c.ensures at c.may_rise.ensures) ∙ c.if-not-may_rise.true))

pub half-requires : goal.half-requires
half-requires c = (c.requires.0, c.requires.1, pawn_comes c.args.p c.args.s c.args.y c.requires.2 c.other-c.ensures c.man_number.ensures)

pub returns : goal.returns
returns c = (pawn_half c.args.p c.args.s c.args.y c.requires.2 c.other-c.ensures c.man_number.ensures false c.half.ensures.0 ∙ rises (men_in c.args.p) (opp c.args.p.turn) false c.args.s (man_of c.args.y) (sym (rw c.other-c.ensures at c.may_rise.ensures) ∙ c.if-not-may_rise.false), pawn_half c.args.p c.args.s c.args.y c.requires.2 c.other-c.ensures c.man_number.ensures true c.half.ensures.1 ∙ rises (men_in c.args.p) (opp c.args.p.turn) true c.args.s (man_of c.args.y) (sym (rw c.other-c.ensures at c.may_rise.ensures) ∙ c.if-not-may_rise.false))
