-- `records::inner::ranged` meets its contract.
use mathlib.Core.Path.{◌∙◌, sym, ap}
use Rattle.board.specs.declared.Boarded.{Boarded}
use Rattle.records.specs.inner.Answering.{recorded_by}
use Rattle.records.proofs.Giving.{out_of_range, within_range, let_by, handed_by}
use Rattle.records.proofs.inner.ranged.Goals as goal

pub returns-then-not-in_range : goal.returns-then-not-in_range
returns-then-not-in_range c = out_of_range c.args.p c.args.half c.args.full (sym c.in_range.ensures ∙ c.if-not-in_range.true)

pub returns-in_err-map_err : goal.returns-in_err-map_err
returns-in_err-map_err c =
    handed_by _ c.board_from-b.result.board c.args.half c.args.full c.map_err.ensures.cases c.in_err-map_err.was _ c.from_residual.ensures.1
    ∙ ap (λ (b : Boarded). recorded_by b.verdict b.board c.args.half c.args.full) c.board_from-b.ensures
    ∙ within_range c.args.p c.args.half c.args.full (sym c.in_range.ensures ∙ c.if-not-in_range.false)

pub returns : goal.returns
returns c =
    let_by _ c.board_from-b.result.board c.args.half c.args.full c.map_err.ensures.cases c.in_ok-map_err.was
    ∙ ap (λ (b : Boarded). recorded_by b.verdict b.board c.args.half c.args.full) c.board_from-b.ensures
    ∙ within_range c.args.p c.args.half c.args.full (sym c.in_range.ensures ∙ c.if-not-in_range.false)
