-- `unmake::inner::stepped` meets its contract.
use mathlib.Core.Path.{◌∙◌, ap, sym}
use mathlib.Core.Bool.{true, false}
use borrow.Author.Tests.{lt-ltb}
use borrow.Author.Rules.{rules}
use Rattle.laws.specs.Boards.{pos_at}
use Rattle.position.specs.Answers.{answered}
use Rattle.unmake.specs.Retracted.{stepped_to}
use Rattle.unmake.proofs.Answering.{step_over, step_no, leaves, back_clean, step_is, position_is}
use Rattle.unmake.proofs.inner.stepped.Goals as goal

pub returns-then-r-gt5 : goal.returns-then-r-gt5
unfolding stepped_to
returns-then-r-gt5 c = rw (step_over (pos_at c.args.p) c.args.r (lt-ltb _ _ c.if-r-gt5.true)) c.refuse.ensures

pub returns-then-not-undoable : goal.returns-then-not-undoable
unfolding stepped_to
returns-then-not-undoable c = rw (step_no c.args.p c.args.r c.way_of-w.result c.other-c.result c.left_by-x.result c.man_at-y.result (record { colour = c.other-c.ensures; stands = c.man_at-y.ensures.0; left = c.left_by-x.ensures.0; back = c.way_of-w.ensures }) (sym c.undoable.ensures ∙ c.if-not-undoable.true)) c.refuse-then-not-undoable.ensures

pub unmade-e-requires : goal.unmade-e-requires
unmade-e-requires c = leaves c.args.p c.args.r c.way_of-w.result c.other-c.result c.left_by-x.result c.man_at-y.result (record { colour = c.other-c.ensures; stands = c.man_at-y.ensures.0; left = c.left_by-x.ensures.0; back = c.way_of-w.ensures }) c.requires.0.1 c.requires.1.0 c.requires.1.1 (search rules) c.left_by-x.ensures.1 (sym c.undoable.ensures ∙ c.if-not-undoable.false)

pub rest_ok-requires : goal.rest_ok-requires
rest_ok-requires c = (
  (
    c.requires.0.0,
    back_clean c.args.p c.args.r c.way_of-w.result c.other-c.result c.left_by-x.result c.man_at-y.result (record { colour = c.other-c.ensures; stands = c.man_at-y.ensures.0; left = c.left_by-x.ensures.0; back = c.way_of-w.ensures })
        (leaves c.args.p c.args.r c.way_of-w.result c.other-c.result c.left_by-x.result c.man_at-y.result (record { colour = c.other-c.ensures; stands = c.man_at-y.ensures.0; left = c.left_by-x.ensures.0; back = c.way_of-w.ensures }) c.requires.0.1 c.requires.1.0 c.requires.1.1 (search rules) c.left_by-x.ensures.1 (sym c.undoable.ensures ∙ c.if-not-undoable.false))
        c.unmade-e.result c.unmade-e.ensures,
  ),
  search rules,
)

pub returns-then-not-rest_ok : goal.returns-then-not-rest_ok
unfolding stepped_to
returns-then-not-rest_ok c = rw (step_is c.args.p c.args.r c.way_of-w.result c.other-c.result c.left_by-x.result c.man_at-y.result (record { colour = c.other-c.ensures; stands = c.man_at-y.ensures.0; left = c.left_by-x.ensures.0; back = c.way_of-w.ensures })
    (leaves c.args.p c.args.r c.way_of-w.result c.other-c.result c.left_by-x.result c.man_at-y.result (record { colour = c.other-c.ensures; stands = c.man_at-y.ensures.0; left = c.left_by-x.ensures.0; back = c.way_of-w.ensures }) c.requires.0.1 c.requires.1.0 c.requires.1.1 (search rules) c.left_by-x.ensures.1 (sym c.undoable.ensures ∙ c.if-not-undoable.false))
    c.unmade-e.result c.unmade-e.ensures
    c.promoted_to-k.result false c.promoted_to-k.ensures (sym c.undoable.ensures ∙ c.if-not-undoable.false) (sym c.if-not-rest_ok.true ∙ c.rest_ok.ensures)) c.refuse-then-not-rest_ok.ensures

pub returns : goal.returns
unfolding stepped_to
returns c = rw (step_is c.args.p c.args.r c.way_of-w.result c.other-c.result c.left_by-x.result c.man_at-y.result (record { colour = c.other-c.ensures; stands = c.man_at-y.ensures.0; left = c.left_by-x.ensures.0; back = c.way_of-w.ensures })
    (leaves c.args.p c.args.r c.way_of-w.result c.other-c.result c.left_by-x.result c.man_at-y.result (record { colour = c.other-c.ensures; stands = c.man_at-y.ensures.0; left = c.left_by-x.ensures.0; back = c.way_of-w.ensures }) c.requires.0.1 c.requires.1.0 c.requires.1.1 (search rules) c.left_by-x.ensures.1 (sym c.undoable.ensures ∙ c.if-not-undoable.false))
    c.unmade-e.result c.unmade-e.ensures
    c.promoted_to-k.result true c.promoted_to-k.ensures (sym c.undoable.ensures ∙ c.if-not-undoable.false) (sym c.if-not-rest_ok.false ∙ c.rest_ok.ensures)) (ap answered (position_is c.args.p c.args.r c.way_of-w.result c.other-c.result c.left_by-x.result c.man_at-y.result (record { colour = c.other-c.ensures; stands = c.man_at-y.ensures.0; left = c.left_by-x.ensures.0; back = c.way_of-w.ensures })
    (leaves c.args.p c.args.r c.way_of-w.result c.other-c.result c.left_by-x.result c.man_at-y.result (record { colour = c.other-c.ensures; stands = c.man_at-y.ensures.0; left = c.left_by-x.ensures.0; back = c.way_of-w.ensures }) c.requires.0.1 c.requires.1.0 c.requires.1.1 (search rules) c.left_by-x.ensures.1 (sym c.undoable.ensures ∙ c.if-not-undoable.false))
    c.unmade-e.result c.unmade-e.ensures))
