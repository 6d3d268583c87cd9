-- The search's steps: before the loop, one read more, and what the loop leaves.
use Rattle.std.proofs.Common.{◌+◌, ◌-◌, arith, sym, ◌∙◌}
use Rattle.input.proofs.Searched.{going_first, going_on, open_is, ended_is, turn_fit, gives}
use Rattle.input.proofs.next.Goals as goal
use Rattle.input.proofs.next.Goals.{else-loop-test, then-loop-test+then-not-is_open}

pub loop-init : goal.loop-init
loop-init g c = (c.cut-p.ensures.fits, going_first c.args.chunk.now c.args.line.now _ c.args.c _ _ c.opened.ensures c.cut-p.ensures)

pub loop-preserved : goal.loop-preserved
loop-preserved g c = (
  turn_fit _ c.loop.invariant.0 _ _ _ _ c.turn-p.ensures,
  going_on c.args.chunk.now c.args.line.now c.args.c _ _ c.loop.p (18446744073709551615 - c.loop.counter) c.loop.invariant.0
      (open_is _ (sym c.if-not-is_open.false ∙ c.is_open.ensures)) c.loop.invariant.1 (18446744073709551615 - (c.loop.counter + 1)) (omega arith) _ _ _ c.turn-p.ensures,
)

pub returns : goal.returns
returns g c =
    gives c.args.chunk.now c.args.line.now c.args.c _ _ c.loop.p (18446744073709551615 - c.loop.counter) c.loop.invariant.1
    (λ e. elim c.loop-test.branch [
      | else-loop-test w ↦ omega (arith, w.loop-test.false)
      | then-loop-test+then-not-is_open w ↦ absurd (ended_is _ (sym w.if-not-is_open.true ∙ w.is_open.ensures) e)
    ])
    _ c.step_of.ensures
