use native.Mathlib.Omega.{arith}
use Rattle.volume_lines.proofs.Surveying.{before_end, clear, line_in, line_out, sofar_none, sofar_more, sofar_open, sofar_stops}
use Rattle.volume_lines.proofs.inner.survey.Goals as goal

pub loop-at-init : goal.loop-at-init
loop-at-init c = sofar_none c.args.t.now c.args.count c.args.before

pub returns-then-stop-t : goal.returns-then-stop-t
returns-then-stop-t c = sofar_open _ _ _ c.loop-at.invariant (λ i h g. clear c.args.t.now c.loop-at.at c.find-stop.result c.loop-at.invariant.inside c.find-stop.ensures.0 i h (omega (arith, c.if-stop-t.true)))

pub returns-in-OutOfForm : goal.returns-in-OutOfForm
returns-in-OutOfForm c = sofar_stops _ _ _ c.loop-at.invariant c.loop-at-test.true (line_out c.args.t.now c.loop-at.at c.find-stop.result c.loop-at.invariant.inside c.find-stop.ensures.0 c.read_raw-raw.result (before_end c.args.t.now c.loop-at.at c.find-stop.result c.loop-at.invariant.inside c.find-stop.ensures.0 c.if-stop-t.false) c.read_raw-raw.ensures c.in-OutOfForm.is)

pub loop-at-preserved : goal.loop-at-preserved
loop-at-preserved c = sofar_more _ _ _ c.read_raw-raw.result.position _ c.judge.result c.loop-at.invariant (line_in c.args.t.now c.loop-at.at c.find-stop.result c.loop-at.invariant.inside c.find-stop.ensures.0 c.read_raw-raw.result (before_end c.args.t.now c.loop-at.at c.find-stop.result c.loop-at.invariant.inside c.find-stop.ensures.0 c.if-stop-t.false) c.read_raw-raw.ensures c.in_default.is) (omega arith) (omega (arith, before_end c.args.t.now c.loop-at.at c.find-stop.result c.loop-at.invariant.inside c.find-stop.ensures.0 c.if-stop-t.false)) c.judge.ensures c.note-named.ensures
