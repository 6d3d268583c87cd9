-- `volume_body::inner::read_body` meets its contract.
use Rattle.volume_body.proofs.Inverse.{in_form_lem, out_of_form, no_answer, no_length}
use Rattle.volume_body.proofs.inner.read_body.Goals as goal

pub returns-then-t-ne34 : goal.returns-then-t-ne34
returns-then-t-ne34 c = no_answer _ _ _ c.no_raw.ensures (no_length _ _ c.if-t-ne34.true)

pub returns-then-same : goal.returns-then-same
returns-then-same c = in_form_lem _ _ _ _ _ c.raw_of-raw.ensures c.body_of-line.ensures.0.text c.same.ensures c.if-same.true

pub returns : goal.returns
returns c = no_answer _ _ _ c.no_raw-2.ensures (out_of_form _ _ _ _ _ c.raw_of-raw.ensures c.body_of-line.ensures.0.text c.same.ensures c.if-same.false)
