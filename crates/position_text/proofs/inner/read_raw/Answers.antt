-- `position_text::inner::read_raw` meets its contract.
use mathlib.Core.Path.{◌∙◌, ap}
use Rattle.position_text.specs.inner.Reading.{raw_of}
use Rattle.position_text.proofs.Inverse.{in_form_lem, out_of_form, no_answer}
use Rattle.position_text.proofs.inner.read_raw.Goals as goal

pub returns-then-same : goal.returns-then-same
returns-then-same c = in_form_lem _ _ _ _ _ (c.raw_of-raw.ensures ∙ ap (raw_of _) c.walk.ensures) c.line_of-line.ensures.0.text c.same.ensures c.if-same.true

pub returns : goal.returns
returns c = no_answer _ _ _ c.no_raw.ensures (out_of_form _ _ _ _ _ (c.raw_of-raw.ensures ∙ ap (raw_of _) c.walk.ensures) c.line_of-line.ensures.0.text c.same.ensures c.if-same.false)
