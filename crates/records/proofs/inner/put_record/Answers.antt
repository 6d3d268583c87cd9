-- `records::inner::put_record` meets its contract.
use native.Mathlib.Omega.{arith}
use mathlib.Core.Path.{◌≡◌, ◌∙◌, sym, ap}
use lib.ListN.{length}
use lib.Seq.{length-take-le}
use Rattle.position_text.specs.Form.{printed}
use Rattle.output.proofs.Added.{used_adds}
use Rattle.output.proofs.Adding.{adds_as}
use Rattle.records.specs.inner.Answering.{with_state}
use Rattle.records.proofs.Writing.{record_shown}
use borrow.Author.Rules.{rules}
use Rattle.records.proofs.inner.put_record.Goals as goal

pub slice_bounds-bytes-end : goal.slice_bounds-bytes-end
slice_bounds-bytes-end c = let e : length c.line_of-four.result.bytes ≡ 81 = search rules in omega (arith, c.line_of-four.ensures.1)

pub slice_bounds-put_bytes-end-2 : goal.slice_bounds-put_bytes-end-2
slice_bounds-put_bytes-end-2 c =
    let e : length c.line_of-four.result.bytes ≡ 81 = search rules in
    sym (length-take-le c.line_of-four.result.len c.line_of-four.result.bytes (omega (arith, c.line_of-four.ensures.1)))

pub returns : goal.returns
returns c =
    record_shown c.args.p c.args.half c.args.full c.args.line.now _ _ _ _ _ _ _ _ _ _ _ _ (search rules) c.ranges.half.fits c.ranges.full.fits
    (adds_as _ _ _ _ _ _ (used_adds _ _ _ _ _ c.put_bytes.ensures _ c.unwrap_or-fields.ensures)
    (c.line_of-four.ensures.0.text ∙ ap printed (c.with_state.ensures ∙ ap (with_state c.args.p) c.passed_state-passed.ensures)))
    (used_adds _ _ _ _ _ c.put_bytes-2.ensures _ c.unwrap_or-first.ensures) c.put_decimal.ensures c.unwrap_or-second.ensures
    (used_adds _ _ _ _ _ c.put_bytes-3.ensures _ c.unwrap_or-third.ensures) c.put_decimal-2.ensures c.unwrap_or.ensures
