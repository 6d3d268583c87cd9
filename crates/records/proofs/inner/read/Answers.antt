-- `records::inner::read` meets its contract.
use native.Mathlib.Omega.{arith}
use mathlib.Core.Path.{refl, sym}
use lib.Seq.{length-take-le}
use Rattle.records.proofs.Answering.{no_space, one_space, six_fields}
use Rattle.records.proofs.inner.read.Goals as goal

pub returns-then-j-eq0 : goal.returns-then-j-eq0
returns-then-j-eq0 c = no_space _ c.args.text.now c.last-j.result c.last-j.ensures _ c.if-j-eq0.true refl

pub returns-then-i-eq0 : goal.returns-then-i-eq0
returns-then-i-eq0 c = one_space _ c.args.text.now c.last-j.result c.last-j.ensures _ c.last-i.result (omega arith) c.last-i.ensures c.if-i-eq0.true refl

pub slice_bounds-read_raw-end : goal.slice_bounds-read_raw-end
slice_bounds-read_raw-end c = sym (length-take-le _ _ (omega arith))

pub returns : goal.returns
returns c =
    six_fields _ c.args.text.now c.last-j.result c.last-j.ensures _ c.last-i.result (omega arith) c.last-i.ensures (omega arith) c.read_raw-raw.result
    c.count-half.result c.count-full.result c.read_raw-raw.ensures c.count-half.ensures c.count-full.ensures c.answer.ensures
