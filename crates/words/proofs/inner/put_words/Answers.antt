-- `words::inner::put_words` meets its contract.
use native.Mathlib.Omega.{arith}
use Rattle.words.proofs.Lengths.{subject_short, way_short, deed_short}
use Rattle.words.proofs.Chained.{ends}
use Rattle.words.proofs.Worded.{words_added}
use Rattle.words.proofs.inner.put_words.Goals as goal

pub put_way-c-requires : goal.put_way-c-requires
put_way-c-requires c = omega (arith, ends 36 c.put_subject-a.ensures (subject_short _ c.other.result c.moved.result c.ranges.n.fits))

pub put_deed-d-requires : goal.put_deed-d-requires
put_deed-d-requires c = omega (arith, ends 36 c.put_subject-a.ensures (subject_short _ c.other.result c.moved.result c.ranges.n.fits), ends 14 c.put_way-c.ensures (way_short c.args.r))

pub put_becoming-e-requires : goal.put_becoming-e-requires
put_becoming-e-requires c = omega (arith, ends 36 c.put_subject-a.ensures (subject_short _ c.other.result c.moved.result c.ranges.n.fits), ends 14 c.put_way-c.ensures (way_short c.args.r), ends 19 c.put_deed-d.ensures (deed_short _ c.args.r))

pub returns : goal.returns
returns c = words_added _ _ _ _ _ _ c.args.r _ c.ranges.n.fits c.other.ensures c.source_kind-kind.ensures c.moved.ensures c.requires c.put_subject-a.ensures c.put_way-c.ensures c.put_deed-d.ensures c.put_becoming-e.ensures c.put_verdict.ensures
