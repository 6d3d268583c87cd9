-- `words::inner::put_subject` meets its contract.
use Rattle.words.specs.Words.{bytes_in}
use Rattle.words.proofs.Worded.{subject_added}
use Rattle.words.proofs.inner.put_subject.Goals as goal

pub returns : goal.returns
unfolding bytes_in
returns c = subject_added c.args.n c.args.c c.args.kind c.ranges.n.fits c.requires c.put_number-number.ensures c.put-point.ensures c.put_side-side.ensures c.put-of.ensures c.put_name.ensures
