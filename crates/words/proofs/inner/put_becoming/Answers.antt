-- `words::inner::put_becoming` meets its contract.
use native.Mathlib.Omega.{arith}
use Rattle.output.proofs.Adding.{adds_nothing}
use Rattle.words.specs.Words.{bytes_in, bytes}
use Rattle.words.proofs.Worded.{name_added}
use Rattle.words.proofs.inner.put_becoming.Goals as goal

pub returns-then-r : goal.returns-then-r
unfolding bytes_in
returns-then-r c = rw c.if-r.true (name_added (bytes ", becoming a ") c.args.kind (omega arith) c.requires c.put-a.ensures c.put_name.ensures)

pub returns : goal.returns
returns c = rw c.if-r.false (adds_nothing _ _)
