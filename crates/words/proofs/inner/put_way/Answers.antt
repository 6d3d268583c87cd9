-- `words::inner::put_way` meets its contract.
use Rattle.words.specs.Words.{bytes_in}
use Rattle.words.proofs.Worded.{way_added}
use Rattle.words.proofs.inner.put_way.Goals as goal

pub returns : goal.returns
unfolding bytes_in
returns c = way_added c.args.r c.requires c.put-a.ensures c.put_square-b.ensures c.put-c.ensures c.put_square.ensures
