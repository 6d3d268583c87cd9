-- `diagram::inner::put_rank` meets its contract.
use native.Mathlib.Omega.{arith}
use Rattle.words.specs.Words.{bytes_in}
use Rattle.words.proofs.Chained.{ends, three_added}
use Rattle.diagram.proofs.Drawn.{rank_length}
use Rattle.diagram.proofs.inner.put_rank.Goals as goal

pub put_squares-b-requires : goal.put_squares-b-requires
put_squares-b-requires c = omega (arith, ends 3 c.put-a.ensures (omega arith))

pub returns : goal.returns
unfolding bytes_in
returns c =
    let a = c.args in
    three_added c.put-a.ensures c.put_squares-b.ensures c.put.ensures (omega (arith, rank_length a.d a.rank))
