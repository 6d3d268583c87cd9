-- `diagram::inner::put_diagram` meets its contract.
use native.Mathlib.Omega.{arith}
use Rattle.words.specs.Words.{bytes_in}
use Rattle.diagram.specs.Diagrams.{diagram_of}
use Rattle.words.proofs.Chained.{ends, four_added}
use Rattle.diagram.proofs.Drawn.{diagram_length}
use Rattle.diagram.proofs.inner.put_diagram.Goals as goal

pub put_ranks-men-requires : goal.put_ranks-men-requires
put_ranks-men-requires c = omega (arith, ends 29 c.put-top.ensures (omega arith))

pub returns : goal.returns
unfolding bytes_in diagram_of
returns c = four_added c.put-top.ensures c.put_ranks-men.ensures c.put-bottom.ensures c.put.ensures (omega (arith, diagram_length c.args.d))
