-- `solution_lines::inner::read_line` meets its contract.
use Rattle.solution_lines.proofs.Inverse.{read_is}
use Rattle.solution_lines.proofs.inner.read_line.Goals as goal

pub returns : goal.returns
returns c = (
  read_is _ c.byte_at.ensures c.byte_at-2.ensures c.byte_at-3.ensures c.byte_at-4.ensures c.byte_at-5.ensures c.byte_at-mark.ensures c.square_from-source.ensures.0 c.square_from-target.ensures.0 c.letter_number-uncaptured.ensures.0,
  record { source_in = c.square_from-source.ensures.1; target_in = c.square_from-target.ensures.1; uncaptured_in = c.letter_number-uncaptured.ensures.1 },
)
