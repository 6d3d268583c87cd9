use Rattle.std.proofs.Common.{◌-◌, take}
use Rattle.squares.specs.Members.{concat}
use Rattle.output.specs.Appending.{Adds}
use Rattle.diagram.specs.Diagrams.{rank_text, eight}
use Rattle.diagram.proofs.inner.put_ranks.Given as goal

abbrev pub invariant-loop-rank : goal.invariant-loop-rank
invariant-loop-rank l = Adds l.initial.out l.len (concat (λ j. rank_text l.d (7 - j)) (take (8 - l.rank) eight)) l.at l.out
