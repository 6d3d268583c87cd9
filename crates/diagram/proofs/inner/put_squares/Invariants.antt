use Rattle.std.proofs.Common.{◌+◌, ◌*◌, take}
use Rattle.squares.specs.Members.{concat}
use Rattle.output.specs.Appending.{Adds}
use Rattle.diagram.specs.Diagrams.{square_text, eight}
use Rattle.diagram.proofs.inner.put_squares.Given as goal

abbrev pub invariant-loop-file : goal.invariant-loop-file
invariant-loop-file l = Adds l.initial.out l.len (concat (λ f. square_text l.d (8 * l.rank + f)) (take l.file eight)) l.at l.out
