use mathlib.Core.Path.{◌≡◌}
use lib.ListN.{length, take}
use Rattle.squares.specs.Members.{concat}
use Rattle.output.specs.Appending.{Adds}
use Rattle.rows.specs.inner.Marked.{listed_by}
use Rattle.rows.proofs.inner.put_listed_by.Given as goal

abbrev pub invariant-loop-slot : goal.invariant-loop-slot
invariant-loop-slot l = Adds l.initial.out l.len (concat (listed_by l.strict) (take l.slot-index l.listed)) l.at l.out × (length l.out ≡ length l.initial.out)
