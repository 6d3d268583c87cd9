-- `rows::inner::count_strict` meets its contract.
use mathlib.Core.Path.{ap, ◌∙◌}
use lib.ListN.{length}
use mathlib.Core.List.{List}
use Prim.Native.Nat.{ℕ}
use Rattle.squares.specs.Members.{concat}
use Rattle.rows.proofs.Marking.{marks_none, strict_same}
use Rattle.rows.proofs.inner.count_strict.Goals as goal

pub mark_all-requires : goal.mark_all-requires
mark_all-requires c = marks_none

pub returns : goal.returns
returns c = c.count_strict_by.ensures ∙ ap (λ (f : ℕ → List ℕ). length (concat f c.args.strict.now)) (strict_same c.mark_all.ensures)
