-- `rows::inner::put_strict` meets its contract.
use mathlib.Core.Path.{sym, ap, subst}
use lib.ListN.{length}
use mathlib.Core.List.{List}
use Prim.Native.Nat.{ℕ, ◌+◌, ◌≤◌}
use Rattle.squares.specs.Members.{concat}
use Rattle.output.proofs.Adding.{adds_as}
use Rattle.rows.proofs.Marking.{marks_none, strict_same}
use Rattle.rows.proofs.inner.put_strict.Goals as goal

pub mark_all-requires : goal.mark_all-requires
mark_all-requires c = marks_none

pub put_strict_by-requires : goal.put_strict_by-requires
put_strict_by-requires c = subst (λ (f : ℕ → List ℕ). c.args.len + length (concat f c.args.strict.now) ≤ length c.args.out.now) (sym (strict_same c.mark_all.ensures)) c.requires

pub returns : goal.returns
returns c = adds_as _ _ _ _ _ _ c.put_strict_by.ensures (ap (λ (f : ℕ → List ℕ). concat f c.args.strict.now) (strict_same c.mark_all.ensures))
