-- `rows::inner::put_strict_by` meets its contract.
use mathlib.Core.Path.{refl, ap}
use native.Mathlib.Omega.{arith}
use lib.Seq.{take_all}
use borrow.Author.Rules.{rules}
use Rattle.squares.specs.Members.{concat}
use Rattle.rows.specs.inner.Marked.{strict_by}
use Rattle.output.proofs.Adding.{adds_as, adds_nothing}
use Rattle.rows.proofs.Adding.{adds_next}
use Rattle.rows.proofs.inner.put_strict_by.Goals as goal

pub loop-slot-init : goal.loop-slot-init
unfolding concat
loop-slot-init c = (adds_nothing c.args.out.now c.args.len, refl)

pub loop-slot-preserved : goal.loop-slot-preserved
loop-slot-preserved c = (adds_next (strict_by c.args.listed.now) c.args.strict.now c.loop-slot.slot-index (omega arith) _ _ _ _ _ _ c.requires c.loop-slot.invariant.0 c.put_strict_row-at.ensures, search rules)

pub returns : goal.returns
returns c = adds_as _ _ _ _ _ _ c.loop-slot.invariant.0 (ap (concat (strict_by c.args.listed.now)) (take_all c.loop-slot.slot-index c.args.strict.now (omega arith)))
