use mathlib.Core.Path.{◌≡◌, refl, subst}
use lib.ListN.{length}
use Prim.Native.Nat.{ℕ, ◌-◌, ◌+◌, ◌*◌}
use native.Mathlib.Omega.{arith}
use Rattle.laws.specs.declared.Edition.{Edition}
use Rattle.men_field.specs.inner.Lines.{Holds}
use Rattle.volume_contents.specs.declared.Entry.{Entry}
use Rattle.volume_contents.specs.Layout.{row_of}
use Rattle.volume_contents.specs.inner.Walks.{edition_of}
use Rattle.volume_make.proofs.Filling.{filled_length}
use Rattle.volume_make.proofs.Rows.{rows_none, rows_more, rows_done}
use Rattle.volume_add.specs.inner.Longer.{carried}
use Rattle.volume_add.proofs.inner.put_rows.Goals as goal

pub loop-i-init : goal.loop-i-init
loop-i-init c = rows_none (carried c.args.v.now c.args.n) 6 8 c.args.out.now (omega arith)

pub loop-i-preserved : goal.loop-i-preserved
loop-i-preserved c =
    let place : ℕ = 14 + 8 * c.args.n + 34 * c.loop-i.i in
    let h = subst (λ (x : Edition). Holds c.row_of.result (row_of c.entry-row.result.number x place)) c.edition_of-edition.ensures c.row_of.ensures.0 in
    let k = subst (λ (r : Entry). Holds c.row_of.result (row_of r.number (edition_of r.edition) place)) c.entry-row.ensures.0 h in
    rows_more (carried c.args.v.now c.args.n) 6 8 _ c.loop-i.i c.row_of.result (λ j. refl) c.loop-i.invariant (omega arith) k refl c.put.ensures

pub returns : goal.returns
returns c = rows_done (carried c.args.v.now c.args.n) 6 8 c.args.n c.loop-i.i (λ j. refl) (omega arith) c.loop-i.invariant
