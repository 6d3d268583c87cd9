-- `men_field::inner::set_of` meets its contract.
use mathlib.Core.Bool.{Bool}
use mathlib.Core.Path.{ap, ◌∙◌}
use Prim.Native.Nat.{ℕ}
use native.Mathlib.Omega.{arith}
use lib.ListN.{get_or}
use Rattle.men_field.specs.inner.Letters.{place_of, belongs}
use Rattle.squares.proofs.Collect.{collect_none, collect_yes, collect_no}
use Rattle.men_field.proofs.inner.set_of.Goals as goal
use Rattle.men_field.proofs.inner.set_of.Goals.{then-is_in, else-is_in}

pub loop-k-init : goal.loop-k-init
loop-k-init c = collect_none (λ a. belongs c.args.w (get_or c.args.men (place_of a) 0))

pub loop-k-preserved : goal.loop-k-preserved
loop-k-preserved c =
    let on : ℕ → Bool = λ a. belongs c.args.w (get_or c.args.men (place_of a) 0) in
    let said = c.is_in.ensures ∙ ap (λ (j : ℕ). belongs c.args.w (get_or c.args.men j 0)) c.place_of.ensures.0 in
    elim c.if-is_in.branch [
      | then-is_in w ↦ collect_yes on c.loop-k.r c.loop-k.k (omega arith) c.loop-k.invariant _ said w.bit-r.result w.bit-r.ensures w.if-is_in.true c.if-is_in.r w.r-is
      | else-is_in w ↦ collect_no on c.loop-k.r c.loop-k.k (omega arith) c.loop-k.invariant _ said w.if-is_in.false c.if-is_in.r w.r-is
    ]
