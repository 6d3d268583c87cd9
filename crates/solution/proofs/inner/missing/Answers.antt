-- `solution::inner::missing` meets its contract.
use mathlib.Core.Path.{sym, ap, ◌∙◌}
use mathlib.Core.Bool.{not}
use native.Mathlib.Omega.{arith}
use Rattle.strict_search.proofs.Remaining.{inner}
use Rattle.solution.proofs.Marking.{so_far, and_on, all_marked, lacks_here}
use Rattle.solution.proofs.inner.missing.Goals as goal

pub loop-i-init : goal.loop-i-init
loop-i-init c = λ k l z. absurd (omega arith)

pub next_from-j-requires : goal.next_from-j-requires
next_from-j-requires c = (c.requires.0, c.requires.1, omega arith)

pub returns-then-j-eq-PLACES : goal.returns-then-j-eq-PLACES
returns-then-j-eq-PLACES c = all_marked _ _ (so_far _ _ _ _ c.next_from-j.ensures c.loop-i.invariant) c.if-j-eq-PLACES.true

pub is_marked-requires : goal.is_marked-requires
is_marked-requires c = inner _ _ _ c.next_from-j.ensures c.if-j-eq-PLACES.false

pub candidate-requires : goal.candidate-requires
candidate-requires c = omega (arith, inner _ _ _ c.next_from-j.ensures c.if-j-eq-PLACES.false)

pub returns-then-not-is_marked : goal.returns-then-not-is_marked
returns-then-not-is_marked c =
    let l = inner _ _ _ c.next_from-j.ensures c.if-j-eq-PLACES.false in
    lacks_here _ _ _ _ c.next_from-j.ensures c.loop-i.invariant l _ c.candidate.ensures _ c.is_marked.ensures (ap not c.if-not-is_marked.true)

pub overflow_add-i : goal.overflow_add-i
overflow_add-i c = omega (arith, c.next_from-j.ensures.skips.most)

pub loop-i-smaller : goal.loop-i-smaller
loop-i-smaller c = omega (arith, c.next_from-j.ensures.skips.on)

pub loop-i-preserved : goal.loop-i-preserved
loop-i-preserved c =
    and_on _ _ _ _ c.next_from-j.ensures c.loop-i.invariant (sym c.is_marked.ensures ∙ c.if-not-is_marked.false)

pub returns : goal.returns
returns c = λ k l z. c.loop-i.invariant k (omega (arith, l)) z
