-- `retraction_gen::RetractionGen::next` meets its contract.
use mathlib.Core.Path.{sym, ap, ◌∙◌}
use mathlib.Core.Bool.{Bool, cond}
use Rattle.retraction_gen.specs.declared.Turned.{Turned}
use Rattle.retraction_gen.specs.Cursors.{retraction_said, end_said, back, step_of}
use Rattle.retraction_gen.proofs.Stepping.{steps}
use Rattle.retraction_gen.proofs.Going.{again_less, step_again, step_found, step_over}
use Rattle.retraction_gen.proofs.RetractionGen.next.Goals as goal

pub returns-then-not-well_formed : goal.returns-then-not-well_formed
returns-then-not-well_formed c = steps _ _ _ (rw (← c.well_formed-2.ensures, c.if-not-well_formed.true))

pub loop-r-init : goal.loop-r-init
loop-r-init c =
    let g = c.args.self in
    ap (λ (t : Bool). cond t (step_of g) (back g end_said)) (sym c.well_formed-2.ensures ∙ c.if-not-well_formed.false)

pub loop-r-smaller : goal.loop-r-smaller
loop-r-smaller c = rw c.one_turn-t.ensures (again_less _ (ap (λ (t : Turned). t.turn) (sym c.one_turn-t.ensures) ∙ c.in-Again.is))

pub loop-r-preserved : goal.loop-r-preserved
loop-r-preserved c = c.loop-r.invariant ∙ rw c.one_turn-t.ensures (step_again _ (ap (λ (t : Turned). t.turn) (sym c.one_turn-t.ensures) ∙ c.in-Again.is))

pub returns-in-Found : goal.returns-in-Found
returns-in-Found c =
    steps _ _ _ (c.loop-r.invariant
    ∙ step_found _ _ (ap (λ (t : Turned). t.turn) (sym c.one_turn-t.ensures) ∙ c.in-Found.is)
    ∙ ap (λ (t : Turned). back t.cursor (retraction_said c.in-Found.r)) (sym c.one_turn-t.ensures))

pub returns-in-Over : goal.returns-in-Over
returns-in-Over c =
    steps _ _ _ (c.loop-r.invariant
    ∙ step_over _ (ap (λ (t : Turned). t.turn) (sym c.one_turn-t.ensures) ∙ c.in-Over.is)
    ∙ ap (λ (t : Turned). back t.cursor end_said) (sym c.one_turn-t.ensures))
