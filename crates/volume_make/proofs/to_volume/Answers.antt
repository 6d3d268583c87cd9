use mathlib.Core.Path.{refl, subst}
use native.Mathlib.Omega.{arith}
use Rattle.volume_lines.specs.declared.Named.{Named}
use Rattle.volume_lines.specs.inner.Surveys.{Surveyed}
use Rattle.volume_make.specs.Making.{unlined}
use Rattle.volume_make.proofs.Told.{stopped, stops_few, told_many, told_refuses, told_room, counted, told_written}
use Rattle.volume_make.proofs.to_volume.Goals as goal

-- src/lib.rt:20:43
pub overflow_add-result : goal.overflow_add-result
overflow_add-result c = omega (arith, stops_few _ _ (stopped c.args.lines.now c.survey-s.result (subst (λ (b : Named). Surveyed c.args.lines.now 0 b c.survey-s.result) c.unrefused.ensures c.survey-s.ensures) c.if-s-lines.true))

-- src/lib.rt:20:9
pub returns-then-s-lines : goal.returns-then-s-lines
returns-then-s-lines c = unlined c.survey-s.result.count (stopped c.args.lines.now c.survey-s.result (subst (λ (b : Named). Surveyed c.args.lines.now 0 b c.survey-s.result) c.unrefused.ensures c.survey-s.ensures) c.if-s-lines.true) refl refl

-- src/lib.rt:23:9
pub returns-then-n-gt-MOST : goal.returns-then-n-gt-MOST
returns-then-n-gt-MOST c = told_many c.args.lines.now c.survey-s.result (subst (λ (b : Named). Surveyed c.args.lines.now 0 b c.survey-s.result) c.unrefused.ensures c.survey-s.ensures) c.args.out.now c.if-s-lines.false (omega (arith, c.if-n-gt-MOST.true))

-- src/lib.rt:32:17
pub returns-then-out-need : goal.returns-then-out-need
returns-then-out-need c = told_room c.args.lines.now c.survey-s.result (subst (λ (b : Named). Surveyed c.args.lines.now 0 b c.survey-s.result) c.unrefused.ensures c.survey-s.ensures) c.args.out.now c.if-s-lines.false (omega (arith, c.if-n-gt-MOST.false)) c.in-Ok.is (omega (arith, c.if-out-need.true))

-- src/lib.rt:34:13
pub write-requires : goal.write-requires
write-requires c = (omega (arith, c.if-n-gt-MOST.false), counted c.args.lines.now c.survey-s.result (subst (λ (b : Named). Surveyed c.args.lines.now 0 b c.survey-s.result) c.unrefused.ensures c.survey-s.ensures) c.args.out.now c.if-s-lines.false (omega (arith, c.if-out-need.false)))

-- src/lib.rt:14:1
pub returns-in-Err : goal.returns-in-Err
returns-in-Err c = told_refuses c.args.lines.now c.survey-s.result (subst (λ (b : Named). Surveyed c.args.lines.now 0 b c.survey-s.result) c.unrefused.ensures c.survey-s.ensures) c.args.out.now c.if-s-lines.false _ (omega (arith, c.if-n-gt-MOST.false)) c.in-Err.is

-- src/lib.rt:14:1
pub returns-else-out-need : goal.returns-else-out-need
returns-else-out-need c = told_written c.args.lines.now c.survey-s.result (subst (λ (b : Named). Surveyed c.args.lines.now 0 b c.survey-s.result) c.unrefused.ensures c.survey-s.ensures) c.args.out.now c.if-s-lines.false _ (omega (arith, c.if-n-gt-MOST.false)) c.in-Ok.is (omega (arith, c.if-out-need.false)) c.write.ensures
