-- The lines that were counted are no more than the bytes before them.
use Rattle.std.proofs.Common.{arith, length-take}
use Rattle.volume.proofs.Counting.{surveyed_count}
use Rattle.volume.proofs.make.survey.Goals as goal

pub overflow_add-result : goal.overflow_add-result
overflow_add-result g c = omega (arith, surveyed_count _ _ _ _ c.survey-s.ensures)

pub loop-at-preserved : goal.loop-at-preserved
loop-at-preserved g c = omega (arith, simp length-take at c.survey-s.ensures.inside, surveyed_count _ _ _ _ c.survey-s.ensures)
