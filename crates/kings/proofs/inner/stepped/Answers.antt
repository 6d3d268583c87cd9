-- `kings::inner::stepped` meets its contract.
use Rattle.kings.specs.Kings.{stepped_of}
use Rattle.retraction_list.proofs.Pushing.{pushed_both}
use Rattle.kings.proofs.inner.stepped.Goals as goal

pub returns : goal.returns
unfolding stepped_of
returns c = rw (c.offer.ensures, c.offer-one.ensures, c.choose-may.ensures, c.between-ray.ensures, c.has-pin.ensures) (pushed_both _ _ _)
