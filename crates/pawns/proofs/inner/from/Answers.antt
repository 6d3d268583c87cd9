-- `pawns::inner::from` meets its contract.
use Rattle.pawns.specs.Pawns.{from_of}
use Rattle.retraction_list.proofs.Pushing.{pushed_both}
use Rattle.pawns.proofs.inner.from.Goals as goal

pub returns : goal.returns
unfolding from_of
returns c = rw (c.offer.ensures, c.uncapture-take.ensures, c.offer-one.ensures, c.unpush-step.ensures, c.own_rank.ensures, c.other_ray-ray.ensures) (pushed_both _ _ _)
