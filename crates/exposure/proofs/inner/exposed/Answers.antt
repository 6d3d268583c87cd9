-- `exposure::inner::exposed` meets its contract.
use mathlib.Core.Bool.{not}
use Rattle.squares.specs.Squares.{united}
use Rattle.geometry.specs.Lines.{between}
use Rattle.laws.specs.Men.{man_of}
use Rattle.laws.specs.Attacks.{attacks, attackers_of}
use Rattle.laws.specs.Boards.{men_in}
use Rattle.squares.proofs.Comprehension.{or_set_of}
use Rattle.exposure.specs.inner.Exposing.{exposed_at}
use Rattle.exposure.proofs.inner.exposed.Goals as goal

pub returns : goal.returns
unfolding exposed_at
returns c = rw (c.seen_from-seen.ensures, c.leaving_open.ensures, c.attackers-from.ensures) (or_set_of (λ q. attacks (men_in c.args.n) (man_of c.args.x) q c.args.k) (united (λ a j. not (between a c.args.k j)) (attackers_of (men_in c.args.n) c.args.c c.args.k)))
