use lib.ListN.{get_or}
use Rattle.men_field.specs.inner.Letters.{place_of, belongs}
use Rattle.squares.proofs.Collect.{Collected}
use Rattle.men_field.proofs.inner.set_of.Given as goal

abbrev pub invariant-loop-k : goal.invariant-loop-k
invariant-loop-k l = Collected (λ a. belongs l.w (get_or l.men (place_of a) 0)) l.r l.k
