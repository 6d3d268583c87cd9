use mathlib.Core.Path.{◌≡◌}
use lib.ListN.{length}
use Rattle.square_names.specs.Names.{spaced_name}
use Rattle.squares.proofs.Turns.{Going}
use Rattle.square_names.proofs.Squares.{add_one}
use Rattle.square_names.proofs.inner.put_all_spaced.Given as goal

abbrev pub invariant-loop-k : goal.invariant-loop-k
invariant-loop-k l = Going (add_one spaced_name) (l.len, l.initial.out) l.set (l.at, l.out) l.k-iterator.left × (length l.out ≡ length l.initial.out)
