use Prim.Native.Nat.{◌+◌, ◌*◌, ◌≤◌}
use Rattle.laws.specs.Boards.{men_at}
use Rattle.men_field.proofs.Adding.{Ranks}
use Rattle.men_field.proofs.inner.put_men.Given as goal

abbrev pub invariant-loop-rank : goal.invariant-loop-rank
invariant-loop-rank l = Ranks l.line (men_at l.pieces l.colors) l.rank × (l.line.len + 9 * l.rank ≤ 71)
