use mathlib.Core.List.{◌++◌}
use Prim.Native.Nat.{◌+◌, ◌*◌, ◌≤◌}
use lib.ListN.{length}
use Rattle.laws.specs.Boards.{men_at}
use Rattle.men_field.specs.Placement.{rank_text}
use Rattle.men_field.specs.inner.Lines.{text_of}
use Rattle.men_field.proofs.Adding.{Coming}
use Rattle.men_field.proofs.inner.put_rank.Given as goal

abbrev pub invariant-loop-k : goal.invariant-loop-k
invariant-loop-k l =
    Coming l.s (men_at l.pieces l.colors) l.k (8 * l.rank + 8) (text_of l.initial.s.line ++ rank_text (men_at l.pieces l.colors) l.rank) (l.initial.s.line.len + length (rank_text (men_at l.pieces l.colors) l.rank))
    × (l.s.line.len + l.s.run + 8 * l.rank ≤ l.initial.s.line.len + l.k) × (l.s.run + 8 * l.rank ≤ l.k)
