use Rattle.laws.specs.Boards.{men_in}
use Rattle.men_field.specs.inner.Lines.{Holds}
use Rattle.volume_body.specs.Layout.{men_bytes}
use Rattle.volume_body.proofs.inner.put_pairs.Given as goal

abbrev pub invariant-loop-j : goal.invariant-loop-j
invariant-loop-j l = Holds l.line (men_bytes (men_in l.p) l.j)
