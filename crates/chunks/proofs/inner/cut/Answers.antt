-- `chunks::inner::cut` meets its contract.
use native.Mathlib.Omega.{arith}
use borrow.Author.Rules.{rules}
use Rattle.chunks.proofs.Cuts.{cut_is, line_is}
use Rattle.chunks.proofs.inner.cut.Goals as goal

pub returns : goal.returns
returns c = record { cut = cut_is _ c.args.line.now c.copy.new.out c.args.p _ _ _ _ c.find-stop.ensures.0 (omega arith) c.past.ensures.0 c.ending_at.ensures; keeps = line_is _ _ c.copy.new.out c.args.p _ c.min-n.result c.past.result c.ending_at.result c.find-stop.ensures.0 (omega arith) c.copy.ensures; fits = record { unread = c.past.ensures.1; inside = c.requires.inside; short = omega arith }; wide = search rules }
