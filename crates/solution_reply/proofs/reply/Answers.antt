-- `solution_reply::reply` meets its contract.
use mathlib.Core.Path.{sym}
use native.Mathlib.Omega.{arith}
use lib.Seq.{length-take-le}
use Rattle.solution_reply.proofs.Spoken.{answered}
use Rattle.solution_reply.proofs.reply.Goals as goal

pub slice_bounds-check-end : goal.slice_bounds-check-end
slice_bounds-check-end c = sym (length-take-le _ _ (omega (arith, c.find-stop.ensures.2)))

pub returns : goal.returns
returns c = answered c.args.file.now c.find-stop.result c.past-below.result c.find-stop.ensures.0 c.past-below.ensures.0 _ c.check-told.ensures c.put_verdict.ensures
