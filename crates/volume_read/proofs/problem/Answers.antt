use Rattle.std.proofs.lemmas.Result.{err_from_is_err_and}
use Rattle.volume_read.specs.Reading.{sound}
use Rattle.volume_read.proofs.Told.{told_spoilt}
use Rattle.volume_read.proofs.problem.Goals as goal

pub returns-in_err-n : goal.returns-in_err-n
returns-in_err-n c = let p = err_from_is_err_and c.from_residual.result c.from_residual.ensures.1 in rw (p.1, p.2) (told_spoilt c.args.volume.now c.args.number _ c.in_err-n.ensures)

pub returns : goal.returns
returns c = sound _ c.in_ok-n.ensures.1 c.problem.ensures
