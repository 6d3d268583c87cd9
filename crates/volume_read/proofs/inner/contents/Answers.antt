use mathlib.Core.Path.{sym}
use Rattle.volume_contents.specs.Contents.{head}
use Rattle.volume_read.specs.inner.Scanning.{flawed}
use Rattle.volume_read.proofs.Tables.{table_spoilt}
use Rattle.volume_read.proofs.inner.contents.Goals as goal

pub returns-in-Err : goal.returns-in-Err
returns-in-Err c = flawed _ _ (head _ (sym c.in-Err.ensures))

pub returns-in-Err-walk : goal.returns-in-Err-walk
returns-in-Err-walk c = table_spoilt c.args.back c.args.v.now c.problems-n.result (sym c.in_default.ensures) c.problems-n.ensures.0 _ _ _ c.in-Err-walk.ensures
