use Rattle.std.proofs.lemmas.Result.{err_from_is_err_and}
use mathlib.Core.Bool.{false}
use Rattle.volume_read.proofs.Told.{told_table, rows_sized, told_row}
use Rattle.volume_read.proofs.check.Goals as goal

pub returns-in_err-n : goal.returns-in_err-n
returns-in_err-n c = let p = err_from_is_err_and c.from_residual.result c.from_residual.ensures.1 in rw (p.1, p.2) (told_table false c.args.volume.now _ c.in_err-n.ensures)

pub scan-requires : goal.scan-requires
scan-requires c = rows_sized false c.args.volume.now _ c.in_ok-n.ensures

pub returns-in_err-scan : goal.returns-in_err-scan
returns-in_err-scan c = let p = err_from_is_err_and c.from_residual-in_err-scan.result c.from_residual-in_err-scan.ensures.1 in rw (p.1, p.2) (told_row false c.args.volume.now _ c.in_ok-n.ensures _ c.in_err-scan.ensures)
