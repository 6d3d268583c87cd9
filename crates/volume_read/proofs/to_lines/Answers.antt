use Rattle.std.proofs.lemmas.Result.{err_from_is_err_and}
use mathlib.Core.Path.{refl}
use mathlib.Core.Bool.{true}
use Rattle.volume_read.specs.Reading.{refuses}
use Rattle.volume_read.proofs.Told.{told_table, rows_sized, told_row, fitted, told_narrow, told_lined}
use Rattle.volume_read.proofs.to_lines.Goals as goal

pub returns-in_err-n : goal.returns-in_err-n
returns-in_err-n c = let p = err_from_is_err_and c.from_residual.result c.from_residual.ensures.1 in rw (p.1, p.2) (refuses _ (told_table true c.args.volume.now _ c.in_err-n.ensures) refl refl)

pub scan-requires : goal.scan-requires
scan-requires c = rows_sized true c.args.volume.now _ c.in_ok-n.ensures

pub returns-in_err-need : goal.returns-in_err-need
returns-in_err-need c = let p = err_from_is_err_and c.from_residual-in_err-need.result c.from_residual-in_err-need.ensures.1 in rw (p.1, p.2) (refuses _ (told_row true c.args.volume.now _ c.in_ok-n.ensures _ c.in_err-need.ensures) refl refl)

pub returns-then-out-need : goal.returns-then-out-need
returns-then-out-need c = told_narrow c.args.volume.now c.args.out.now _ c.in_ok-n.ensures _ c.in_ok-need.ensures c.if-out-need.true

pub put_lines-requires : goal.put_lines-requires
put_lines-requires c = fitted true c.args.volume.now _ c.in_ok-n.ensures c.args.out.now _ c.in_ok-need.ensures c.if-out-need.false

pub returns : goal.returns
returns c = told_lined c.args.volume.now c.args.out.now _ c.in_ok-n.ensures _ c.in_ok-need.ensures _ c.if-out-need.false c.put_lines.ensures
