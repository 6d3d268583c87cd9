use Rattle.std.proofs.lemmas.Result.{err_from_is_err_and}
use mathlib.Core.Path.{refl}
use mathlib.Core.Bool.{false}
use Rattle.volume_contents.proofs.Sound.{size_of_lem}
use Rattle.volume_read.proofs.Told.{told_table, rows_sized, told_row, told_whole}
use Rattle.volume_add.specs.Adding.{spoilt}
use Rattle.volume_add.proofs.Told.{told}
use Rattle.volume_add.proofs.add.Goals as goal

pub returns-in_err-n : goal.returns-in_err-n
returns-in_err-n c = let p = err_from_is_err_and c.from_residual.result c.from_residual.ensures.1 in rw (p.1, p.2) (spoilt _ (told_table false c.args.volume.now _ c.in_err-n.ensures) refl refl)

pub scan-requires : goal.scan-requires
scan-requires c = rows_sized false c.args.volume.now _ c.in_ok-n.ensures

pub returns-in_err-scan : goal.returns-in_err-scan
returns-in_err-scan c = let p = err_from_is_err_and c.from_residual-in_err-scan.result c.from_residual-in_err-scan.ensures.1 in rw (p.1, p.2) (spoilt _ (told_row false c.args.volume.now _ c.in_ok-n.ensures _ c.in_err-scan.ensures) refl refl)

pub add_to-requires : goal.add_to-requires
add_to-requires c = (c.in_ok-n.ensures.0, size_of_lem false c.args.volume.now _ c.in_ok-n.ensures.1)

pub returns : goal.returns
returns c = let w = told_whole false c.args.volume.now _ c.in_ok-n.ensures _ c.in_ok-scan.ensures in told c.args.volume.now _ w.0 w.1 c.args.number c.args.board c.args.out.now _ _ c.add_to.ensures
