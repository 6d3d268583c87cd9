-- `strict_sets::inner::coming::pawn_from` meets its contract.
use mathlib.Core.Path.{◌∙◌, ap}
use Prim.Native.Nat.{ℕ}
use lib.Bits.{bit_and}
use Rattle.strict_sets.proofs.Coming.{pawn_set}
use Rattle.strict_sets.proofs.inner.coming.pawn_from.Goals as goal

pub get_pawn_attacks-beside-requires : goal.get_pawn_attacks-beside-requires
get_pawn_attacks-beside-requires c = c.requires

pub pawn_step-behind-requires : goal.pawn_step-behind-requires
pawn_step-behind-requires c = c.requires

pub returns : goal.returns
returns c = ap (λ (n : ℕ). bit_and n 0x00ffffffffffff00) c.choose.ensures ∙ pawn_set c.args.c c.args.taking c.args.s c.requires (rw c.other-d.ensures at c.get_pawn_attacks-beside.ensures) (rw c.other-d.ensures at c.pawn_step-behind.ensures)
