-- The order of two squares does not matter to a step or a line, computed at each pair of squares.
use mathlib.Core.Path.{◌≡◌, refl}
use Prim.Native.Nat.{ℕ, ◌<◌}
use Rattle.squares.specs.Tests.{◌and◌, ◌or◌}
use Rattle.squares.specs.Squares.{all_to}
use Rattle.geometry.specs.Colors.{opp}
use Rattle.geometry.specs.Lines.{same_rank, same_file, same_diagonal, straight, diagonal}
use Rattle.geometry.specs.Steps.{knight_step, king_step, pawn_takes}
use Rattle.geometry.specs.declared.Color.{Color}
use Rattle.geometry.specs.declared.Color.TheVariants.{White, Black}
use Rattle.squares.proofs.Every.{pair_eq}

pub knight_sym : (a b : ℕ) → a < 64 → b < 64 → knight_step a b ≡ knight_step b a
unfolding knight_step all_to ◌and◌ ◌or◌
knight_sym = pair_eq knight_step (λ a b. knight_step b a) refl

pub king_sym : (a b : ℕ) → a < 64 → b < 64 → king_step a b ≡ king_step b a
unfolding king_step all_to ◌and◌ ◌or◌
king_sym = pair_eq king_step (λ a b. king_step b a) refl

pub straight_sym : (a b : ℕ) → a < 64 → b < 64 → straight a b ≡ straight b a
unfolding straight same_rank same_file all_to ◌and◌ ◌or◌
straight_sym = pair_eq straight (λ a b. straight b a) refl

pub diagonal_sym : (a b : ℕ) → a < 64 → b < 64 → diagonal a b ≡ diagonal b a
unfolding diagonal same_diagonal all_to ◌and◌ ◌or◌
diagonal_sym = pair_eq diagonal (λ a b. diagonal b a) refl

-- a pawn attacks a square from which a pawn of the other colour would attack its own
pub pawn_turned : (c : Color) (a b : ℕ) → a < 64 → b < 64 → pawn_takes c a b ≡ pawn_takes (opp c) b a
unfolding pawn_takes all_to ◌and◌ ◌or◌
pawn_turned White = pair_eq (pawn_takes White) (λ a b. pawn_takes Black b a) refl
pawn_turned Black = pair_eq (pawn_takes Black) (λ a b. pawn_takes White b a) refl
