-- The files beside a square's file, by shifts, computed at each square.
use mathlib.Core.Path.{◌≡◌, refl, ◌∙◌}
use Prim.Native.Nat.{ℕ, ◌%◌, ◌<◌}
use lib.Dec.{eqb}
use lib.Bits.{bit_or}
use borrow.Author.Tests.{eqb-true}
use Rattle.squares.specs.Tests.{◌and◌, ◌or◌}
use Rattle.squares.specs.Squares.{has, up_to, set_of, all_to, left_of_one, right_of_one}
use Rattle.geometry.specs.Chess.{file_set, adjacent_files}
use Rattle.squares.proofs.Comprehension.{or_set_of}
use Rattle.squares.proofs.Every.{all_at}

-- the squares to the left and to the right of a file's
sideways : ℕ → ℕ
sideways f = set_of (λ k. left_of_one (file_set f) k or right_of_one (file_set f) k)

sideways_are : (sq : ℕ) → sq < 64 → sideways (sq % 8) ≡ adjacent_files sq
unfolding all_to up_to has sideways adjacent_files ◌and◌ ◌or◌
sideways_are sq h = eqb-true _ _ (all_at 64 (λ j. eqb (sideways (j % 8)) (adjacent_files j)) refl sq h)

pub adjacent_are : (sq : ℕ) → sq < 64 → bit_or (set_of (left_of_one (file_set (sq % 8)))) (set_of (right_of_one (file_set (sq % 8)))) ≡ adjacent_files sq
unfolding sideways
adjacent_are sq h = or_set_of (left_of_one (file_set (sq % 8))) (right_of_one (file_set (sq % 8))) ∙ sideways_are sq h
