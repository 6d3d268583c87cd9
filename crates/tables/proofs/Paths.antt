-- The test on the table's set is the test on the squares between.
use mathlib.Core.Path.{◌≡◌, refl, ap, ◌∙◌}
use mathlib.Core.Bool.{Bool, true, false, not}
use Prim.Native.Nat.{ℕ}
use lib.Dec.{eqb}
use lib.Bits.{bit_and}
use Rattle.squares.specs.Tests.{◌and◌, ◌or◌}
use Rattle.squares.specs.Squares.{has}
use Rattle.geometry.specs.Lines.{between, between_of, clear, free}
use Rattle.squares.proofs.Every.{meet_test, all_cong}
use Rattle.tables.proofs.BetweenRule.{between_lt, between_has}

neither : (a b : Bool) → not (a and b) ≡ (not a or not b)
unfolding ◌and◌ ◌or◌
neither true b = refl
neither false b = refl

pub clear_is : (occ a b : ℕ) → eqb (bit_and (between_of a b) occ) 0 ≡ clear (free occ) a b
unfolding clear
clear_is occ a b =
    meet_test 64 (between_of a b) occ (between_lt a b)
    ∙ all_cong 64 (λ k. not (has (between_of a b) k and has occ k)) (λ k. not (between a b k) or free occ k)
    (λ k l. neither (has (between_of a b) k) (has occ k) ∙ ap (λ (t : Bool). not t or not (has occ k)) (between_has a b k l))
