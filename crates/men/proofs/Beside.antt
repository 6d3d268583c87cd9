-- The squares beside a square by shifts, and whether a pawn stands on one of them.
use mathlib.Core.Path.{◌≡◌, refl, ap, ap₂, ◌∙◌}
use mathlib.Core.Bool.{Bool, true, false, not}
use Prim.Native.Nat.{ℕ, ◌<◌}
use lib.Dec.{eqb}
use lib.Bits.{bit_and, bit_or}
use borrow.Author.Tests.{eqb-true}
use Rattle.squares.specs.Tests.{◌and◌, ◌or◌}
use Rattle.squares.specs.Squares.{rank, has, set_of, only, up_to, all_to, left_of_one, right_of_one}
use Rattle.geometry.specs.declared.Color.{Color}
use Rattle.geometry.specs.Lines.{files}
use Rattle.laws.specs.declared.Piece.TheVariants.{Pawn}
use Rattle.laws.specs.Men.{man, Men, same_man}
use Rattle.men.specs.inner.Standing.{men_of, next_to, beside_of}
use Rattle.squares.proofs.Comprehension.{has_set_of, or_set_of}
use Rattle.squares.proofs.Every.{meet_test, all_at, any_cong, not_all}
use Rattle.men.proofs.Having.{has_men_of, men_of_lt}

neighbours : ℕ → ℕ
neighbours q = set_of (λ k. left_of_one (only q) k or right_of_one (only q) k)

pub next_is : (q : ℕ) → q < 64 → bit_or (set_of (left_of_one (only q))) (set_of (right_of_one (only q))) ≡ set_of (next_to q)
unfolding neighbours all_to up_to has next_to ◌and◌ ◌or◌
next_is q h = or_set_of (left_of_one (only q)) (right_of_one (only q)) ∙ eqb-true (neighbours q) (set_of (next_to q)) (all_at 64 (λ j. eqb (neighbours j) (set_of (next_to j))) refl q h)

group : (a b d : Bool) → (a and (b and d)) ≡ (a and b and d)
unfolding ◌and◌
group true b d = refl
group false b d = refl

pub beside_is : (m : Men) (c : Color) (q : ℕ) → not (eqb (bit_and (men_of m c Pawn) (set_of (next_to q))) 0) ≡ beside_of m c q
unfolding beside_of next_to
beside_is m c q =
    ap not (meet_test 64 (men_of m c Pawn) (set_of (next_to q)) (men_of_lt m c Pawn)) ∙ not_all 64 (λ k. has (men_of m c Pawn) k and has (set_of (next_to q)) k)
    ∙ any_cong 64 (λ k. has (men_of m c Pawn) k and has (set_of (next_to q)) k) (λ k. same_man (m k) (man c Pawn) and eqb (rank k) (rank q) and eqb (files k q) 1)
    (λ k l. ap₂ ◌and◌ (has_men_of m c Pawn k l) (has_set_of (next_to q) k l) ∙ group (same_man (m k) (man c Pawn)) (eqb (rank k) (rank q)) (eqb (files k q) 1))
