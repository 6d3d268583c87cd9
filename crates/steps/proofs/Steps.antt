-- The steps of knights, kings and pawns by masks and shifts, computed at each square: of pawns, one law over the colour for each.
use mathlib.Core.Path.{◌≡◌, refl, ap, ◌∙◌}
use Prim.Native.Nat.{ℕ, ◌<◌}
use lib.Dec.{eqb}
use lib.Bits.{bit_and, bit_or}
use Rattle.squares.specs.Tests.{◌and◌, ◌or◌}
use Rattle.squares.specs.Squares.{rank, has, up_to, set_of, only, all_to, over_one, under_one, left_of_one, right_of_one}
use Rattle.geometry.specs.declared.Color.{Color}
use Rattle.geometry.specs.declared.Color.TheVariants.{White, Black}
use Rattle.geometry.specs.Colors.{own_rank, ahead_of_one}
use Rattle.geometry.specs.Steps.{knight_step, king_step, pawn_step, pawn_double, pawn_takes}
use Rattle.squares.proofs.Comprehension.{and_set_of, or_set_of}
use Rattle.squares.proofs.Every.{number_law}

-- a knight: two ranks on beside the square, one rank on beyond the squares beside it
abbrev leaps : ℕ → ℕ
leaps sq =
    let l = set_of (left_of_one (only sq)) in
    let r = set_of (right_of_one (only sq)) in
    let beyond = bit_or (set_of (left_of_one l)) (set_of (right_of_one r)) in
    bit_or (set_of (over_one (bit_or (set_of (over_one (bit_or l r))) beyond))) (set_of (under_one (bit_or (set_of (under_one (bit_or l r))) beyond)))

pub leaps_are : (sq : ℕ) → sq < 64 → leaps sq ≡ set_of (knight_step sq)
unfolding all_to up_to has knight_step ◌and◌ ◌or◌
leaps_are = number_law 64 leaps (λ sq. set_of (knight_step sq)) refl

-- a king: beside the square, and the three squares over and under
abbrev ring : ℕ → ℕ
ring sq =
    let beside = bit_or (set_of (left_of_one (only sq))) (set_of (right_of_one (only sq))) in
    let three = bit_or beside (only sq) in
    bit_or (bit_or beside (set_of (over_one three))) (set_of (under_one three))

pub ring_is : (sq : ℕ) → sq < 64 → ring sq ≡ set_of (king_step sq)
unfolding all_to up_to has king_step ◌and◌ ◌or◌
ring_is = number_law 64 ring (λ sq. set_of (king_step sq)) refl

pub step_is : (c : Color) (sq : ℕ) → sq < 64 → set_of (ahead_of_one c (only sq)) ≡ set_of (pawn_step c sq)
unfolding all_to up_to has pawn_step ◌and◌ ◌or◌
step_is White = number_law 64 (λ sq. set_of (ahead_of_one White (only sq))) (λ sq. set_of (pawn_step White sq)) refl
step_is Black = number_law 64 (λ sq. set_of (ahead_of_one Black (only sq))) (λ sq. set_of (pawn_step Black sq)) refl

-- the square itself, where it stands on c's second rank
starting : Color → ℕ → ℕ
starting c sq = set_of (λ k. eqb k sq and eqb (rank k) (own_rank c 1))

twice_is : (c : Color) (sq : ℕ) → sq < 64 → set_of (ahead_of_one c (set_of (ahead_of_one c (starting c sq)))) ≡ set_of (pawn_double c sq)
unfolding all_to up_to has pawn_double starting ◌and◌ ◌or◌
twice_is White = number_law 64 (λ sq. set_of (ahead_of_one White (set_of (ahead_of_one White (starting White sq))))) (λ sq. set_of (pawn_double White sq)) refl
twice_is Black = number_law 64 (λ sq. set_of (ahead_of_one Black (set_of (ahead_of_one Black (starting Black sq))))) (λ sq. set_of (pawn_double Black sq)) refl

pub double_is : (c : Color) (sq : ℕ) → sq < 64
    → set_of (ahead_of_one c (set_of (ahead_of_one c (bit_and (only sq) (set_of (λ k. eqb (rank k) (own_rank c 1))))))) ≡ set_of (pawn_double c sq)
unfolding starting
double_is c sq h =
    ap (λ (s : ℕ). set_of (ahead_of_one c (set_of (ahead_of_one c s)))) (and_set_of (λ k. eqb k sq) (λ k. eqb (rank k) (own_rank c 1))) ∙ twice_is c sq h

-- both squares beside the one ahead
diagonally : Color → ℕ → ℕ
diagonally c sq = let ahead = set_of (ahead_of_one c (only sq)) in set_of (λ k. left_of_one ahead k or right_of_one ahead k)

beside_is : (c : Color) (sq : ℕ) → sq < 64 → diagonally c sq ≡ set_of (pawn_takes c sq)
unfolding all_to up_to has pawn_takes diagonally ◌and◌ ◌or◌
beside_is White = number_law 64 (diagonally White) (λ sq. set_of (pawn_takes White sq)) refl
beside_is Black = number_law 64 (diagonally Black) (λ sq. set_of (pawn_takes Black sq)) refl

pub attacks_are : (c : Color) (sq : ℕ) → sq < 64
    → bit_or (set_of (left_of_one (set_of (ahead_of_one c (only sq))))) (set_of (right_of_one (set_of (ahead_of_one c (only sq))))) ≡ set_of (pawn_takes c sq)
unfolding diagonally
attacks_are c sq h =
    or_set_of (left_of_one (set_of (ahead_of_one c (only sq)))) (right_of_one (set_of (ahead_of_one c (only sq)))) ∙ beside_is c sq h
