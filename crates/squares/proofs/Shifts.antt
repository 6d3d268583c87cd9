-- The masks of files and ranks, and the shifts of a whole set by one step.
use mathlib.Core.Path.{◌≡◌, refl, sym, ap, ap₂, ◌∙◌}
use mathlib.Core.Bool.{Bool, true}
use Prim.Native.Nat.{ℕ, ◌+◌, ◌-◌, ◌*◌, ◌/◌, ◌%◌, ◌^◌, ◌<◌}
use native.Mathlib.Nat.{add_comm, mod-lt}
use native.Mathlib.Omega.{arith}
use lib.Dec.{eqb, ltb, leb}
use lib.Pow.{pow_pos}
use lib.Bits.{bit_and, and_le_l}
use borrow.Author.Tests.{lt-ltb}
use Rattle.squares.specs.Tests.{◌and◌}
use Rattle.squares.specs.Squares.{every_square, file, rank, has, up_to, set_of, all_to, over_one, under_one, left_of_one, right_of_one}
use Rattle.squares.proofs.Testing.{and_swap, and_group, known, agree}
use Rattle.squares.proofs.Digits.{has_and, has_shr, has_shl_mod}
use Rattle.squares.proofs.Comprehension.{is_up_to}
use Rattle.squares.proofs.Every.{number_law, square_eq}

pub file_mask : (f : ℕ) → f < 8 → 0x0101_0101_0101_0101 * 2 ^ f % 2 ^ 64 ≡ set_of (λ k. eqb (file k) f)
unfolding up_to all_to ◌and◌
file_mask = number_law 8 (λ f. 0x0101_0101_0101_0101 * 2 ^ f % 2 ^ 64) (λ f. set_of (λ k. eqb (file k) f)) refl

pub rank_mask : (r : ℕ) → r < 8 → 0xff * 2 ^ (r * 8) % 2 ^ 64 ≡ set_of (λ k. eqb (rank k) r)
unfolding up_to all_to ◌and◌
rank_mask = number_law 8 (λ r. 0xff * 2 ^ (r * 8) % 2 ^ 64) (λ r. set_of (λ k. eqb (rank k) r)) refl

module _ (s : ℕ) (fits : s < 2 ^ 64) where
  pub up_is : s * 2 ^ 8 % 2 ^ 64 ≡ set_of (over_one s)
  up_is = is_up_to 64 (s * 2 ^ 8 % 2 ^ 64) (over_one s) (mod-lt (s * 2 ^ 8) (pow_pos 64)) (λ k l. has_shl_mod s 8 64 k ∙ known (over_one s k) (lt-ltb k 64 l))

  pub down_is : s / 2 ^ 8 ≡ set_of (under_one s)
  down_is = is_up_to 64 (s / 2 ^ 8) (under_one s) (omega arith) (λ k l. has_shr s 8 k ∙ ap (has s) (add_comm 8 k))

  -- no member comes round from the other edge: the mask has no square of it, and every other square
  pub left_is : (mask : ℕ) → every_square (λ k. agree (has mask (1 + k)) (ltb (file k) 7)) ≡ true → bit_and s mask / 2 ^ 1 ≡ set_of (left_of_one s)
  left_is mask e =
      is_up_to 64 (bit_and s mask / 2 ^ 1) (left_of_one s) (omega (arith, and_le_l s mask))
      (λ k l. has_shr (bit_and s mask) 1 k ∙ has_and s mask (1 + k) ∙ and_swap (has s (1 + k)) (has mask (1 + k))
      ∙ ap₂ (λ (t : Bool) (j : ℕ). t and has s j) (square_eq (λ j. has mask (1 + j)) (λ j. ltb (file j) 7) e k l) (add_comm 1 k))

  pub right_is : (mask : ℕ) → every_square (λ k. agree (leb 1 k and has mask (k - 1)) (leb 1 (file k))) ≡ true → bit_and s mask * 2 ^ 1 % 2 ^ 64 ≡ set_of (right_of_one s)
  right_is mask e =
      is_up_to 64 (bit_and s mask * 2 ^ 1 % 2 ^ 64) (right_of_one s) (mod-lt (bit_and s mask * 2 ^ 1) (pow_pos 64))
      (λ k l. has_shl_mod (bit_and s mask) 1 64 k ∙ known (leb 1 k and has (bit_and s mask) (k - 1)) (lt-ltb k 64 l)
      ∙ ap (λ (t : Bool). leb 1 k and t) (has_and s mask (k - 1)) ∙ ap (λ (t : Bool). leb 1 k and t) (and_swap (has s (k - 1)) (has mask (k - 1))) ∙ sym (and_group (leb 1 k) (has mask (k - 1)) (has s (k - 1)))
      ∙ ap (λ (t : Bool). t and has s (k - 1)) (square_eq (λ j. leb 1 j and has mask (j - 1)) (λ j. leb 1 (file j)) e k l))
