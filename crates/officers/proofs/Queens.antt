-- The queen's moves are `get_rook_moves(sq, occ) ^ get_bishop_moves(sq, occ)`: no square is reached both ways.
use mathlib.Core.Path.{◌≡◌, refl, sym, ap₂, ◌∙◌}
use mathlib.Core.Bool.{Bool, true, false}
use Prim.Native.Nat.{ℕ, ◌<◌}
use lib.Bits.{bit_xor, xor_lt}
use Rattle.squares.specs.Tests.{◌and◌, ◌or◌}
use Rattle.squares.specs.Squares.{has, set_of, all_to}
use Rattle.geometry.specs.Lines.{same_rank, same_file, same_diagonal, straight, diagonal, aligned, free, clear}
use Rattle.geometry.specs.Steps.{reaches}
use Rattle.geometry.specs.Chess.{rook_moves, bishop_moves}
use Rattle.squares.proofs.Digits.{differs, has_xor}
use Rattle.squares.proofs.Comprehension.{is_up_to, has_set_of, up_to_lt}
use Rattle.squares.proofs.Every.{pair_eq}

-- no two squares share both a rank or file and a diagonal, computed over all pairs
apart : (a k : ℕ) → a < 64 → k < 64 → (straight a k and diagonal a k) ≡ false
unfolding straight diagonal same_rank same_file same_diagonal all_to ◌and◌ ◌or◌
apart = pair_eq (λ a k. straight a k and diagonal a k) (λ a k. false) refl

one_of : (r b c : Bool) → (r and b) ≡ false → differs (r and c) (b and c) ≡ ((r or b) and c)
unfolding ◌and◌ ◌or◌
one_of true true true e = sym e
one_of true true false e = refl
one_of true false true e = refl
one_of true false false e = refl
one_of false b c e = refl

pub queen_is : (sq occ : ℕ) → sq < 64 → set_of (reaches aligned (free occ) sq) ≡ bit_xor (rook_moves sq occ) (bishop_moves sq occ)
queen_is sq occ h =
    sym (is_up_to 64 (bit_xor (set_of rook) (set_of bishop)) (reaches aligned (free occ) sq) (xor_lt 64 (set_of rook) (set_of bishop) (up_to_lt 64 rook) (up_to_lt 64 bishop)) (λ k l. at k l))
  where
    rook : ℕ → Bool
    rook = reaches straight (free occ) sq

    bishop : ℕ → Bool
    bishop = reaches diagonal (free occ) sq

    at : (k : ℕ) → k < 64 → has (bit_xor (set_of rook) (set_of bishop)) k ≡ reaches aligned (free occ) sq k
    at k l =
        has_xor (set_of rook) (set_of bishop) k ∙ ap₂ differs (has_set_of rook k l) (has_set_of bishop k l)
        ∙ one_of (straight sq k) (diagonal sq k) (clear (free occ) sq k) (apart sq k h l)
