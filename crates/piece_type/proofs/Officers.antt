-- What the knight's `legals` and the blanket one have in common.
use mathlib.Core.Path.{◌≡◌, ap, ◌∙◌}
use mathlib.Core.Bool.{Bool, true, false, cond}
use Prim.Native.Nat.{ℕ, ◌<◌, ◌^◌}
use lib.Dec.{eqb}
use lib.Bits.{bit_xor, xor_lt}
use Rattle.squares.specs.Members.{members, concat}
use Rattle.laws.specs.declared.Board.{Board}
use Rattle.geometry.specs.Chess.{knight_moves, bishop_moves, rook_moves}
use Rattle.view.specs.Views.{view_of}
use Rattle.officers.specs.Officers.{moves_of, steps_of, quiet_of, from_of, each_of}
use Rattle.squares.proofs.Comprehension.{up_to_lt}
use Rattle.piece_type.specs.Bitboards.{◌&◌, !◌, EMPTY}
use Rattle.piece_type.specs.Statements.{for}
use Rattle.piece_type.proofs.Sets.{and_all}
use Rattle.piece_type.proofs.Adding.{Adds, adds_same, offer, adds_offer, adds_for}
use Rattle.piece_type.proofs.Views.{view_at, opp_ksq_of, king_is, capturing, capturing_is}

moves_lt : (k sq occ : ℕ) → moves_of k sq occ < 2 ^ 64
unfolding moves_of
moves_lt k sq occ = go (eqb k 1) (eqb k 2) (eqb k 3)
  where
    go : (t u v : Bool) → cond t (knight_moves sq) (cond u (bishop_moves sq occ) (cond v (rook_moves sq occ) (bit_xor (rook_moves sq occ) (bishop_moves sq occ)))) < 2 ^ 64
    go true u v = up_to_lt 64 _
    go false true v = up_to_lt 64 _
    go false false true = up_to_lt 64 _
    go false false false = xor_lt 64 _ _ (up_to_lt 64 _) (up_to_lt 64 _)

-- `!check_mask`
abbrev pub quiet : Board → ℕ → ℕ → ℕ
quiet b k occ = ! (moves_of k (opp_ksq_of b) occ & ! EMPTY)

pub quiet_is : (b : Board) (k occ : ℕ) → quiet b k occ ≡ quiet_of (view_at b) k occ
unfolding quiet_of
quiet_is b k occ = ap !◌ (and_all _ (moves_lt k (opp_ksq_of b) occ) ∙ ap (λ (x : ℕ). moves_of k x occ) (king_is b))

-- a loop over the men of the set
pub each_adds : (b : Board) (k allowed : ℕ) {set set' : ℕ} (targets : ℕ → ℕ) → set ≡ set' → ((src : ℕ) → targets src ≡ steps_of (view_at b) k src & allowed)
    → Adds (for set (λ src. offer src (targets src) (capturing b src) false)) (each_of (view_at b) k allowed set')
unfolding each_of from_of view_of
each_adds b k allowed {set} targets q e =
    adds_same (adds_for _ (from_of (view_at b) k allowed) (λ src h. adds_offer src false (e src) (capturing_is b src h)) set)
    (ap (λ (x : ℕ). concat (from_of (view_at b) k allowed) (members x)) q)
