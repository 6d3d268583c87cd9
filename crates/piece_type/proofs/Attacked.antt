-- `is_attacked` asks what `attackedOf` asks, and both ask what the Laws call attacked.
use mathlib.Core.Path.{◌≡◌, ap, ap₂, ◌∙◌}
use Prim.Native.Nat.{ℕ, ◌<◌}
use lib.Bits.{or_zero_l}
use Rattle.geometry.specs.declared.Color.{Color}
use Rattle.geometry.specs.Colors.{opp}
use Rattle.laws.specs.declared.Piece.TheVariants.{Pawn, Knight, Bishop, Rook, Queen, King}
use Rattle.laws.specs.declared.Board.{Board}
use Rattle.laws.specs.Attacks.{attacked, union_of}
use Rattle.laws.specs.Boards.{men_at, Clean, fields_of}
use Rattle.geometry.specs.Chess.{knight_moves, king_moves, bishop_moves, rook_moves}
use Rattle.view.specs.Views.{within, view_of}
use Rattle.kings.specs.Kings.{far_of, near_of, attacked_of}
use Rattle.laws.proofs.Mans.{opp_opp}
use Rattle.view.proofs.Seen.{whole}
use Rattle.kings.proofs.Attacked.{same_attack}
use Rattle.piece_type.specs.Bitboards.{◌&◌, ◌¦◌, ◌!=◌, EMPTY}
use Rattle.piece_type.specs.Squares.{get_pawn_attacks}
use Rattle.piece_type.specs.Boards.{pieces_of, color_combined, is_attacked}
use Rattle.piece_type.proofs.Sets.{and_assoc, and_or, or_assoc}
use Rattle.piece_type.proofs.Views.{view_at}

-- `moves & (p | q) & set`
share : (moves p q set : ℕ) → moves & (p ¦ q) & set ≡ moves & (p & set ¦ q & set)
share moves p q set = and_assoc moves (p ¦ q) set ∙ ap (◌&◌ moves) (and_or p q set)

-- five sets united one after the other
five : (a b c d e : ℕ) → EMPTY ¦ a ¦ b ¦ c ¦ d ¦ e ≡ a ¦ b ¦ (c ¦ d ¦ e)
five a b c d e =
    ap (λ (x : ℕ). x ¦ b ¦ c ¦ d ¦ e) (or_zero_l a) ∙ ap (λ (x : ℕ). x ¦ e) (or_assoc (a ¦ b) c d) ∙ or_assoc (a ¦ b) (c ¦ d) e

pub attacked_is : (b : Board) (sq : ℕ) → is_attacked b sq b.turn ≡ attacked_of (view_at b) sq
unfolding is_attacked attacked_of far_of near_of within view_of
attacked_is b sq =
    let set = color_combined b b.turn in
    let rooks = rook_moves sq b.combined & (pieces_of b Rook ¦ pieces_of b Queen) & set in
    let bishops = bishop_moves sq b.combined & (pieces_of b Bishop ¦ pieces_of b Queen) & set in
    let knights = knight_moves sq & pieces_of b Knight & set in
    let kings = king_moves sq & pieces_of b King & set in
    let pawns = get_pawn_attacks sq (opp b.turn) (pieces_of b Pawn & set) in
    ap (λ (x : ℕ). x != EMPTY)
    (five rooks bishops knights kings pawns
    ∙ ap₂ ◌¦◌
    (ap₂ ◌¦◌ (share (rook_moves sq b.combined) (pieces_of b Rook) (pieces_of b Queen) set)
    (share (bishop_moves sq b.combined) (pieces_of b Bishop) (pieces_of b Queen) set))
    (ap (λ (x : ℕ). x ¦ pawns) (ap₂ ◌¦◌ (and_assoc (knight_moves sq) (pieces_of b Knight) set) (and_assoc (king_moves sq) (pieces_of b King) set))))

-- on clean men whose union the board holds, the side to move attacks the squares that the Laws say
pub rust_attack : (b : Board) → Clean b.pieces b.colors → b.combined ≡ union_of (men_at b.pieces b.colors) → (sq : ℕ) → sq < 64
    → is_attacked b sq b.turn ≡ attacked (men_at b.pieces b.colors) b.turn sq
unfolding view_of
rust_attack b ok u sq h =
    attacked_is b sq ∙ same_attack (view_at b) (whole (fields_of b) b.combined b.pinned b.checkers ok u) sq h
    ∙ ap (λ (c : Color). attacked (men_at b.pieces b.colors) c sq) (opp_opp b.turn)
