-- What the lists see of a board, and the Rust's `let`s that are said otherwise there.
use Rattle.std.specs.Prelude.{if◌then◌else◌}
use mathlib.Core.Path.{◌≡◌, refl, sym, ap, ◌∙◌}
use mathlib.Core.Bool.{Bool, true, false, not, cond, not-not}
use Prim.Native.Nat.{ℕ, ◌<◌}
use lib.Bits.{bit_xor, xor_zero_l, xor_zero_r}
use Rattle.squares.specs.Squares.{has, only}
use Rattle.geometry.specs.declared.Color.{Color}
use Rattle.geometry.specs.declared.Color.TheVariants.{White, Black}
use Rattle.geometry.specs.Colors.{opp}
use Rattle.laws.specs.declared.Side.{Side}
use Rattle.laws.specs.declared.Board.{Board}
use Rattle.laws.specs.Positions.{holds, rights_of}
use Rattle.laws.specs.Boards.{fields_of}
use Rattle.retraction_list.specs.declared.UnCaptureKind.{UnCaptureKind}
use Rattle.retraction_list.specs.declared.UnCaptureKind.TheVariants.{Optional, Necessary}
use Rattle.retraction_list.specs.Entries.{capture_kind}
use Rattle.view.specs.declared.View.{View}
use Rattle.view.specs.Views.{castling_rooks, within, view_of}
use Rattle.laws.proofs.Mans.{opp_opp}
use Rattle.piece_type.specs.Bitboards.{◌&◌, !◌, ◌⊻◌, ◌!=◌, EMPTY, from_square}
use Rattle.piece_type.specs.Squares.{to_my_backrank, make_square}
use Rattle.piece_type.specs.Boards.{color_combined, castle_rights, king_square}
use Rattle.piece_type.proofs.Sets.{meets_none}

abbrev pub view_at : Board → View
view_at b = view_of (fields_of b) b.combined b.pinned b.checkers

-- `mask` (retraction_gen.rs, 233)
abbrev pub mask_of : Board → ℕ
mask_of b = ! color_combined b b.turn

-- `opp_ksq`
abbrev pub opp_ksq_of : Board → ℕ
opp_ksq_of b = king_square b (opp (opp b.turn))

pub king_is : (b : Board) → opp_ksq_of b ≡ (view_at b).oppking
unfolding view_of within
king_is b = ap (king_square b) (opp_opp b.turn)

-- `BitBoard::from_square(k) & s != EMPTY`
pub meets_some : (k s : ℕ) → k < 64 → (from_square k & s != EMPTY) ≡ has s k
meets_some k s h = ap not (meets_none k s h) ∙ not-not (has s k)

-- `capture_kind(src)`
abbrev pub capturing : Board → ℕ → UnCaptureKind
capturing b src = if from_square src & b.pinned != EMPTY then Necessary else Optional

pub capturing_is : (b : Board) (src : ℕ) → src < 64 → capturing b src ≡ capture_kind (has b.pinned src)
unfolding capture_kind
capturing_is b src h = ap (λ (t : Bool). if t then Necessary else Optional) (meets_some src b.pinned h) ∙ go (has b.pinned src)
  where
    go : (t : Bool) → cond t Necessary Optional ≡ capture_kind t
    go true = refl
    go false = refl

-- `board.castle_rights(color)` holds the Laws' rights
pub rights_are : (b : Board) (c : Color) (d : Side) → holds (castle_rights b c) d ≡ rights_of b.white b.black c d
rights_are b White d = refl
rights_are b Black d = refl

-- `castling_rooks`, the two corners taken one after the other
abbrev pub kingside : Color → Bool → ℕ
kingside c t = if t then EMPTY ⊻ from_square (make_square (to_my_backrank c) 7) else EMPTY

abbrev pub rooks_by : Color → Bool → Bool → ℕ
rooks_by c t u = if u then kingside c t ⊻ from_square (make_square (to_my_backrank c) 0) else kingside c t

one_by_one : (h a : ℕ) (t u : Bool) → cond u (bit_xor (cond t (bit_xor 0 h) 0) a) (cond t (bit_xor 0 h) 0) ≡ bit_xor (cond t h 0) (cond u a 0)
one_by_one h a true true = ap (λ (x : ℕ). bit_xor x a) (xor_zero_l h)
one_by_one h a true false = xor_zero_l h ∙ sym (xor_zero_r h)
one_by_one h a false true = refl
one_by_one h a false false = sym (xor_zero_l 0)

pub rooks_are : (c : Color) (t u : Bool) → rooks_by c t u ≡ castling_rooks c t u
unfolding castling_rooks
rooks_are White t u = one_by_one (only 7) (only 0) t u
rooks_are Black t u = one_by_one (only 63) (only 56) t u
