-- The blanket `legals` adds what `officerOf` lists, for bishops, rooks and queens.
use Rattle.std.specs.Prelude.{◌==◌}
use mathlib.Core.Path.{◌≡◌, refl, sym, ap, ap₂, ◌∙◌}
use mathlib.Core.Bool.{Bool, true, false, not, cond}
use mathlib.Core.List.{[]}
use Prim.Native.Nat.{ℕ, ◌<◌}
use lib.Dec.{eqb}
use Rattle.squares.specs.Tests.{◌and◌}
use Rattle.squares.specs.Squares.{has}
use Rattle.squares.specs.Members.{first_of}
use Rattle.geometry.specs.Colors.{opp}
use Rattle.geometry.specs.Lines.{between_of}
use Rattle.laws.specs.declared.Piece.{Piece}
use Rattle.laws.specs.declared.Piece.TheVariants.{Pawn, Knight, Bishop, Rook, Queen, King}
use Rattle.laws.specs.Men.{kind_place}
use Rattle.laws.specs.Positions.{holds}
use Rattle.laws.specs.declared.Side.TheVariants.{Short as short, Long as long}
use Rattle.laws.specs.declared.Board.{Board}
use Rattle.retraction_list.specs.declared.UnCaptureKind.TheVariants.{Optional, Necessary}
use Rattle.retraction_list.specs.Entries.{offered, capture_kind}
use Rattle.view.specs.declared.View.{View}
use Rattle.geometry.specs.Chess.{line_of}
use Rattle.view.specs.Views.{within, view_of}
use Rattle.officers.specs.Officers.{moves_of, kind_men, steps_of, quiet_of, free_of, each_of, calm_of, alone_at, alone_of, ray_of, onto_of, both_at, both_of, officer_of}
use Rattle.squares.proofs.Members.{first_lt}
use Rattle.squares.proofs.Testing.{and_true}
use Rattle.piece_type.specs.Bitboards.{◌&◌, !◌, ◌!=◌, EMPTY}
use Rattle.piece_type.specs.Boards.{pieces_of, color_combined, castle_rights}
use Rattle.piece_type.specs.Statements.{◌>>◌, when, for}
use Rattle.piece_type.specs.PieceTypes.{PieceType, CheckType, NotInCheck, InSimpleCheck, InDoubleCheck, nb_checkers, BishopType, RookType, QueenType}
use Rattle.piece_type.specs.Sliders.{legals}
use Rattle.piece_type.proofs.Sets.{and_assoc}
use Rattle.piece_type.proofs.Adding.{Adds, adds_same, adds_then, adds_before, adds_when, adds_unless, adds_never, offer, adds_offer}
use Rattle.piece_type.proofs.Views.{view_at, mask_of, opp_ksq_of, king_is, capturing, capturing_is, rights_are, rooks_by, rooks_are}
use Rattle.piece_type.proofs.Officers.{quiet, quiet_is, each_adds}

-- a kind whose moves are those of `moves_of`
abbrev slider_type : Piece → PieceType
slider_type piece = record { into_piece = piece; pseudo_legals = λ src color combined mask. moves_of (kind_place piece) src combined & mask }

module _ (b : Board) (piece : Piece) (slides : eqb (kind_place piece) (kind_place Knight) ≡ false) where
  abbrev s : View
  s = view_at b

  abbrev k : ℕ
  k = kind_place piece

  abbrev pieces : ℕ
  pieces = pieces_of b piece & color_combined b (opp b.turn)

  abbrev rooks : ℕ
  rooks = rooks_by (opp b.turn) (holds (castle_rights b (opp b.turn)) short) (holds (castle_rights b (opp b.turn)) long)

  pieces_are : pieces ≡ kind_men s k
  unfolding view_of within
  pieces_are = go piece
    where
      go : (p : Piece) → pieces_of b p & color_combined b (opp b.turn) ≡ kind_men s (kind_place p)
      go Pawn = refl
      go Knight = refl
      go Bishop = refl
      go Rook = refl
      go Queen = refl
      go King = refl

  free_are : pieces & ! rooks ≡ free_of s k
  unfolding free_of view_of
  free_are =
      ap₂ (λ (m r : ℕ). m & ! r) pieces_are
      (ap₂ (rooks_by (opp b.turn)) (rights_are b (opp b.turn) short) (rights_are b (opp b.turn) long) ∙ rooks_are (opp b.turn) _ _)
      ∙ ap (λ (t : Bool). cond t (kind_men s k) (kind_men s k & ! s.corners)) (sym slides)

  checking_are : b.checkers & pieces & ! rooks ≡ b.checkers & free_of s k
  checking_are = and_assoc b.checkers pieces (! rooks) ∙ ap (◌&◌ b.checkers) free_are

  calm_adds : Adds (for (pieces & ! rooks) (λ src. offer src (steps_of s k src & quiet b k b.combined) (capturing b src) false)) (calm_of s k)
  unfolding calm_of view_of
  calm_adds = each_adds b k (quiet_of s k b.combined) _ free_are (λ src. ap (◌&◌ (steps_of s k src)) (quiet_is b k b.combined))

  alone_adds : let src = first_of b.checkers in
      Adds (when (b.checkers & pieces & ! rooks != EMPTY)
      (offer src (steps_of s k src & quiet b k (b.combined & ! b.checkers)) (capturing b src) false
      >> offer src (line_of (opp_ksq_of b) src & steps_of s k src & quiet b k b.combined) Necessary false)) (alone_of s k)
  unfolding alone_of alone_at view_of
  alone_adds =
      let src = first_of b.checkers in
      adds_same
      (adds_unless (b.checkers & pieces & ! rooks == EMPTY)
      (adds_then
      (adds_offer src false (ap (◌&◌ (steps_of s k src)) (quiet_is b k (b.combined & ! b.checkers))) (capturing_is b src (first_lt b.checkers)))
      (adds_offer src false (ap₂ (λ (x q : ℕ). line_of x src & steps_of s k src & q) (king_is b) (quiet_is b k b.combined)) refl)))
      (ap₂ (λ (x : ℕ) (t : Bool). cond (x == EMPTY) [] (cond t (offered src (steps_of s k src) Optional false) (alone_at s k src))) checking_are (sym slides))

  onto_adds : let ray = between_of (first_of b.checkers) (opp_ksq_of b) in
      Adds (when (k != kind_place Queen and b.checkers & pieces == EMPTY)
      (for (pieces & ! rooks) (λ src. offer src (steps_of s k src & ray & quiet b k b.combined) (capturing b src) false))) (onto_of s k)
  unfolding onto_of view_of
  onto_adds =
      let allowed = ray_of s & quiet_of s k b.combined in
      adds_same
      (adds_when (k != kind_place Queen and b.checkers & pieces == EMPTY)
      (each_adds b k allowed _ free_are
      (λ src. and_assoc (steps_of s k src) (between_of (first_of b.checkers) (opp_ksq_of b)) (quiet b k b.combined)
      ∙ ap₂ (λ (x q : ℕ). steps_of s k src & (between_of (first_of b.checkers) x & q)) (king_is b) (quiet_is b k b.combined))))
      (ap₂ (λ (m : ℕ) (t : Bool). cond (k != kind_place Queen and b.checkers & m == EMPTY) (each_of s k (cond t (ray_of s) allowed) (free_of s k)) [])
      pieces_are (sym slides))

  both_at_lem : (src other : ℕ) → src < 64
      → Adds (offer src (between_of other (opp_ksq_of b) & steps_of s k src & quiet b k b.combined) (capturing b src) false) (both_at s k src other)
  unfolding both_at view_of
  both_at_lem src other h =
      adds_offer src false (ap₂ (λ (x q : ℕ). between_of other x & steps_of s k src & q) (king_is b) (quiet_is b k b.combined))
      (capturing_is b src h
      ∙ ap capture_kind (sym (and_true (has b.pinned src)) ∙ ap (λ (t : Bool). has b.pinned src and not t) (sym slides)))

  both_adds : let src = first_of (b.checkers & pieces) in
      Adds (when (b.checkers & pieces & ! rooks != EMPTY and b.checkers & ! pieces != EMPTY)
      (offer src (between_of (first_of (b.checkers & ! pieces)) (opp_ksq_of b) & steps_of s k src & quiet b k b.combined) (capturing b src) false)) (both_of s k)
  unfolding both_of view_of
  both_adds =
      adds_same
      (adds_when (b.checkers & pieces & ! rooks != EMPTY and b.checkers & ! pieces != EMPTY)
      (both_at_lem (first_of (b.checkers & pieces)) (first_of (b.checkers & ! pieces)) (first_lt _)))
      (ap₂ (λ (x m : ℕ). cond (x != EMPTY and b.checkers & ! m != EMPTY) (both_at s k (first_of (b.checkers & m)) (first_of (b.checkers & ! m))) [])
      checking_are pieces_are)

slider_adds : (piece : Piece) → eqb (kind_place piece) (kind_place Knight) ≡ false
    → (T : CheckType) (b : Board) → Adds (legals (slider_type piece) T b (mask_of b)) (officer_of (view_at b) (nb_checkers T) (kind_place piece))
unfolding legals officer_of steps_of view_of ◌and◌
slider_adds piece slides NotInCheck b = adds_before (adds_when true (calm_adds b piece slides)) (adds_then (adds_never _) (adds_then (adds_never _) (adds_never _)))
slider_adds piece slides InSimpleCheck b = adds_then (adds_never _) (adds_then (alone_adds b piece slides) (adds_before (onto_adds b piece slides) (adds_never _)))
slider_adds piece slides InDoubleCheck b = adds_then (adds_never _) (adds_then (adds_never _) (adds_then (adds_never _) (both_adds b piece slides)))

pub bishop_adds : (T : CheckType) (b : Board) → Adds (legals BishopType T b (mask_of b)) (officer_of (view_at b) (nb_checkers T) (kind_place Bishop))
unfolding moves_of
bishop_adds = slider_adds Bishop refl

pub rook_adds : (T : CheckType) (b : Board) → Adds (legals RookType T b (mask_of b)) (officer_of (view_at b) (nb_checkers T) (kind_place Rook))
unfolding moves_of
rook_adds = slider_adds Rook refl

pub queen_adds : (T : CheckType) (b : Board) → Adds (legals QueenType T b (mask_of b)) (officer_of (view_at b) (nb_checkers T) (kind_place Queen))
unfolding moves_of
queen_adds = slider_adds Queen refl
