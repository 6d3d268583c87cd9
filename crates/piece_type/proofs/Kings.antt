-- The king's `legals` adds what `kingOf` lists.
use Rattle.std.specs.Prelude.{◌==◌, if◌then◌else◌}
use mathlib.Core.Path.{◌≡◌, refl, ap, ap₂, ◌∙◌}
use mathlib.Core.Bool.{Bool, false, not, cond}
use mathlib.Core.List.{[], ◌∷◌, ◌++◌}
use Prim.Native.Nat.{ℕ, ◌<◌}
use native.Mathlib.Omega.{arith}
use lib.Bits.{and_comm}
use Rattle.squares.specs.Tests.{◌and◌, ◌or◌}
use Rattle.squares.specs.Squares.{file, rank, has}
use Rattle.squares.specs.Members.{first_of}
use Rattle.geometry.specs.declared.Color.{Color}
use Rattle.geometry.specs.Colors.{opp}
use Rattle.geometry.specs.Lines.{between_of}
use Rattle.laws.specs.declared.Piece.TheVariants.{Rook, King}
use Rattle.laws.specs.declared.CastleRights.{CastleRights}
use Rattle.laws.specs.declared.CastleRights.TheVariants.{NoRights, KingSide, QueenSide, Both}
use Rattle.laws.specs.Positions.{holds}
use Rattle.laws.specs.declared.Side.TheVariants.{Short as short, Long as long}
use Rattle.laws.specs.declared.Board.{Board}
use Rattle.laws.specs.Boards.{kind_set}
use Rattle.retraction_list.specs.declared.SourceAndTargets.{SourceAndTargets}
use Rattle.retraction_list.specs.declared.UnCaptureKind.TheVariants.{Optional, Necessary, Forbidden}
use Rattle.retraction_list.specs.Entries.{entry_of}
use Rattle.view.specs.declared.View.{View}
use Rattle.geometry.specs.Chess.{king_moves, rook_moves}
use Rattle.view.specs.Views.{within, view_of}
use Rattle.kings.specs.Kings.{attacked_of, steps_of, may_of, stepped_of, safe_of, castled_of, short_of, long_of, uncastled_of, king_of}
use Rattle.squares.proofs.Members.{first_lt}
use Rattle.laws.proofs.Mans.{opp_opp}
use Rattle.piece_type.specs.Bitboards.{◌&◌, !◌, ◌!=◌, EMPTY, from_square}
use Rattle.piece_type.specs.Squares.{to_my_backrank, uleft, uright}
use Rattle.piece_type.specs.Boards.{pieces_of, color_combined, castle_rights, not_no_rights, king_square, is_attacked}
use Rattle.piece_type.specs.Statements.{◌>>◌, push, when}
use Rattle.piece_type.specs.PieceTypes.{CheckType, nb_checkers}
use Rattle.piece_type.specs.Kings.{legals}
use Rattle.piece_type.proofs.Sets.{meets_none}
use Rattle.piece_type.proofs.Adding.{Adds, adds_same, adds_skip, adds_then, adds_push, adds_when, adds_if, offer, adds_offer}
use Rattle.piece_type.proofs.Views.{view_at, mask_of, opp_ksq_of, king_is, meets_some, rights_are}
use Rattle.piece_type.proofs.Attacked.{attacked_is}
use Rattle.piece_type.proofs.Castling.{Asked, shortly, longly, castles}

held_is : (r : CastleRights) → not_no_rights r ≡ (holds r short or holds r long)
unfolding ◌or◌
held_is NoRights = refl
held_is KingSide = refl
held_is QueenSide = refl
held_is Both = refl

left_lt : (q : ℕ) → q < 64 → uleft q < 64
left_lt q h = omega arith

right_lt : (q : ℕ) → q < 64 → uright q < 64
right_lt q h = omega arith

module _ (b : Board) (n : ℕ) where
  abbrev s : View
  s = view_at b

  abbrev c : Color
  c = opp b.turn

  abbrev opp_ksq : ℕ
  opp_ksq = opp_ksq_of b

  abbrev src : ℕ
  src = king_square b c

  src_lt : src < 64
  src_lt = first_lt (pieces_of b King & color_combined b c)

  -- `targets` (519 to 525)
  abbrev away : ℕ → ℕ
  away k = king_moves src & mask_of b & ! (king_moves k & mask_of b) & ! b.combined

  abbrev targets : ℕ
  targets = if n == 1 then away opp_ksq & between_of (first_of b.checkers) opp_ksq else away opp_ksq

  targets_are : targets ≡ steps_of s n
  unfolding steps_of within view_of
  targets_are = ap (λ (k : ℕ). if n == 1 then away k & between_of (first_of b.checkers) k else away k) (king_is b)

  abbrev may : ℕ
  may = if from_square src & b.pinned != EMPTY then targets & between_of src opp_ksq else targets

  may_be : may ≡ may_of s (steps_of s n)
  unfolding within view_of
  may_be =
      ap (λ (t : Bool). cond t (targets & between_of src opp_ksq) targets) (meets_some src b.pinned src_lt)
      ∙ ap₂ (λ (x k : ℕ). cond (has b.pinned src) (x & between_of src k) x) targets_are (king_is b)

  -- 534 to 554
  steps_add : Adds (offer src may Optional false >> offer src (targets & ! may) Necessary false) (stepped_of s (steps_of s n))
  unfolding stepped_of within view_of
  steps_add = adds_then (adds_offer src false may_be refl) (adds_offer src false (ap₂ (λ (x y : ℕ). x & ! y) targets_are may_be) refl)

  -- what the Rust asks of squares, and what we ask
  abbrev asks : Color → Asked
  asks d = record {
    rook = λ x. from_square x & (color_combined b c & pieces_of b Rook) != EMPTY;
    bare = λ x. from_square x & b.combined == EMPTY;
    safe = λ x. not (is_attacked b x d);
    far = λ x. rook_moves opp_ksq b.combined & from_square x == EMPTY;
    lone = λ x. n == 0 or b.checkers & from_square x != EMPTY;
  }

  abbrev asked : Asked
  asked = record {
    rook = has (kind_set s.men Rook);
    bare = λ x. not (has s.combined x);
    safe = λ x. not (attacked_of s x);
    far = λ x. not (has (rook_moves s.oppking s.combined) x);
    lone = λ x. n == 0 or has s.checkers x;
  }

  module _ (d : Color) (same : d ≡ b.turn) where
    rook_is : (x : ℕ) → x < 64 → (asks d).rook x ≡ asked.rook x
    unfolding within view_of
    rook_is x h =
        ap (λ (y : ℕ). from_square x & y != EMPTY) (and_comm (color_combined b c) (pieces_of b Rook)) ∙ meets_some x (pieces_of b Rook & color_combined b c) h

    bare_is : (x : ℕ) → x < 64 → (asks d).bare x ≡ asked.bare x
    unfolding view_of
    bare_is x h = meets_none x b.combined h

    safe_is : (x : ℕ) → (asks d).safe x ≡ asked.safe x
    safe_is x = ap (λ (e : Color). not (is_attacked b x e)) same ∙ ap not (attacked_is b x)

    far_is : (x : ℕ) → x < 64 → (asks d).far x ≡ asked.far x
    unfolding view_of
    far_is x h =
        ap (λ (y : ℕ). y == EMPTY) (and_comm (rook_moves opp_ksq b.combined) (from_square x)) ∙ meets_none x (rook_moves opp_ksq b.combined) h
        ∙ ap (λ (k : ℕ). not (has (rook_moves k b.combined) x)) (king_is b)

    lone_is : (x : ℕ) → x < 64 → (asks d).lone x ≡ asked.lone x
    unfolding view_of
    lone_is x h = ap (λ (t : Bool). n == 0 or t) (ap (λ (y : ℕ). y != EMPTY) (and_comm b.checkers (from_square x)) ∙ meets_some x b.checkers h)

    short_same : (q : ℕ) → q < 64 → shortly (asks d) (file q == 6) q ≡ shortly asked (file q == 6) q
    short_same q h =
        ap₂ ◌and◌ (ap₂ ◌and◌ (ap₂ ◌and◌ (ap₂ ◌and◌ (ap₂ ◌and◌ (ap₂ ◌and◌ (ap (λ (t : Bool). file q == 6 and t) (rook_is (uleft q) l))
        (bare_is (uleft (uleft q)) (left_lt (uleft q) l))) (bare_is (uright q) (right_lt q h))) (safe_is (uleft q))) (safe_is (uleft (uleft q))))
        (far_is (uright q) (right_lt q h))) (lone_is (uleft q) l)
      where
        l : uleft q < 64
        l = left_lt q h

    long_same : (q : ℕ) → q < 64 → longly (asks d) (file q == 2) q ≡ longly asked (file q == 2) q
    long_same q h =
        ap₂ ◌and◌ (ap₂ ◌and◌ (ap₂ ◌and◌ (ap₂ ◌and◌ (ap₂ ◌and◌ (ap₂ ◌and◌ (ap₂ ◌and◌ (ap (λ (t : Bool). file q == 2 and t) (rook_is (uright q) r))
        (bare_is (uright (uright q)) (right_lt (uright q) r))) (bare_is (uleft q) l)) (bare_is (uleft (uleft q)) (left_lt (uleft q) l)))
        (safe_is (uright q))) (safe_is (uright (uright q)))) (far_is (uleft (uleft q)) (left_lt (uleft q) l))) (lone_is (uright q) r)
      where
        l : uleft q < 64
        l = left_lt q h

        r : uright q < 64
        r = right_lt q h

  -- 563 to 607
  abbrev short_entry : SourceAndTargets
  short_entry = entry_of src (from_square (uleft (uleft src))) Forbidden false

  abbrev long_entry : SourceAndTargets
  long_entry = entry_of src (from_square (uright (uright src))) Forbidden false

  castling_adds : Adds (when (rank src == to_my_backrank c)
      (if shortly (asks (opp c)) (file src == 6) src then push short_entry else when (longly (asks b.turn) (file src == 2) src) (push long_entry))) (uncastled_of s n)
  unfolding uncastled_of short_of long_of castled_of safe_of within view_of
  castling_adds =
      adds_same
      (adds_when (rank src == to_my_backrank c)
      (adds_if (shortly (asks (opp c)) (file src == 6) src) (adds_push short_entry) (adds_when (longly (asks b.turn) (file src == 2) src) (adds_push long_entry))))
      (ap₂ (λ (t u : Bool). if rank src == to_my_backrank c then (if t then short_entry ∷ [] else if u then long_entry ∷ [] else []) else [])
      (short_same (opp c) (opp_opp b.turn) src src_lt) (long_same b.turn refl src src_lt)
      ∙ castles asked c src)

pub king_adds : (T : CheckType) (b : Board) → Adds (legals T b (mask_of b)) (king_of (view_at b) (nb_checkers T))
unfolding legals king_of view_of ◌>>◌
king_adds T b =
    let n = nb_checkers T in
    adds_same
    (adds_if (not_no_rights (castle_rights b (opp b.turn))) adds_skip (adds_then (steps_add b n) (castling_adds b n)))
    (ap (λ (t : Bool). cond t [] (stepped_of (view_at b) (steps_of (view_at b) n) ++ uncastled_of (view_at b) n))
    (held_is (castle_rights b (opp b.turn)) ∙ ap₂ ◌or◌ (rights_are b (opp b.turn) short) (rights_are b (opp b.turn) long)))
