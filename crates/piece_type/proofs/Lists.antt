-- The Rust's lists are ours: whole, on every board that its types can hold.
use Rattle.std.specs.Prelude.{◌==◌, if◌then◌else◌}
use mathlib.Core.Path.{◌≡◌, refl, sym, ap, ap₂, ◌∙◌, subst}
use mathlib.Core.Bool.{Bool, true, false, cond}
use mathlib.Core.List.{List, [], ◌∷◌, ◌++◌}
use Prim.Native.Nat.{ℕ, ◌<◌, ◌^◌}
use native.Mathlib.Nat.{mod-eq_of_lt}
use native.Mathlib.Omega.{arith}
use lib.Dec.{eqb, ltb}
use borrow.Author.Tests.{eqb-true, eqb-false, eq-eqb, lt-ltb}
use Rattle.squares.specs.Squares.{file, has, size}
use Rattle.geometry.specs.Colors.{opp}
use Rattle.laws.specs.declared.Piece.TheVariants.{Queen}
use Rattle.laws.specs.declared.EnPassantFlag.{EnPassantFlag}
use Rattle.laws.specs.declared.EnPassantFlag.TheVariants.{Any, Some, None}
use Rattle.laws.specs.declared.Board.{Board}
use Rattle.laws.specs.Men.{kind_place}
use Rattle.laws.specs.Acceptance.{state_ok}
use Rattle.laws.specs.Boards.{pos_of, accepted_board}
use Rattle.retraction_list.specs.declared.SourceAndTargets.{SourceAndTargets}
use Rattle.retraction_list.specs.declared.UnCaptureKind.TheVariants.{Forbidden}
use Rattle.retraction_list.specs.Entries.{entry_of}
use Rattle.view.specs.declared.View.{View}
use Rattle.geometry.specs.Chess.{file_set, rank_set}
use Rattle.view.specs.Views.{view_of}
use Rattle.officers.specs.Officers.{officer_of}
use Rattle.kings.specs.Kings.{king_of}
use Rattle.enumerate.specs.Lists.{lesser_of, kinds_of, by_checkers, named_of, by_state, list_of, all_but_pawns}
use Rattle.squares.proofs.Testing.{left, right, bool_ext}
use Rattle.squares.proofs.Comprehension.{empty, up_to_lt}
use Rattle.squares.proofs.Counting.{count_none, count_empty}
use Rattle.squares.proofs.Digits.{has_zero}
use Rattle.laws.proofs.Facts.{accepts, names}
use Rattle.piece_type.specs.Bitboards.{◌&◌, EMPTY}
use Rattle.piece_type.specs.Squares.{to_second_rank}
use Rattle.piece_type.specs.Statements.{Run, ◌>>◌, push, skip, from_new}
use Rattle.piece_type.specs.PieceTypes.{CheckType, NotInCheck, InSimpleCheck, InDoubleCheck, nb_checkers, BishopType, RookType, QueenType}
use Rattle.piece_type.specs.Lists.{if_named, enumerate_retractions, limited_retractions, Typed}
use Rattle.piece_type.specs.Sliders as sliders
use Rattle.piece_type.specs.Pawns as pawns
use Rattle.piece_type.specs.Knights as knights
use Rattle.piece_type.specs.Kings as kings
use Rattle.piece_type.proofs.Adding.{Adds, adds_same, adds_then, adds_push, adds_skip, adds_if}
use Rattle.piece_type.proofs.Views.{view_at, mask_of}
use Rattle.piece_type.proofs.Knights.{knight_adds}
use Rattle.piece_type.proofs.Sliders.{bishop_adds, rook_adds, queen_adds}
use Rattle.piece_type.proofs.Pawns.{pawn_adds}
use Rattle.piece_type.proofs.Kings.{king_adds}

module _ (T : CheckType) (b : Board) where
  abbrev lesser : Run
  lesser =
      pawns.legals T b (mask_of b) >> knights.legals T b (mask_of b) >> sliders.legals BishopType T b (mask_of b) >> sliders.legals RookType T b (mask_of b)

  lesser_add : Adds lesser (lesser_of (view_at b) (nb_checkers T))
  unfolding lesser_of
  lesser_add = adds_then (adds_then (adds_then (pawn_adds T b) (knight_adds T b)) (bishop_adds T b)) (rook_adds T b)

  abbrev kinds : Run
  kinds = lesser >> sliders.legals QueenType T b (mask_of b) >> kings.legals T b (mask_of b)

  kinds_add : Adds kinds (lesser_of (view_at b) (nb_checkers T) ++ officer_of (view_at b) (nb_checkers T) (kind_place Queen) ++ king_of (view_at b) (nb_checkers T))
  kinds_add = adds_then (adds_then lesser_add (queen_adds T b)) (king_adds T b)

-- `checkers == EMPTY` says that their number is 0
none_is : (s : ℕ) → s < 2 ^ 64 → eqb s 0 ≡ eqb (size s) 0
none_is s h = bool_ext (eqb s 0) (eqb (size s) 0) to from
  where
    to : eqb s 0 ≡ true → eqb (size s) 0 ≡ true
    to e = eq-eqb (size s) 0 (count_empty 64 (has s) (λ k l. ap (λ (x : ℕ). has x k) (eqb-true s 0 e) ∙ has_zero k))

    from : eqb (size s) 0 ≡ true → eqb s 0 ≡ true
    from e = eq-eqb s 0 (empty 64 s h (count_none 64 (has s) (eqb-true (size s) 0 e)))

-- none, one, two, or more
by_number : (s : View) (n : ℕ) → cond (eqb n 0) (kinds_of s 0) (cond (eqb n 1) (kinds_of s 1) (cond (eqb n 2) (kinds_of s 2) [])) ≡ by_checkers s n
unfolding by_checkers
by_number s n = pick (eqb n 0) refl (eqb n 1) refl (eqb n 2) refl
  where
    Same : ℕ → Type 0
    Same m = cond (eqb m 0) (kinds_of s 0) (cond (eqb m 1) (kinds_of s 1) (cond (eqb m 2) (kinds_of s 2) [])) ≡ cond (ltb 2 m) [] (kinds_of s m)

    more : (n ≡ 0 → ⊥) → (n ≡ 1 → ⊥) → (n ≡ 2 → ⊥) → 2 < n
    more x y z = omega arith

    pick : (t : Bool) → eqb n 0 ≡ t → (u : Bool) → eqb n 1 ≡ u → (v : Bool) → eqb n 2 ≡ v → Same n
    pick true e u f v g = subst Same (sym (eqb-true n 0 e)) refl
    pick false e true f v g = subst Same (sym (eqb-true n 1 f)) refl
    pick false e false f true g = subst Same (sym (eqb-true n 2 g)) refl
    pick false e false f false g =
        ap (λ (t : Bool). cond t (kinds_of s 0) (cond (eqb n 1) (kinds_of s 1) (cond (eqb n 2) (kinds_of s 2) []))) e
        ∙ ap₂ (λ (t u : Bool). cond t (kinds_of s 1) (cond u (kinds_of s 2) [])) f g
        ∙ sym (ap (λ (t : Bool). cond t [] (kinds_of s n)) (lt-ltb 2 n (more (eqb-false n 0 e) (eqb-false n 1 f) (eqb-false n 2 g))))

by_checkers_lem : (b : Board) → b.checkers < 2 ^ 64
    → Adds (if b.checkers == EMPTY then kinds NotInCheck b
    else if size b.checkers == 1 then kinds InSimpleCheck b
    else if size b.checkers == 2 then lesser InDoubleCheck b else skip) (by_checkers (view_at b) (size b.checkers))
unfolding kinds_of
by_checkers_lem b h =
    let n = size b.checkers in
    let s = view_at b in
    adds_same
    (adds_if (b.checkers == EMPTY) (kinds_add NotInCheck b) (adds_if (n == 1) (kinds_add InSimpleCheck b) (adds_if (n == 2) (lesser_add InDoubleCheck b) adds_skip)))
    (ap (λ (t : Bool). cond t (kinds_of s 0) (cond (n == 1) (kinds_of s 1) (cond (n == 2) (kinds_of s 2) []))) (none_is b.checkers h) ∙ by_number s n)

-- the state decides first
by_state_lem : (b : Board) (e : EnPassantFlag) → ((sq : ℕ) → e ≡ Some sq → sq < 64) → (run : Run) → Adds run (by_checkers (view_at b) (size b.checkers))
    → Adds (if_named e (λ src. push (entry_of src (file_set (file src) & rank_set (to_second_rank (opp b.turn))) Forbidden false)) run) (by_state e (view_at b))
unfolding named_of view_of
by_state_lem b Any h run p = p
by_state_lem b None h run p = p
by_state_lem b (Some sq) h run p =
    adds_same (adds_push (entry_of sq (file_set (file sq) & rank_set (to_second_rank (opp b.turn))) Forbidden false))
    (ap (λ (q : ℕ). entry_of q (file_set (file q) & rank_set (to_second_rank (opp b.turn))) Forbidden false ∷ []) (sym (mod-eq_of_lt (h sq refl))))

new_adds : {run : Run} {es : List SourceAndTargets} → Adds run es → from_new run ≡ es
unfolding from_new
new_adds p = p.added []

pub listed_same : (b : Board) → Typed b → enumerate_retractions b ≡ list_of (view_at b)
unfolding enumerate_retractions list_of view_of ◌>>◌
listed_same b t = new_adds (by_state_lem b b.passant t.square_fits _ (by_checkers_lem b t.checkers_fit))

pub limited_same : (b : Board) → limited_retractions b ≡ all_but_pawns (view_at b)
unfolding limited_retractions all_but_pawns ◌>>◌
limited_same b =
    new_adds
    (adds_then (adds_then (adds_then (adds_then (knight_adds NotInCheck b) (bishop_adds NotInCheck b)) (rook_adds NotInCheck b)) (queen_adds NotInCheck b))
    (king_adds NotInCheck b))

-- an accepted board is one that the Rust can hold
accepted_typed : (b : Board) → accepted_board b ≡ true → Typed b
accepted_typed b ok = record {
  checkers_fit = subst (λ (x : ℕ). x < 2 ^ 64) (sym (eqb-true b.checkers _ (right _ _ (left _ _ (right _ _ ok))))) (up_to_lt 64 _);
  square_fits = λ sq e.
      (names b.terms.edition (pos_of b).men b.turn sq
      (subst (λ (f : EnPassantFlag). state_ok b.terms.edition (pos_of b).men b.turn f ≡ true) e (accepts (pos_of b) (right _ _ (left _ _ ok))).state)).on_board;
}

pub accepted_same : (b : Board) → accepted_board b ≡ true → enumerate_retractions b ≡ list_of (view_at b)
accepted_same b ok = listed_same b (accepted_typed b ok)
