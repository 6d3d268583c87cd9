-- The knight's `legals` adds what `officerOf` lists.
use Rattle.std.specs.Prelude.{◌==◌}
use mathlib.Core.Path.{refl, sym, ap, ap₂}
use mathlib.Core.Bool.{true, false}
use Prim.Native.Nat.{ℕ}
use Rattle.squares.specs.Tests.{◌and◌}
use Rattle.squares.specs.Squares.{has}
use Rattle.squares.specs.Members.{first_of}
use Rattle.geometry.specs.Lines.{between_of}
use Rattle.laws.specs.declared.Piece.TheVariants.{Knight}
use Rattle.laws.specs.declared.Board.{Board}
use Rattle.laws.specs.Men.{kind_place}
use Rattle.retraction_list.specs.declared.UnCaptureKind.TheVariants.{Optional}
use Rattle.retraction_list.specs.Entries.{capture_kind}
use Rattle.view.specs.declared.View.{View}
use Rattle.view.specs.Views.{within, view_of}
use Rattle.officers.specs.Officers.{moves_of, kind_men, steps_of, quiet_of, free_of, calm_of, alone_of, ray_of, onto_of, both_at, both_of, officer_of}
use Rattle.squares.proofs.Testing.{and_false}
use Rattle.piece_type.specs.Bitboards.{◌&◌, !◌, ◌!=◌, EMPTY}
use Rattle.piece_type.specs.Statements.{when, for}
use Rattle.piece_type.specs.PieceTypes.{CheckType, NotInCheck, InSimpleCheck, InDoubleCheck, nb_checkers}
use Rattle.piece_type.specs.Knights.{legals}
use Rattle.piece_type.proofs.Adding.{Adds, adds_then, adds_before, adds_when, adds_unless, adds_never, offer, adds_offer}
use Rattle.piece_type.proofs.Views.{view_at, mask_of, opp_ksq_of, king_is, capturing}
use Rattle.piece_type.proofs.Officers.{quiet, quiet_is, each_adds}

module _ (b : Board) where
  abbrev s : View
  s = view_at b

  abbrev men : ℕ
  men = kind_men s 1

  calm_adds : Adds (for men (λ src. offer src (steps_of s 1 src & quiet b 1 b.combined) (capturing b src) false)) (calm_of s 1)
  unfolding calm_of free_of view_of
  calm_adds = each_adds b 1 (quiet_of s 1 b.combined) _ refl (λ src. ap (◌&◌ (steps_of s 1 src)) (quiet_is b 1 b.combined))

  alone_adds : let src = first_of b.checkers in Adds (when (b.checkers & men != EMPTY) (offer src (steps_of s 1 src) Optional false)) (alone_of s 1)
  unfolding alone_of free_of view_of
  alone_adds = adds_unless (b.checkers & men == EMPTY) (adds_offer (first_of b.checkers) false refl refl)

  onto_adds : let ray = between_of (first_of b.checkers) (opp_ksq_of b) in
      Adds (when (b.checkers & men == EMPTY) (for men (λ src. offer src (steps_of s 1 src & ray) (capturing b src) false))) (onto_of s 1)
  unfolding onto_of free_of view_of ◌and◌
  onto_adds =
      adds_when (b.checkers & men == EMPTY)
      (each_adds b 1 (ray_of s) _ refl (λ src. ap (λ (k : ℕ). steps_of s 1 src & between_of (first_of b.checkers) k) (king_is b)))

  both_adds : (src other : ℕ) → Adds (offer src (between_of other (opp_ksq_of b) & steps_of s 1 src & quiet b 1 b.combined) Optional false) (both_at s 1 src other)
  unfolding both_at capture_kind view_of
  both_adds src other =
      adds_offer src false (ap₂ (λ (k q : ℕ). between_of other k & steps_of s 1 src & q) (king_is b) (quiet_is b 1 b.combined))
      (ap capture_kind (sym (and_false (has b.pinned src))))

pub knight_adds : (T : CheckType) (b : Board) → Adds (legals T b (mask_of b)) (officer_of (view_at b) (nb_checkers T) (kind_place Knight))
unfolding legals officer_of both_of free_of steps_of moves_of within view_of ◌and◌
knight_adds NotInCheck b = adds_before (adds_when true (calm_adds b)) (adds_then (adds_never _) (adds_then (adds_never _) (adds_never _)))
knight_adds InSimpleCheck b = adds_then (adds_never _) (adds_then (alone_adds b) (adds_before (onto_adds b) (adds_never _)))
knight_adds InDoubleCheck b =
    adds_then (adds_never _) (adds_then (adds_never _) (adds_then (adds_never _)
    (adds_when (b.checkers & men b != EMPTY and b.checkers & ! men b != EMPTY) (both_adds b (first_of (b.checkers & men b)) (first_of (b.checkers & ! men b))))))
