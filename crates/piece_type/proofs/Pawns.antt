-- The pawn's `legals` adds what `pawnOf` lists.
use Rattle.std.specs.Prelude.{◌==◌, if◌then◌else◌}
use mathlib.Core.Path.{◌≡◌, refl, ap, ap₂, ◌∙◌}
use mathlib.Core.Bool.{Bool, true, false, not, cond}
use mathlib.Core.List.{[]}
use Prim.Native.Nat.{ℕ, ◌<◌}
use native.Mathlib.Omega.{arith}
use Rattle.squares.specs.Tests.{◌and◌, ◌or◌}
use Rattle.squares.specs.Squares.{rank, has, only}
use Rattle.squares.specs.Members.{first_of, members, concat}
use Rattle.geometry.specs.declared.Color.{Color}
use Rattle.geometry.specs.declared.Color.TheVariants.{White, Black}
use Rattle.geometry.specs.Colors.{opp, own_rank, back_of}
use Rattle.geometry.specs.Lines.{between_of}
use Rattle.laws.specs.declared.EnPassantFlag.{EnPassantFlag}
use Rattle.laws.specs.declared.EnPassantFlag.TheVariants.{Any, Some, None}
use Rattle.laws.specs.declared.Edition.{Edition}
use Rattle.laws.specs.declared.Edition.TheVariants.{A, B}
use Rattle.laws.specs.declared.Board.{Board}
use Rattle.retraction_list.specs.declared.UnCaptureKind.TheVariants.{Necessary, Forbidden, UnEnPassant}
use Rattle.view.specs.declared.View.{View}
use Rattle.geometry.specs.Chess.{rank_set, adjacent_files, pawn_attacks, line_of}
use Rattle.view.specs.Views.{within, view_of}
use Rattle.un_en_passant.specs.UnEnPassants.{pawns_of, check_mask, vacant_of, beside_plain, beside_reborn, under_one, rays_of, one_of_two, two_others, under_two, under_of, passant_at, passant_of, un_en_passants_of}
use Rattle.pawns.specs.Pawns.{first_rank, candidate_retractors, other_ray_of, allows_of, capturers_of, doubled_of, crossed_of, home_of, unpush_of, uncapture_of, promoted_of, from_of, steps_of, pawn_of}
use Rattle.squares.proofs.Comprehension.{up_to_lt}
use Rattle.piece_type.specs.Bitboards.{◌&◌, !◌, ◌¦◌, ◌!=◌, EMPTY, from_square, to_square}
use Rattle.piece_type.specs.Squares.{get_pawn_attacks}
use Rattle.piece_type.specs.Statements.{◌>>◌, skip, for}
use Rattle.piece_type.specs.PieceTypes.{CheckType, NotInCheck, InSimpleCheck, InDoubleCheck, nb_checkers}
use Rattle.piece_type.specs.Pawns.{push_unseen, ep_rank_of, unchecking, legals}
use Rattle.piece_type.proofs.Sets.{and_assoc, and_all, meets_none}
use Rattle.piece_type.proofs.Adding.{Adds, adds_same, adds_then, adds_skip, adds_if, offer, adds_offer, adds_for}
use Rattle.piece_type.proofs.Views.{view_at, mask_of, opp_ksq_of, king_is, meets_some}

back_lt : (c : Color) (sq : ℕ) → back_of c sq < 64
unfolding back_of
back_lt White sq = omega arith
back_lt Black sq = omega arith

unseen_is : (v : Edition) (e : EnPassantFlag) (t : Bool) → push_unseen v e t ≡ allows_of v e t
unseen_is v Any t = refl
unseen_is v (Some sq) t = refl
unseen_is A None t = refl
unseen_is B None t = refl

rank_is : (c : Color) → ep_rank_of c ≡ rank_set (own_rank c 5)
rank_is White = refl
rank_is Black = refl

-- a test within a test
within_test : {A : Type 0} (t u : Bool) (x y : A) → cond t (cond u x y) y ≡ cond (t and u) x y
unfolding ◌and◌
within_test true u x y = refl
within_test false u x y = refl

cond_not : {A : Type 0} (t : Bool) (x y : A) → cond (not t) x y ≡ cond t y x
cond_not true x y = refl
cond_not false x y = refl

and_first : (a b c d e f : ℕ) → a & b & c & d & e & f ≡ a & (b & c & d & e & f)
and_first a b c d e f =
    ap (λ (x : ℕ). x & d & e & f) (and_assoc a b c) ∙ ap (λ (x : ℕ). x & e & f) (and_assoc a (b & c) d)
    ∙ ap (λ (x : ℕ). x & f) (and_assoc a (b & c & d) e) ∙ and_assoc a (b & c & d & e) f

-- 308 to 333
unchecked : (T : CheckType) (s : View) (src reborn targets : ℕ) → src < 64 → reborn < 64
    → unchecking T s.checkers s.oppking src reborn targets ≡ under_of s (nb_checkers T) src reborn targets
unfolding unchecking under_of under_one under_two one_of_two two_others rays_of ◌and◌
unchecked NotInCheck s src reborn targets h g = refl
unchecked InSimpleCheck s src reborn targets h g =
    let ray = between_of (first_of s.checkers) s.oppking in
    ap (λ (t : Bool). if first_of s.checkers != src then (if t then targets & ray else targets) else targets) (meets_none reborn ray g)
    ∙ within_test (first_of s.checkers != src) (not (has ray reborn)) (targets & ray) targets
unchecked InDoubleCheck s src reborn targets h g =
    let ray = between_of (first_of (s.checkers & ! only src)) s.oppking in
    let rays = rays_of s.oppking s.checkers in
    let one : Bool → ℕ = λ t. if t then targets & ray else targets in
    let two : Bool → ℕ = λ t. (if t then EMPTY else targets) & rays in
    ap (λ (t : Bool). if t then one (from_square reborn & ray != EMPTY) else two (from_square reborn & rays == EMPTY)) (meets_some src s.checkers h)
    ∙ ap₂ (λ (t u : Bool). if has s.checkers src then one t else two u) (meets_some reborn ray g) (meets_none reborn rays g)
    ∙ ap (λ (x : ℕ). if has s.checkers src then one (has ray reborn) else x & rays) (cond_not (has rays reborn) EMPTY targets)

module _ (b : Board) (T : CheckType) where
  abbrev s : View
  s = view_at b

  abbrev n : ℕ
  n = nb_checkers T

  abbrev c : Color
  c = opp b.turn

  abbrev opp_ksq : ℕ
  opp_ksq = opp_ksq_of b

  -- `check_mask`
  abbrev mask : ℕ
  mask = get_pawn_attacks opp_ksq (opp c) (! EMPTY)

  mask_is : mask ≡ check_mask s
  unfolding view_of
  mask_is = and_all _ (up_to_lt 64 _) ∙ ap (pawn_attacks (opp c)) (king_is b)

  abbrev ray : ℕ → ℕ
  ray src = if n == 0 or (n == 1 and to_square b.checkers == src) then ! EMPTY else between_of (to_square (b.checkers & ! from_square src)) opp_ksq

  ray_is : (src : ℕ) → ray src ≡ other_ray_of s n src
  unfolding other_ray_of view_of
  ray_is src =
      let other = first_of (b.checkers & ! from_square src) in
      ap (λ (k : ℕ). if n == 0 or (n == 1 and first_of b.checkers == src) then ! EMPTY else between_of other k) (king_is b)

  abbrev home : ℕ → ℕ
  home src = ! b.combined & ! mask & ! first_rank s & ray src & s.mask

  home_is : (src : ℕ) → home src ≡ home_of s (other_ray_of s n src)
  unfolding home_of vacant_of view_of
  home_is src = ap₂ (λ (m r : ℕ). ! b.combined & ! m & ! first_rank s & r & s.mask) mask_is (ray_is src)

  abbrev crossing : ℕ → ℕ → ℕ
  crossing src crossed =
      if rank src == own_rank c 3 and push_unseen b.terms.edition b.passant (capturers_of src & s.rivals == EMPTY) and from_square crossed & b.combined == EMPTY
      then from_square crossed ¦ from_square (back_of c crossed) else from_square crossed

  crossing_is : (src crossed : ℕ) → crossed < 64 → crossing src crossed ≡ crossed_of s src crossed
  unfolding crossed_of doubled_of view_of
  crossing_is src crossed h =
      ap₂ (λ (t u : Bool). cond (rank src == own_rank c 3 and t and u) (from_square crossed ¦ from_square (back_of c crossed)) (from_square crossed))
      (unseen_is b.terms.edition b.passant (capturers_of src & s.rivals == EMPTY)) (meets_none crossed b.combined h)

  abbrev unpush : ℕ → ℕ
  unpush src =
      if from_square src & b.pinned != EMPTY then crossing src (back_of c src) & home src & line_of src opp_ksq else crossing src (back_of c src) & home src

  unpush_is : (src : ℕ) → src < 64 → unpush src ≡ unpush_of s (other_ray_of s n src) src
  unfolding unpush_of view_of
  unpush_is src h =
      let x = crossing src (back_of c src) & home src in
      ap (λ (t : Bool). if t then x & line_of src opp_ksq else x) (meets_some src b.pinned h)
      ∙ ap₂ (λ (y k : ℕ). if has b.pinned src then y & line_of src k else y) (ap₂ ◌&◌ (crossing_is src (back_of c src) (back_lt c src)) (home_is src)) (king_is b)

  abbrev uncapture : ℕ → ℕ
  uncapture src = get_pawn_attacks src (opp c) (! b.combined) & ! mask & ! first_rank s & ray src & s.mask

  uncapture_is : (src : ℕ) → uncapture src ≡ uncapture_of s (other_ray_of s n src) src
  unfolding uncapture_of view_of
  uncapture_is src =
      and_first (pawn_attacks (opp c) src) (! b.combined) (! mask) (! first_rank s) (ray src) s.mask ∙ ap (◌&◌ (pawn_attacks (opp c) src)) (home_is src)

  -- 226 to 283
  steps_add : Adds (for (candidate_retractors s n) (λ src. offer src (unpush src) Forbidden (promoted_of s src)
      >> offer src (uncapture src) Necessary (promoted_of s src))) (steps_of s n)
  unfolding steps_of from_of
  steps_add =
      adds_for _ (from_of s n) (λ src h. adds_then (adds_offer src _ (unpush_is src h) refl) (adds_offer src _ (uncapture_is src) refl)) (candidate_retractors s n)

  -- 297 to 301, and to 306
  abbrev beside : ℕ → ℕ → ℕ
  beside src reborn = adjacent_files src & rank_set (rank reborn) & ! b.combined & ! mask & s.mask

  beside_is : (src reborn : ℕ) → beside src reborn ≡ beside_plain s src reborn
  unfolding vacant_of view_of
  beside_is src reborn =
      ap (λ (x : ℕ). x & s.mask) (and_assoc (adjacent_files src & rank_set (rank reborn)) (! b.combined) (! mask))
      ∙ ap (λ (m : ℕ). adjacent_files src & rank_set (rank reborn) & (! b.combined & ! m) & s.mask) mask_is

  abbrev lined : ℕ → ℕ → ℕ
  lined src reborn =
      if from_square src & b.pinned != EMPTY and from_square reborn & line_of src opp_ksq == EMPTY then beside src reborn & line_of src opp_ksq else beside src reborn

  lined_is : (src reborn : ℕ) → src < 64 → reborn < 64 → lined src reborn ≡ beside_reborn s src reborn
  unfolding beside_reborn view_of
  lined_is src reborn h g =
      let x = beside src reborn in
      let line = line_of src opp_ksq in
      ap₂ (λ (t u : Bool). if t and u then x & line else x) (meets_some src b.pinned h) (meets_none reborn line g)
      ∙ ap₂ (λ (y k : ℕ). if has b.pinned src and not (has (line_of src k) reborn) then y & line_of src k else y) (beside_is src reborn) (king_is b)

  -- 290 to 345
  abbrev blocked : ℕ → Bool
  blocked src = from_square (back_of (opp c) src) & b.combined != EMPTY or from_square (back_of c src) & b.combined != EMPTY

  passant_adds : (src : ℕ) → src < 64 → let reborn = back_of c src in
      Adds (if blocked src then skip else offer src (unchecking T b.checkers opp_ksq src reborn (lined src reborn)) UnEnPassant false) (passant_of s n src)
  unfolding passant_of passant_at view_of
  passant_adds src h =
      let reborn = back_of c src in
      adds_same
      (adds_if (blocked src) adds_skip
      (adds_offer src false
      (ap₂ (λ (k x : ℕ). unchecking T b.checkers k src reborn x) (king_is b) (lined_is src reborn h (back_lt c src))
      ∙ unchecked T s src reborn (beside_reborn s src reborn) h (back_lt c src)) refl))
      (ap₂ (λ (t u : Bool). if t or u then [] else passant_at s n src reborn)
      (meets_some (back_of (opp c) src) b.combined (back_lt (opp c) src)) (meets_some reborn b.combined (back_lt c src)))

pub pawn_adds : (T : CheckType) (b : Board) → Adds (legals T b (mask_of b)) (pawn_of (view_at b) (nb_checkers T))
unfolding legals pawn_of un_en_passants_of candidate_retractors within view_of
pawn_adds T b =
    adds_then (steps_add b T)
    (adds_same (adds_for _ (passant_of (view_at b) (nb_checkers T)) (passant_adds b T) _)
    (ap (λ (x : ℕ). concat (passant_of (view_at b) (nb_checkers T)) (members (x & pawns_of (view_at b)))) (rank_is (opp b.turn))))
