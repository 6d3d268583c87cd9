-- A retraction that is no double step, no capture en passant and no castling is strict exactly when its step, its souls and its check are in order.
use mathlib.Core.Path.{◌≡◌, refl, sym, ap, ◌∙◌, subst}
use mathlib.Core.Logic.{◌⊎◌, inl, inr, ◌≢◌}
use mathlib.Core.Bool.{Bool, true, false, not, cond, false≢true}
use Prim.Native.Nat.{ℕ, ◌<◌}
use native.Mathlib.Omega.{arith}
use lib.Dec.{eqb}
use borrow.Author.Tests.{eqb-true, eq-eqb, lt-ltb, le-leb}
use Rattle.squares.specs.Tests.{◌and◌, ◌or◌}
use Rattle.squares.specs.Squares.{all_to}
use Rattle.geometry.specs.declared.Color.{Color}
use Rattle.geometry.specs.declared.Color.TheVariants.{White, Black}
use Rattle.geometry.specs.Colors.{opp, rank_for}
use Rattle.geometry.specs.Lines.{files, ranks, between, clear}
use Rattle.geometry.specs.Steps.{pawn_step, pawn_double, pawn_takes, king_step}
use Rattle.laws.specs.declared.Piece.TheVariants.{Pawn, Knight, Bishop, Rook, Queen, King}
use Rattle.laws.specs.declared.EnPassantFlag.{EnPassantFlag}
use Rattle.laws.specs.declared.EnPassantFlag.TheVariants.{Some, None}
use Rattle.laws.specs.declared.Edition.{Edition}
use Rattle.laws.specs.declared.ChessRetraction.{ChessRetraction}
use Rattle.laws.specs.declared.Side.{Side}
use Rattle.laws.specs.declared.Side.TheVariants.{Short as short, Long as long}
use Rattle.laws.specs.declared.Way.{Way}
use Rattle.laws.specs.declared.Way.TheVariants.{Plain as plain, Passant as passant, Castle as castling}
use Rattle.laws.specs.Men.{Man, empty, man, Men, numbered, is_empty, is_of, is_kind, is_pawn, bare, put}
use Rattle.laws.specs.Souls.{souls_ok}
use Rattle.laws.specs.Positions.{Pos, retractor, king_home, king_to}
use Rattle.laws.specs.Acceptance.{edge, noted, quiet, accepted}
use Rattle.laws.specs.Moves.{way, moves, goes, mark_ok, state_after, safe}
use Rattle.laws.specs.Unmaking.{before, leaving, unmade_by, unmade, way_back, held, undoable, promoted_to, retractable}
use Rattle.laws.specs.Strictness.{agrees}
use Rattle.moves.specs.inner.Parts.{way_for}
use Rattle.replay.specs.inner.Parts.{state_for}
use Rattle.strict_test.specs.inner.Strictly.{counts_for, safe_for, agrees_for, earlier_for, strict_for}
use Rattle.strict_sets.specs.inner.Parts.{steps, special_pawn, special}
use Rattle.squares.proofs.Testing.{both, left, right, either, or_left, or_right}
use Rattle.squares.proofs.Every.{all_at, all_of, pair_eq}
use Rattle.geometry.proofs.Between.{between_sym}
use Rattle.laws.proofs.Puts.{put_at, off}
use Rattle.laws.proofs.Mans.{own_colour, same_colour, passant_is, castling_is}
use Rattle.laws.proofs.Facts.{Possible, possible_by}
use Rattle.laws.proofs.Retracting.{can_retract, Back, back}
use Rattle.exposure.proofs.Near.{not_start}
use Rattle.strict_test.proofs.Earlier.{strict_can, strict_by}

-- a path does not see what is put on its ends
between_ends : (m : Men) (t s : ℕ) (x y : Man) → t < 64 → s < 64 → (k : ℕ) → between t s k ≡ true → bare (put t x (put s y m)) k ≡ bare m k
between_ends m t s x y ht hs k e = ap is_empty (off t x k (λ q. apart (not_start t s ht hs) q) (off s y k (λ q. apart (between_sym t s s ∙ not_start s t hs ht) q) refl))
  where
    apart : {j : ℕ} → between t s j ≡ false → k ≡ j → ⊥
    apart {j} f q = false≢true (sym f ∙ ap (between t s) (sym q) ∙ e)

module _ (m n : Men) (t s : ℕ) (same : (k : ℕ) → between t s k ≡ true → bare m k ≡ bare n k) where
  clear_as : clear (bare m) t s ≡ true → clear (bare n) t s ≡ true
  unfolding clear ◌or◌
  clear_as h = all_of 64 (λ k. not (between t s k) or bare n k) (λ k l. go k (between t s k) refl (all_at 64 (λ k. not (between t s k) or bare m k) h k l))
    where
      go : (k : ℕ) (b : Bool) → between t s k ≡ b → (not b or bare m k) ≡ true → (not b or bare n k) ≡ true
      go k false e z = refl
      go k true e z = sym (same k e) ∙ z

-- a pawn's steps: one rank on, and the double step two, from its second to its fourth
abbrev pawn_pair : Color → ℕ → ℕ → Bool
pawn_pair c a b = (pawn_step c a b or pawn_takes c a b) and eqb (ranks a b) 2

one_rank : (c : Color) (a b : ℕ) → a < 64 → b < 64 → pawn_pair c a b ≡ false
unfolding pawn_step pawn_takes ◌and◌ ◌or◌ all_to
one_rank White = pair_eq (pawn_pair White) (λ a b. false) refl
one_rank Black = pair_eq (pawn_pair Black) (λ a b. false) refl

no_castle : (c : Color) (d : Side) → king_step (king_home c) (king_to c d) ≡ false
unfolding king_step ◌and◌
no_castle White short = refl
no_castle White long = refl
no_castle Black short = refl
no_castle Black long = refl

-- a step on other men with the same path
module _ (m n : Men) (q s u : ℕ) (same : (k : ℕ) → between q s k ≡ true → bare m k ≡ bare n k) where
  -- forward it is a step back, but for the double step
  steps_of : (x : Man) → ((c : Color) → x ≡ man c Pawn → u ≡ 0 → pawn_double c q s ≡ true → ⊥) → moves m x q s u ≡ true → steps n x (not (eqb u 0)) s q ≡ true
  steps_of empty f h = h
  steps_of (man c Pawn) f h = go (eqb u 0) refl h
    where
      go : (t : Bool) → eqb u 0 ≡ t → cond t (pawn_step c q s or (pawn_double c q s and clear (bare m) q s)) (pawn_takes c q s) ≡ true → cond (not t) (pawn_takes c q s) (pawn_step c q s) ≡ true
      go true e h = one (either _ _ h)
        where
          one : (pawn_step c q s ≡ true) ⊎ ((pawn_double c q s and clear (bare m) q s) ≡ true) → pawn_step c q s ≡ true
          one (inl a) = a
          one (inr a) = absurd (f c refl (eqb-true u 0 e) (left _ _ a))
      go false e h = h
  steps_of (man c Knight) f h = h
  steps_of (man c Bishop) f h = both (left _ _ h) (clear_as m n q s same (right _ _ h))
  steps_of (man c Rook) f h = both (left _ _ h) (clear_as m n q s same (right _ _ h))
  steps_of (man c Queen) f h = both (left _ _ h) (clear_as m n q s same (right _ _ h))
  steps_of (man c King) f h = h

  moves_of : (x : Man) → steps m x (not (eqb u 0)) s q ≡ true → moves n x q s u ≡ true
  moves_of empty h = h
  moves_of (man c Pawn) h = go (eqb u 0) h
    where
      go : (t : Bool) → cond (not t) (pawn_takes c q s) (pawn_step c q s) ≡ true → cond t (pawn_step c q s or (pawn_double c q s and clear (bare n) q s)) (pawn_takes c q s) ≡ true
      go true h = or_left _ h
      go false h = h
  moves_of (man c Knight) h = h
  moves_of (man c Bishop) h = both (left _ _ h) (clear_as m n q s same (right _ _ h))
  moves_of (man c Rook) h = both (left _ _ h) (clear_as m n q s same (right _ _ h))
  moves_of (man c Queen) h = both (left _ _ h) (clear_as m n q s same (right _ _ h))
  moves_of (man c King) h = h

no_file : (b : Bool) → b ≡ true → cond (not b) passant plain ≡ plain
no_file b e = ap (λ (z : Bool). cond (not z) passant plain) e

-- such a step goes the plain way, and no state remembers it
module _ (m : Men) (q s u : ℕ) (hq : q < 64) (hs : s < 64) where
  plainly : (x : Man) → steps m x (not (eqb u 0)) s q ≡ true → way x q s u ≡ plain
  unfolding ◌and◌ pawn_step
  plainly empty h = refl
  plainly (man c Pawn) h = go (eqb u 0) h
    where
      go : (t : Bool) → cond (not t) (pawn_takes c q s) (pawn_step c q s) ≡ true → cond (t and not (eqb (files q s) 0)) passant plain ≡ plain
      go true h = no_file (eqb (files q s) 0) (left _ _ h)
      go false h = refl
  plainly (man c Knight) h = refl
  plainly (man c Bishop) h = refl
  plainly (man c Rook) h = refl
  plainly (man c Queen) h = refl
  plainly (man c King) h = go (eqb q (king_home c)) refl (eqb s (king_to c short)) refl (eqb s (king_to c long)) refl
    where
      stuck : (d : Side) → eqb q (king_home c) ≡ true → eqb s (king_to c d) ≡ true → ⊥
      stuck d a b = false≢true (sym (no_castle c d) ∙ ap (λ (z : ℕ). king_step z (king_to c d)) (sym (eqb-true _ _ a)) ∙ ap (king_step q) (sym (eqb-true _ _ b)) ∙ h)

      go : (a : Bool) → eqb q (king_home c) ≡ a → (b : Bool) → eqb s (king_to c short) ≡ b → (l : Bool) → eqb s (king_to c long) ≡ l
          → cond a (cond b (castling short) (cond l (castling long) plain)) plain ≡ plain
      go true ea true eb l el = absurd (stuck short ea eb)
      go true ea false eb true el = absurd (stuck long ea el)
      go true ea false eb false el = refl
      go false ea b eb l el = refl

  forgotten : (v : Edition) (n : Men) (x : Man) → steps m x (not (eqb u 0)) s q ≡ true → state_after v n x q s ≡ None
  unfolding ◌and◌
  forgotten v n empty h = refl
  forgotten v n (man c Pawn) h = ap (λ (b : Bool). cond (b and noted v n (opp c) s) (Some s) None) (not_two (go (not (eqb u 0)) h))
    where
      go : (t : Bool) → cond t (pawn_takes c q s) (pawn_step c q s) ≡ true → (pawn_step c q s or pawn_takes c q s) ≡ true
      go true h = or_right _ h
      go false h = or_left _ h

      not_two : (pawn_step c q s or pawn_takes c q s) ≡ true → eqb (ranks q s) 2 ≡ false
      not_two h = ap (λ (b : Bool). b and eqb (ranks q s) 2) (sym h) ∙ one_rank c q s hq hs
  forgotten v n (man c Knight) h = refl
  forgotten v n (man c Bishop) h = refl
  forgotten v n (man c Rook) h = refl
  forgotten v n (man c Queen) h = refl
  forgotten v n (man c King) h = refl

-- the retraction of s to q, with the man numbered u uncaptured, and a mark
module _ (p : Pos) (s q u : ℕ) (mark : Bool) where
  abbrev c : Color
  c = retractor p

  abbrev m : Men
  m = p.men

  abbrev r : ChessRetraction
  r = record { source = s; target = q; uncaptured = u; unpromotion = mark }

  abbrev x : Man
  x = leaving mark c (m s)

  abbrev y : Man
  y = numbered (opp c) u

  abbrev earlier : Men
  earlier = put q x (put s y m)

  -- what is asked of it
  pub record Simply : Type 0 where
    pub openly : agrees p.state None ≡ true
    pub mine : is_of c (m s) ≡ true
    pub not_held : not (held p.rights c s) ≡ true
    pub marked : mark_ok x c s mark (promoted_to mark (m s)) ≡ true
    pub bare_target : m q ≡ empty
    pub target_inner : not (is_pawn x and edge q) ≡ true
    pub stepped : steps m x (not (eqb u 0)) s q ≡ true
    pub source_inner : not (is_pawn y and edge s) ≡ true
    pub few : souls_ok earlier ≡ true
    pub calm : quiet earlier c ≡ true

  module _ (ok : accepted p ≡ true) (hs : s < 64) (hq : q < 64) (hu : u < 6) where
    same_path : (k : ℕ) → between q s k ≡ true → bare earlier k ≡ bare m k
    same_path = between_ends m q s x y hq hs

    -- it is plain unless un-make itself is asked
    module _ (h : strict_for p r ≡ true) (usual : u ≡ 0 → mark ≡ false → special c (m s) s q ≡ false) where
      can : can_retract p r ≡ true
      can = strict_can p r h

      b : Back p r
      b = back p r can

      by_way : (w : Way) → way_back c p r ≡ w → (undoable w c s m ≡ true) × (goes (unmade p r) w q s u ≡ true)
      by_way w e = (subst (λ (z : Way). undoable z c s m ≡ true) e b.can.undo, subst (λ (z : Way). goes (unmade p r) z q s u ≡ true) e b.going)

      -- a marked pawn goes to the last rank
      last : mark ≡ true → rank_for c s ≡ 7
      last e = eqb-true _ _ (right _ _ (left _ _ (left _ _ (subst (λ (z : Bool). mark_ok (leaving z c (m s)) c s z (promoted_to z (m s)) ≡ true) e b.marked))))

      not_passant : way_back c p r ≡ passant → ⊥
      unfolding special special_pawn
      not_passant e = go mark refl
        where
          rank_six : rank_for c s ≡ 5
          rank_six = eqb-true _ _ (left _ _ (left _ _ (by_way passant e).0))

          go : (z : Bool) → mark ≡ z → ⊥
          go true z = clash (sym (last z) ∙ rank_six)
            where
              clash : ◌≡◌ {A = ℕ} 7 5 → ⊥
              clash k = omega arith
          go false z =
              false≢true (sym (usual (passant_is x q s u c b.mine e).1 z)
              ∙ or_left _ (both (ap is_pawn (ap (λ (v : Bool). leaving v c (m s)) (sym z) ∙ (passant_is x q s u c b.mine e).0)) (or_left _ (both (eq-eqb _ _ rank_six) (left _ _ (by_way passant e).1)))))

      not_castling : (d : Side) → way_back c p r ≡ castling d → ⊥
      unfolding special special_pawn
      not_castling d e = go mark refl
        where
          king : x ≡ man c King
          king = (castling_is x q s u c d b.mine e).2

          go : (z : Bool) → mark ≡ z → ⊥
          go true z = false≢true (sym (ap is_pawn king) ∙ ap (λ (v : Bool). is_pawn (leaving v c (m s))) z)
          go false z =
              false≢true (sym (usual (eqb-true u 0 (left _ _ (left _ _ (by_way (castling d) e).1))) z)
              ∙ or_right _ (both (ap (is_kind King) (ap (λ (v : Bool). leaving v c (m s)) (sym z) ∙ king)) (eq-eqb _ _ (castling_is x q s u c d b.mine e).0)))

      plain_way : way_back c p r ≡ plain
      plain_way = go (way_back c p r) refl
        where
          go : (w : Way) → way_back c p r ≡ w → w ≡ plain
          go plain e = refl
          go passant e = absurd (not_passant e)
          go (castling d) e = absurd (not_castling d e)

      not_double : (d : Color) → x ≡ man d Pawn → u ≡ 0 → pawn_double d q s ≡ true → ⊥
      unfolding special special_pawn pawn_double
      not_double d e z k = go mark refl
        where
          mine_too : c ≡ d
          mine_too = same_colour c d (subst (λ (v : Man). is_of c v ≡ true) e b.mine)

          doubled : pawn_double c q s ≡ true
          doubled = subst (λ (v : Color). pawn_double v q s ≡ true) (sym mine_too) k

          go : (z : Bool) → mark ≡ z → ⊥
          go true v = clash (sym (last v) ∙ eqb-true _ _ (right _ _ doubled))
            where
              clash : ◌≡◌ {A = ℕ} 7 3 → ⊥
              clash k = omega arith
          go false v = false≢true (sym (usual z v) ∙ or_left _ (both (ap is_pawn (ap (λ (v : Bool). leaving v c (m s)) (sym v) ∙ e)) (or_right _ doubled)))

      men_are : (unmade p r).men ≡ earlier
      men_are = ap (λ (w : Way). before w c q s x y m) plain_way

      went : steps m x (not (eqb u 0)) s q ≡ true
      went =
          steps_of (unmade p r).men m q s u (λ k l. ap (λ (n : Men). bare n k) men_are ∙ same_path k l) x not_double
          (subst (λ (z : Man). moves (unmade p r).men z q s u ≡ true) b.there (by_way plain plain_way).1)

      asked : earlier_for (unmade p r) r p.state ≡ true
      asked = strict_by p r ok can ∙ h

      pub simply_so : Simply
      unfolding earlier_for counts_for agrees_for state_for
      simply_so = record {
        openly = subst (λ (z : EnPassantFlag). agrees p.state z ≡ true) (ap (λ (v : Man). state_after p.terms.edition (unmade p r).men v q s) b.there ∙ forgotten m q s u hq hs p.terms.edition (unmade p r).men x went) (right _ _ (left _ _ (left _ _ asked)));
        mine = b.can.mine;
        not_held = b.can.not_held;
        marked = b.marked;
        bare_target = b.can.target_bare;
        target_inner = subst (λ (z : Man). not (is_pawn z and edge q) ≡ true) b.there b.can.target_inner;
        stepped = went;
        source_inner = b.can.source_inner;
        few = subst (λ (n : Men). souls_ok n ≡ true) men_are (left _ _ (left _ _ (left _ _ (left _ _ asked))));
        calm = subst (λ (n : Men). quiet n c ≡ true) men_are (right _ _ asked);
      }

    -- and where all this holds it is strict
    module _ (a : Simply) where
      plain_so : way_back c p r ≡ plain
      plain_so = plainly m q s u hq hs x a.stepped

      ours : is_of c x ≡ true
      ours = go mark
        where
          go : (z : Bool) → is_of c (leaving z c (m s)) ≡ true
          go true = own_colour c Pawn
          go false = a.mine

      elsewhere : s ≢ q
      elsewhere e = false≢true (ap (is_of c) (sym a.bare_target ∙ ap m (sym e)) ∙ a.mine)

      at_target : (unmade_by plain c p r).men q ≡ x
      at_target = put_at q x (put s y m)

      step : Possible (unmade_by plain c p r) r (promoted_to mark (m s))
      step = record {
        source_in = hs;
        target_in = hq;
        small = le-leb u 5 (omega arith);
        mine = ap (is_of c) at_target ∙ ours;
        taken = off q x s elsewhere (put_at s y m);
        marked = ap (λ (z : Man). mark_ok z c s mark (promoted_to mark (m s))) at_target ∙ a.marked;
        going = ap (λ (z : Man). goes (unmade_by plain c p r) (way z q s u) q s u) at_target
            ∙ ap (λ (w : Way). goes (unmade_by plain c p r) w q s u) plain_so
            ∙ ap (λ (z : Man). moves earlier z q s u) at_target
            ∙ moves_of m earlier q s u (λ k l. sym (same_path k l)) x a.stepped;
      }

      retracted : retractable plain c (unmade_by plain c p r) p r ≡ true
      unfolding ◌and◌
      retracted =
          both (both (both (both (lt-ltb s 64 hs) a.mine) (both (lt-ltb q 64 hq) (ap is_empty a.bare_target))) a.not_held)
          (both (both (both refl a.source_inner) (ap (λ (z : Man). not (is_pawn z and edge q)) at_target ∙ a.target_inner)) (possible_by (unmade_by plain c p r) r (promoted_to mark (m s)) step))

      pub simply_strict : strict_for p r ≡ true
      unfolding earlier_for counts_for agrees_for state_for safe_for way_for
      simply_strict = sym (strict_by p r ok (subst (λ (w : Way). retractable w c (unmade_by w c p r) p r ≡ true) (sym plain_so) retracted)) ∙ passes
        where
          passes : earlier_for (unmade p r) r p.state ≡ true
          passes = subst (λ (w : Way). earlier_for (unmade_by w c p r) r p.state ≡ true) (sym plain_so) plain_passes
            where
              plain_passes : earlier_for (unmade_by plain c p r) r p.state ≡ true
              plain_passes =
                  both (both (both (both a.few refl)
                  (ap (λ (z : Man). agrees p.state (state_after p.terms.edition earlier z q s)) at_target
                  ∙ ap (λ (z : EnPassantFlag). agrees p.state z) (forgotten m q s u hq hs p.terms.edition earlier x a.stepped) ∙ a.openly))
                  (ap (λ (z : Man). safe earlier (way z q s u) c) at_target ∙ ap (λ (w : Way). safe earlier w c) plain_so))
                  a.calm
