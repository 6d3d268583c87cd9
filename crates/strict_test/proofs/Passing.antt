-- A strict retraction comes from a square that its man can have come from: what is passed over is not strict.
use mathlib.Core.Path.{◌≡◌, refl, sym, ap, ◌∙◌, subst}
use mathlib.Core.Logic.{◌⊎◌, inl, inr}
use mathlib.Core.Bool.{Bool, true, false, not, false≢true}
use Prim.Native.Nat.{ℕ, zero, suc, ◌<◌}
use native.Mathlib.Omega.{arith}
use borrow.Author.Tests.{eq-eqb, ne_eqb}
use Rattle.squares.specs.Tests.{◌and◌, ◌or◌}
use Rattle.squares.specs.Squares.{all_to}
use Rattle.geometry.specs.Lines.{between, same_rank, same_file, same_diagonal, clear}
use Rattle.geometry.specs.Colors.{opp}
use Rattle.geometry.specs.Steps.{pawn_step, pawn_double}
use Rattle.laws.specs.declared.Piece.TheVariants.{Pawn, Knight, Bishop, Rook, Queen, King}
use Rattle.laws.specs.declared.ChessRetraction.{ChessRetraction}
use Rattle.laws.specs.Men.{Man, empty, man, Men, numbered, is_empty, bare, put}
use Rattle.laws.specs.Positions.{Pos, retractor}
use Rattle.laws.specs.declared.Way.{Way}
use Rattle.laws.specs.declared.Way.TheVariants.{Plain as plain, Passant as passant, Castle as castling}
use Rattle.laws.specs.Moves.{pawn_goes, moves, goes}
use Rattle.laws.specs.Unmaking.{before, leaving, way_back, unmade}
use Rattle.moves.specs.inner.Parts.{moves_for}
use Rattle.unmake.specs.Retracted.{source_for, target_for}
use Rattle.strict_test.specs.inner.Strictly.{strict_for}
use Rattle.strict_test.specs.inner.Coming.{steps_for, comes_for}
use Rattle.squares.proofs.Testing.{both, left, right, either, or_left, or_right}
use Rattle.squares.proofs.Every.{all_at, all_of, pair_eq}
use Rattle.laws.proofs.Puts.{off}
use Rattle.laws.proofs.Mans.{castling_is}
use Rattle.laws.proofs.Retracting.{mover, Back, back}
use Rattle.strict_test.proofs.Earlier.{strict_can}

-- the ends of a line are not between
not_start : (a b : ℕ) → a < 64 → b < 64 → between a b a ≡ false
unfolding between same_rank same_file same_diagonal ◌and◌ ◌or◌ all_to
not_start = pair_eq (λ a b. between a b a) (λ a b. false) refl

not_end : (a b : ℕ) → a < 64 → b < 64 → between a b b ≡ false
unfolding between same_rank same_file same_diagonal ◌and◌ ◌or◌ all_to
not_end = pair_eq (λ a b. between a b b) (λ a b. false) refl

-- a path does not see what is put on its ends
clear_on : (m : Men) (t s : ℕ) (x y : Man) → t < 64 → s < 64 → clear (bare (put t x (put s y m))) t s ≡ true → clear (bare m) t s ≡ true
unfolding clear ◌or◌
clear_on m t s x y ht hs h = all_of 64 (λ k. not (between t s k) or bare m k) (λ k l. go k (between t s k) refl (all_at 64 (λ k. not (between t s k) or bare (put t x (put s y m)) k) h k l))
  where
    go : (k : ℕ) (b : Bool) → between t s k ≡ b → (not b or bare (put t x (put s y m)) k) ≡ true → (not b or bare m k) ≡ true
    go k false e z = refl
    go k true e z = subst (λ (v : Man). is_empty v ≡ true) (off t x k (λ q. apart (not_start t s ht hs) q) (off s y k (λ q. apart (not_end t s ht hs) q) refl)) z
      where
        apart : {j : ℕ} → between t s j ≡ false → k ≡ j → ⊥
        apart {j} f q = false≢true (sym f ∙ ap (between t s) (sym q) ∙ e)

-- a step on the un-made men is one on today's
steps_on : (m n : Men) (x : Man) (t s u : ℕ) → (clear (bare n) t s ≡ true → clear (bare m) t s ≡ true) → moves n x t s u ≡ true → steps_for m x t s ≡ true
unfolding steps_for moves_for
steps_on m n empty t s u f h = absurd (false≢true h)
steps_on m n (man c Pawn) t s zero f h = or_left _ (pawn (either _ _ h))
  where
    pawn : (pawn_step c t s ≡ true) ⊎ ((pawn_double c t s and clear (bare n) t s) ≡ true) → pawn_goes m c t s ≡ true
    pawn (inl a) = or_left _ a
    pawn (inr a) = or_right _ (both (left _ _ a) (f (right _ _ a)))
steps_on m n (man c Pawn) t s (suc u) f h = or_right _ (rw (ne_eqb (suc u) 0 (λ z. absurd (omega arith))) at h)
steps_on m n (man c Knight) t s u f h = or_left _ h
steps_on m n (man c Bishop) t s u f h = or_left _ (both (left _ _ h) (f (right _ _ h)))
steps_on m n (man c Rook) t s u f h = or_left _ (both (left _ _ h) (f (right _ _ h)))
steps_on m n (man c Queen) t s u f h = or_left _ (both (left _ _ h) (f (right _ _ h)))
steps_on m n (man c King) t s u f h = or_left _ h

-- the man that left is today's, or the pawn that it was
come : (p : Pos) (r : ChessRetraction) (mark : Bool) → steps_for p.men (leaving mark (retractor p) (p.men r.source)) r.target r.source ≡ true → comes_for p r ≡ true
unfolding comes_for
come p r true h = or_left _ (or_right _ h)
come p r false h = or_left _ (or_left _ h)

strict_comes : (p : Pos) (r : ChessRetraction) → strict_for p r ≡ true → comes_for p r ≡ true
unfolding comes_for steps_for moves_for
strict_comes p r h = go (way_back (retractor p) p r) refl
  where
    b : Back p r
    b = back p r (strict_can p r h)

    going : (w : Way) → way_back (retractor p) p r ≡ w → goes (unmade p r) w r.target r.source r.uncaptured ≡ true
    going w q = subst (λ (z : Way). goes (unmade p r) z r.target r.source r.uncaptured ≡ true) q b.going

    free : way_back (retractor p) p r ≡ plain → clear (bare (unmade p r).men) r.target r.source ≡ true → clear (bare p.men) r.target r.source ≡ true
    free q z =
        clear_on p.men r.target r.source (mover p r) (numbered (opp (retractor p)) r.uncaptured) b.can.target_in b.can.source_in
        (subst (λ (w : Way). clear (bare (before w (retractor p) r.target r.source (mover p r) (numbered (opp (retractor p)) r.uncaptured) p.men)) r.target r.source ≡ true) q z)

    go : (w : Way) → way_back (retractor p) p r ≡ w → comes_for p r ≡ true
    go plain q =
        come p r r.unpromotion (steps_on p.men (unmade p r).men (mover p r) r.target r.source r.uncaptured (free q)
        (subst (λ (z : Man). moves (unmade p r).men z r.target r.source r.uncaptured ≡ true) b.there (going plain q)))
    go passant q = or_left _ (or_right _ (or_right _ (left _ _ (going passant q))))
    go (castling d) q = or_right _ (eq-eqb _ _ (castling_is (mover p r) r.target r.source r.uncaptured (retractor p) d b.mine q).0)

-- what is passed over
module _ (p : Pos) (r : ChessRetraction) where
  not_strict_lem : {t : Bool} → t ≡ false → (strict_for p r ≡ true → t ≡ true) → strict_for p r ≡ false
  not_strict_lem {t} e f = go (strict_for p r) refl
    where
      go : (b : Bool) → strict_for p r ≡ b → b ≡ false
      go false z = refl
      go true z = absurd (false≢true (sym e ∙ f z))

  pub no_source : source_for p r ≡ false → strict_for p r ≡ false
  unfolding source_for
  no_source e = not_strict_lem e (λ z. left _ _ (left _ _ (left _ _ (strict_can p r z))))

  pub no_target : target_for p r ≡ false → strict_for p r ≡ false
  unfolding target_for
  no_target e = not_strict_lem e (λ z. right _ _ (left _ _ (left _ _ (strict_can p r z))))

  pub no_coming : comes_for p r ≡ false → strict_for p r ≡ false
  no_coming e = not_strict_lem e (strict_comes p r)
