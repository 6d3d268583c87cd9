-- Castling closes no line to the squares of its king's way: who attacks one of them before it does so after it.
use mathlib.Core.Path.{◌≡◌, refl, sym, ap, ◌∙◌}
use mathlib.Core.Logic.{⊎_elim}
use mathlib.Core.Bool.{Bool, true, false, not, cond, true≢false}
use Prim.Native.Nat.{ℕ, ◌<◌}
use lib.Dec.{eqb}
use native.Mathlib.Omega.{arith}
use borrow.Author.Tests.{eqb-true, eq-eqb}
use Rattle.squares.specs.Tests.{◌and◌, ◌or◌}
use Rattle.squares.specs.Squares.{all_to, every_square}
use Rattle.geometry.specs.declared.Color.{Color}
use Rattle.geometry.specs.declared.Color.TheVariants.{White, Black}
use Rattle.geometry.specs.Colors.{opp}
use Rattle.geometry.specs.Lines.{same_rank, same_file, same_diagonal, between, clear}
use Rattle.laws.specs.declared.Piece.TheVariants.{Pawn, Knight, Bishop, Rook, Queen, King}
use Rattle.laws.specs.declared.Side.{Side}
use Rattle.laws.specs.declared.Side.TheVariants.{Short as short, Long as long}
use Rattle.laws.specs.declared.Way.TheVariants.{Castle as castling}
use Rattle.laws.specs.Men.{Man, empty, man, Men, is_of, is_empty, bare}
use Rattle.laws.specs.Positions.{king_home, corner, king_to, rook_to}
use Rattle.laws.specs.Attacks.{attacks, attacks_from, attacked}
use Rattle.laws.specs.Moves.{safe}
use Rattle.laws.specs.Unmaking.{before}
use Rattle.squares.proofs.Testing.{both, left, right, either, or_left, or_right}
use Rattle.squares.proofs.Every.{all_at, all_of, any_of, any_at}

-- a is where the king stands before, or the rook, or between them
abbrev beyond : Color → Side → ℕ → Bool
beyond c d a = eqb a (king_home c) or eqb a (corner c d) or between (king_home c) (corner c d) a

-- who looks at sq over the squares of the castled men looks from there, or over the king's home
abbrev looks_over : Color → Side → ℕ → Bool
looks_over c d sq = every_square (λ a. not (between a sq (king_to c d) or between a sq (rook_to c d)) or beyond c d a or between a sq (king_home c))

-- the squares that the king leaves, crosses and reaches
abbrev overs : Color → Side → Bool
overs c d = looks_over c d (king_home c) and looks_over c d (rook_to c d) and looks_over c d (king_to c d)

overs_all : (c : Color) (d : Side) → overs c d ≡ true
unfolding all_to same_rank same_file same_diagonal between ◌and◌ ◌or◌
overs_all White short = refl
overs_all White long = refl
overs_all Black short = refl
overs_all Black long = refl

not_both : {A : Type 0} {t : Bool} → t ≡ true → t ≡ false → A
not_both h k = absurd (true≢false (sym h ∙ k))

-- a man of c is not of the other side, nor is nobody
own_man : (c : Color) (x : Man) → is_of c x ≡ true → is_of (opp c) x ≡ false
own_man White (man White k) h = refl
own_man White (man Black k) h = not_both h refl
own_man Black (man White k) h = not_both h refl
own_man Black (man Black k) h = refl
own_man c empty h = not_both h refl

nobody : (c : Color) (x : Man) → is_empty x ≡ true → is_of c x ≡ false
nobody c empty h = refl
nobody c (man d k) h = not_both h refl

own_king : (c : Color) → is_of c (man c King) ≡ true
own_king White = refl
own_king Black = refl

own_rook : (c : Color) → is_of c (man c Rook) ≡ true
own_rook White = refl
own_rook Black = refl

home_lt : (c : Color) → king_home c < 64
home_lt White = omega arith
home_lt Black = omega arith

module _ (c : Color) (d : Side) (m : Men) where
  -- the men before the castling after which m stand
  abbrev pub earlier : Men
  earlier = before (castling d) c (king_home c) (king_to c d) (man c King) empty m

  -- a square by which of the four it is, and the man there
  abbrev placed : (home corner king_to rook_to : Bool) → Man → Man
  placed home corner king_to rook_to x = cond home (man c King) (cond corner (man c Rook) (cond king_to empty (cond rook_to empty x)))

  at_home : is_empty (earlier (king_home c)) ≡ false
  at_home = rw (eq-eqb (king_home c) (king_home c) refl)

  theirs : (p q r s : Bool) (x : Man) → is_of (opp c) (placed p q r s x) ≡ true → placed p q r s x ≡ x
  theirs true q r s x h = not_both h (own_man c (man c King) (own_king c))
  theirs false true r s x h = not_both h (own_man c (man c Rook) (own_rook c))
  theirs false false true s x h = not_both h refl
  theirs false false false true x h = not_both h refl
  theirs false false false false x h = refl

  same_man : (a : ℕ) → is_of (opp c) (earlier a) ≡ true → earlier a ≡ m a
  same_man a h = theirs (eqb a (king_home c)) (eqb a (corner c d)) (eqb a (king_to c d)) (eqb a (rook_to c d)) (m a) h

  module _ (free : clear (bare earlier) (king_home c) (corner c d) ≡ true) where
    -- no man of the other side stands there
    none_beyond : (a : ℕ) → a < 64 → beyond c d a ≡ true → is_of (opp c) (earlier a) ≡ false
    unfolding clear ◌or◌
    none_beyond a l h = go (eqb a (king_home c)) (eqb a (corner c d)) (between (king_home c) (corner c d) a) h (all_at 64 (λ j. not (between (king_home c) (corner c d) j) or bare earlier j) free a l)
      where
        go : (p q t : Bool) → (p or q or t) ≡ true → (not t or is_empty (placed p q (eqb a (king_to c d)) (eqb a (rook_to c d)) (m a))) ≡ true
            → is_of (opp c) (placed p q (eqb a (king_to c d)) (eqb a (rook_to c d)) (m a)) ≡ false
        go true q t z e = own_man c (man c King) (own_king c)
        go false true t z e = own_man c (man c Rook) (own_rook c)
        go false false true z e = nobody (opp c) (placed false false (eqb a (king_to c d)) (eqb a (rook_to c d)) (m a)) e
        go false false false z e = not_both z refl

    module _ (sq : ℕ) (overs : looks_over c d sq ≡ true) where
      -- a path that was free before is free after
      path : (a : ℕ) → a < 64 → is_of (opp c) (earlier a) ≡ true → clear (bare earlier) a sq ≡ true → clear (bare m) a sq ≡ true
      unfolding clear ◌or◌
      path a l h k = all_of 64 (λ j. not (between a sq j) or bare m j) (λ j n. at j (between a sq j) refl (was j n))
        where
          was : (j : ℕ) → j < 64 → (not (between a sq j) or bare earlier j) ≡ true
          was = all_at 64 (λ j. not (between a sq j) or bare earlier j) k

          -- the king stands in the way
          home : between a sq (king_home c) ≡ true → ⊥
          home b = not_both (sym (ap (λ (t : Bool). not t or bare earlier (king_home c)) b) ∙ was (king_home c) (home_lt c)) at_home

          over : (between a sq (king_to c d) or between a sq (rook_to c d)) ≡ true → ⊥
          over b = go (between a sq (king_to c d) or between a sq (rook_to c d)) b (all_at 64 (λ a. not (between a sq (king_to c d) or between a sq (rook_to c d)) or beyond c d a or between a sq (king_home c)) overs a l)
            where
              go : (t : Bool) → t ≡ true → (not t or beyond c d a or between a sq (king_home c)) ≡ true → ⊥
              go true e z = ⊎_elim (λ y. not_both h (none_beyond a l y)) home (either (beyond c d a) (between a sq (king_home c)) z)
              go false e z = not_both e refl

          stays : (j : ℕ) (p q r s : Bool) → (r ≡ true → ⊥) → (s ≡ true → ⊥) → is_empty (placed p q r s (m j)) ≡ true → is_empty (m j) ≡ true
          stays j true q r s nr ns z = not_both z refl
          stays j false true r s nr ns z = not_both z refl
          stays j false false true s nr ns z = absurd (nr refl)
          stays j false false false true nr ns z = absurd (ns refl)
          stays j false false false false nr ns z = z

          at : (j : ℕ) (t : Bool) → between a sq j ≡ t → (not t or bare earlier j) ≡ true → (not t or bare m j) ≡ true
          at j false e z = refl
          at j true e z =
              stays j (eqb j (king_home c)) (eqb j (corner c d)) (eqb j (king_to c d)) (eqb j (rook_to c d))
              (λ x. over (or_left (between a sq (rook_to c d)) (ap (between a sq) (sym (eqb-true j (king_to c d) x)) ∙ e)))
              (λ x. over (or_right (between a sq (king_to c d)) (ap (between a sq) (sym (eqb-true j (rook_to c d) x)) ∙ e))) z

      -- what attacked the square before does so after
      still : (a : ℕ) → a < 64 → is_of (opp c) (earlier a) ≡ true → (x : Man) → attacks earlier x a sq ≡ true → attacks m x a sq ≡ true
      still a l h empty z = z
      still a l h (man b Pawn) z = z
      still a l h (man b Knight) z = z
      still a l h (man b Bishop) z = both (left _ _ z) (path a l h (right _ _ z))
      still a l h (man b Rook) z = both (left _ _ z) (path a l h (right _ _ z))
      still a l h (man b Queen) z = both (left _ _ z) (path a l h (right _ _ z))
      still a l h (man b King) z = z

      attack_stays : attacked earlier (opp c) sq ≡ true → attacked m (opp c) sq ≡ true
      attack_stays h =
          let w = any_at 64 (attacks_from earlier (opp c) sq) h in
          let a = w.0 in
          let own : is_of (opp c) (earlier a) ≡ true = left _ _ w.2 in
          let e = same_man a own in
          any_of 64 (attacks_from m (opp c) sq) a w.1
          (both (ap (is_of (opp c)) (sym e) ∙ own) (ap (λ (x : Man). attacks m x a sq) (sym e) ∙ still a w.1 own (earlier a) (right _ _ w.2)))

-- nobody attacks such a square before who does not after
module _ (c : Color) (d : Side) (m : Men) (free : clear (bare (earlier c d m)) (king_home c) (corner c d) ≡ true) where
  calm : (sq : ℕ) → looks_over c d sq ≡ true → not (attacked m (opp c) sq) ≡ true → not (attacked (earlier c d m) (opp c) sq) ≡ true
  calm sq k n = go (attacked (earlier c d m) (opp c) sq) refl
    where
      go : (t : Bool) → attacked (earlier c d m) (opp c) sq ≡ t → not t ≡ true
      go true e = not_both n (ap not (attack_stays c d m free sq k e))
      go false e = refl

  -- castling that would be safe on the men after it was safe on those before
  pub safe_before : safe m (castling d) c ≡ true → safe (earlier c d m) (castling d) c ≡ true
  safe_before h =
      let o = overs_all c d in
      both (calm (king_home c) (left _ _ (left _ _ o)) (left _ _ h)) (calm (rook_to c d) (right _ _ (left _ _ o)) (right _ _ h))

  -- a king that is unattacked where it went castled onto an unattacked square
  pub into_before : not (attacked m (opp c) (king_to c d)) ≡ true → not (attacked (earlier c d m) (opp c) (king_to c d)) ≡ true
  into_before = calm (king_to c d) (right _ _ (overs_all c d))
