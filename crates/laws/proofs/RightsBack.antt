-- The rights of the un-made board have their king and rook (4).
use mathlib.Core.Path.{◌≡◌, refl, sym, ap, ◌∙◌, subst}
use mathlib.Core.Logic.{◌⊎◌, inl, inr, ◌≢◌}
use mathlib.Core.Bool.{Bool, true, false, not, true≢false, false≢true}
use Prim.Native.Nat.{ℕ, ◌%◌}
use native.Mathlib.Omega.{arith}
use lib.Dec.{eqb}
use borrow.Author.Tests.{eq-eqb}
use Rattle.geometry.specs.declared.Color.{Color}
use Rattle.geometry.specs.declared.Color.TheVariants.{White, Black}
use Rattle.geometry.specs.Colors.{opp, behind}
use Rattle.laws.specs.declared.Piece.{Piece}
use Rattle.laws.specs.declared.Piece.TheVariants.{Pawn, Knight, Bishop, Rook, Queen, King}
use Rattle.laws.specs.Men.{Man, empty, man, Men, is_empty, put}
use Rattle.laws.specs.declared.Side.{Side}
use Rattle.laws.specs.declared.Side.TheVariants.{Short as short, Long as long}
use Rattle.laws.specs.Positions.{Rights, king_home, corner, rook_to}
use Rattle.laws.specs.Acceptance.{right_ok, rights_ok}
use Rattle.laws.specs.declared.Way.{Way}
use Rattle.laws.specs.declared.Way.TheVariants.{Plain as plain, Passant as passant, Castle as castling}
use Rattle.laws.specs.Moves.{keeps}
use Rattle.laws.specs.Unmaking.{before, same_right, regained}
use Rattle.squares.proofs.Testing.{both, left, right, either, or_left, or_right, failed, cases}
use Rattle.laws.proofs.Mans.{same_self}
use Rattle.laws.proofs.Puts.{put_at, off, Done}
use Rattle.laws.proofs.Rights.{home, rights_all, same_right_lem}

abbrev Away : Way → Color → ℕ → ℕ → Type 0
Away plain c s j = Unit {0}
Away passant c s j = j ≢ behind c s
Away (castling d) c s j = (j ≢ corner c d) × (j ≢ rook_to c d)

untouched : (w : Way) (m : Men) (c : Color) (t s : ℕ) (x y : Man) (j : ℕ) → j ≢ t → j ≢ s → Away w c s j → before w c t s x y m j ≡ m j
untouched plain m c t s x y j jt js a = off t x j jt (off s y j js refl)
untouched passant m c t s x y j jt js a = off t x j jt (off (behind c s) (man (opp c) Pawn) j a (off s y j js refl))
untouched (castling d) m c t s x y j jt js a =
    off t x j jt (off (corner c d) (man c Rook) j a.0 (off s y j js (off (rook_to c d) empty j a.1 refl)))

corner≢rook : (c : Color) (d : Side) (c' : Color) (d' : Side) → corner c' d' ≢ rook_to c d
corner≢rook c d c' d' e = false≢true (sym (inner c d) ∙ ap (λ (k : ℕ). eqb (k % 8 % 7) 0) (sym e) ∙ outer c' d')
  where
    inner : (c : Color) (d : Side) → eqb (rook_to c d % 8 % 7) 0 ≡ false
    inner White short = refl
    inner White long = refl
    inner Black short = refl
    inner Black long = refl

    outer : (c : Color) (d : Side) → eqb (corner c d % 8 % 7) 0 ≡ true
    outer White short = refl
    outer White long = refl
    outer Black short = refl
    outer Black long = refl

is_king : Man → Bool
is_king empty = false
is_king (man c Pawn) = false
is_king (man c Knight) = false
is_king (man c Bishop) = false
is_king (man c Rook) = false
is_king (man c Queen) = false
is_king (man c King) = true

occupied : (m : Men) (j k : ℕ) (c : Color) (z : Piece) → m j ≡ man c z → m k ≡ empty → j ≢ k
occupied m j k c z hj hk q = false≢true (ap is_empty (sym hj ∙ ap m q ∙ hk))

away_king : (w : Way) (m : Men) (c c' : Color) (s j : ℕ) → Done w c s m → m j ≡ man c' King → Away w c s j
unfolding is_king
away_king plain m c c' s j d h = tt
away_king passant m c c' s j d h = occupied m j (behind c s) c' King h d
away_king (castling i) m c c' s j d h = (occupied m j (corner c i) c' King h d.1, λ q. true≢false (ap is_king (sym h ∙ ap m q ∙ d.0)))

away_rook : (w : Way) (m : Men) (c c' : Color) (s : ℕ) (d' : Side) → Done w c s m → m (corner c' d') ≡ man c' Rook → Away w c s (corner c' d')
away_rook plain m c c' s d' d h = tt
away_rook passant m c c' s d' d h = occupied m (corner c' d') (behind c s) c' Rook h d
away_rook (castling i) m c c' s d' d h = (occupied m (corner c' d') (corner c i) c' Rook h d.1, corner≢rook c i c' d')

home≢corner : (c : Color) (d : Side) → corner c d ≢ king_home c
home≢corner White short e = omega arith
home≢corner White long e = omega arith
home≢corner Black short e = omega arith
home≢corner Black long e = omega arith

pub rights_unmade : (w : Way) (m : Men) (ρ : Rights) (c : Color) (t s : ℕ) (x y : Man) → rights_ok m ρ ≡ true → Done w c s m
    → ((c' : Color) (d' : Side) → ρ c' d' ≡ true → keeps t s c' d' ≡ true)
    → ((d : Side) → w ≡ castling d → (t ≡ king_home c) × (x ≡ man c King))
    → rights_ok (before w c t s x y m) (regained w c ρ) ≡ true
rights_unmade w m ρ c t s x y ok dn kp cs = rights_all (before w c t s x y m) (regained w c ρ) (λ c' d'. at c' d' (cases (regained w c ρ c' d')))
  where
    e : Men
    e = before w c t s x y m

    kept_home : (c' : Color) (d' : Side) → ρ c' d' ≡ true → (e (king_home c') ≡ man c' King) × (e (corner c' d') ≡ man c' Rook)
    kept_home c' d' h = (
      untouched w m c t s x y (king_home c') (apart t _ (left _ _ (left _ _ (left _ _ k)))) (apart s _ (right _ _ (left _ _ k))) (away_king w m c c' s (king_home c') dn hm.0) ∙ hm.0,
      untouched w m c t s x y (corner c' d') (apart t _ (right _ _ (left _ _ (left _ _ k)))) (apart s _ (right _ _ k)) (away_rook w m c c' s d' dn hm.1) ∙ hm.1,
    )
      where
        hm : (m (king_home c') ≡ man c' King) × (m (corner c' d') ≡ man c' Rook)
        hm = home m ρ ok c' d' h

        k : keeps t s c' d' ≡ true
        k = kp c' d' h

        apart : (a b : ℕ) → not (eqb a b) ≡ true → b ≢ a
        apart a b n q = failed (eqb a b) n (eq-eqb _ _ (sym q))

    given : (v : Way) (c' : Color) (d' : Side) → w ≡ v → regained v c ρ c' d' ≡ true → (e (king_home c') ≡ man c' King) × (e (corner c' d') ≡ man c' Rook)
    given plain c' d' q h = kept_home c' d' h
    given passant c' d' q h = kept_home c' d' h
    given (castling d) c' d' q h = which (either _ _ h)
      where
        fresh : (e (king_home c) ≡ man c King) × (e (corner c d) ≡ man c Rook)
        fresh = subst (λ (v : Way). (before v c t s x y m (king_home c) ≡ man c King) × (before v c t s x y m (corner c d) ≡ man c Rook)) (sym q) (
          subst (λ (j : ℕ). put t x f j ≡ man c King) (cs d q).0 (put_at t x f ∙ (cs d q).1),
          off t x (corner c d) (λ z. home≢corner c d (z ∙ (cs d q).0)) (put_at (corner c d) (man c Rook) (put s y (put (rook_to c d) empty m))),
        )
          where
            f : Men
            f = put (corner c d) (man c Rook) (put s y (put (rook_to c d) empty m))

        which : (ρ c' d' ≡ true) ⊎ (same_right c d c' d' ≡ true) → (e (king_home c') ≡ man c' King) × (e (corner c' d') ≡ man c' Rook)
        which (inl k) = kept_home c' d' k
        which (inr k) =
            let z = same_right_lem c d c' d' k in
            subst (λ (a : Color). (e (king_home a) ≡ man a King) × (e (corner a d') ≡ man a Rook)) z.0
            (subst (λ (b : Side). (e (king_home c) ≡ man c King) × (e (corner c b) ≡ man c Rook)) z.1 fresh)

    at : (c' : Color) (d' : Side) → (regained w c ρ c' d' ≡ true) ⊎ (regained w c ρ c' d' ≡ false) → right_ok e (regained w c ρ) c' d' ≡ true
    at c' d' (inl h) = let k = given w c' d' refl h in or_right (not (regained w c ρ c' d')) (both (same_self _ _ k.0) (same_self _ _ k.1))
    at c' d' (inr h) = or_left _ (ap not h)
