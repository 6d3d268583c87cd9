-- Castling rights: what a held right says of the men, what a move keeps, what un-make gives back.
use mathlib.Core.Path.{◌≡◌, refl, sym, ap, ◌∙◌, subst, fun_ext}
use mathlib.Core.Logic.{◌⊎◌, inl, inr}
use mathlib.Core.Bool.{Bool, true, false, not, false≢true}
use Prim.Native.Nat.{ℕ}
use lib.Dec.{eqb}
use borrow.Author.Tests.{eqb-true, eq-eqb}
use Rattle.squares.specs.Tests.{◌and◌, ◌or◌}
use Rattle.geometry.specs.declared.Color.{Color}
use Rattle.geometry.specs.declared.Color.TheVariants.{White, Black}
use Rattle.geometry.specs.Colors.{opp}
use Rattle.laws.specs.declared.Piece.{Piece}
use Rattle.laws.specs.declared.Piece.TheVariants.{Rook, King}
use Rattle.laws.specs.Men.{Man, empty, man, Men, same_man, is_empty, is_of, color_place}
use Rattle.laws.specs.declared.Side.{Side}
use Rattle.laws.specs.declared.Side.TheVariants.{Short as short, Long as long}
use Rattle.laws.specs.Positions.{Rights, king_home, corner}
use Rattle.laws.specs.Acceptance.{right_ok, rights_ok}
use Rattle.laws.specs.declared.Way.{Way}
use Rattle.laws.specs.declared.Way.TheVariants.{Plain as plain, Passant as passant, Castle as castling}
use Rattle.laws.specs.Moves.{keeps, kept}
use Rattle.laws.specs.Unmaking.{same_side, same_right, regained, held}
use Rattle.squares.proofs.Testing.{both, left, right, either, or_left, or_right, fails, failed, absorbs, cases}
use Rattle.laws.proofs.Mans.{same, same_self, same_colour, one_colour}

pub right_at : (m : Men) (ρ : Rights) → rights_ok m ρ ≡ true → (c : Color) (d : Side) → right_ok m ρ c d ≡ true
right_at m ρ h White short = left _ _ (left _ _ (left _ _ h))
right_at m ρ h White long = right _ _ (left _ _ (left _ _ h))
right_at m ρ h Black short = right _ _ (left _ _ h)
right_at m ρ h Black long = right _ _ h

pub rights_all : (m : Men) (ρ : Rights) → ((c : Color) (d : Side) → right_ok m ρ c d ≡ true) → rights_ok m ρ ≡ true
rights_all m ρ f = both (both (both (f White short) (f White long)) (f Black short)) (f Black long)

-- a held right: king and rook at home
pub home : (m : Men) (ρ : Rights) → rights_ok m ρ ≡ true → (c : Color) (d : Side) → ρ c d ≡ true → (m (king_home c) ≡ man c King) × (m (corner c d) ≡ man c Rook)
home m ρ h c d e = go (either _ _ (right_at m ρ h c d))
  where
    go : (not (ρ c d) ≡ true) ⊎ ((same_man (m (king_home c)) (man c King) and same_man (m (corner c d)) (man c Rook)) ≡ true) → (m (king_home c) ≡ man c King) × (m (corner c d) ≡ man c Rook)
    go (inl n) = absurd (failed (ρ c d) n e)
    go (inr k) = (same _ _ (left _ _ k), same _ _ (right _ _ k))

-- fewer rights are as good
pub fewer : (m : Men) (ρ σ : Rights) → ((c : Color) (d : Side) → σ c d ≡ true → ρ c d ≡ true) → rights_ok m ρ ≡ true → rights_ok m σ ≡ true
fewer m ρ σ f h = rights_all m σ (λ c d. go c d (cases (σ c d)))
  where
    go : (c : Color) (d : Side) → (σ c d ≡ true) ⊎ (σ c d ≡ false) → right_ok m σ c d ≡ true
    go c d (inl e) =
        let k = home m ρ h c d (f c d e) in
        or_right (not (σ c d)) (both (same_self _ _ k.0) (same_self _ _ k.1))
    go c d (inr e) = or_left _ (ap not e)

same_side_lem : (d d' : Side) → same_side d d' ≡ true → d ≡ d'
same_side_lem short short e = refl
same_side_lem short long e = absurd (false≢true e)
same_side_lem long short e = absurd (false≢true e)
same_side_lem long long e = refl

pub same_right_lem : (c : Color) (d : Side) (c' : Color) (d' : Side) → same_right c d c' d' ≡ true → (c ≡ c') × (d ≡ d')
same_right_lem c d c' d' e = (same_colour c c' (left _ _ e), same_side_lem d d' (right _ _ e))

pub same_right_self : (c : Color) (d : Side) → same_right c d c d ≡ true
same_right_self c d = both (eq-eqb (color_place c) (color_place c) refl) (itself d)
  where
    itself : (d : Side) → same_side d d ≡ true
    itself short = refl
    itself long = refl

-- the rights of un-make are among those of any earlier board
pub regained_in : (w : Way) (c : Color) (t s : ℕ) (ρ : Rights) → ((d : Side) → w ≡ castling d → ρ c d ≡ true)
    → (c' : Color) (d' : Side) → regained w c (kept t s ρ) c' d' ≡ true → ρ c' d' ≡ true
regained_in plain c t s ρ f c' d' e = left _ _ e
regained_in passant c t s ρ f c' d' e = left _ _ e
regained_in (castling d) c t s ρ f c' d' e = go (either _ _ e)
  where
    go : (kept t s ρ c' d' ≡ true) ⊎ (same_right c d c' d' ≡ true) → ρ c' d' ≡ true
    go (inl k) = left _ _ k
    go (inr k) =
        let q = same_right_lem c d c' d' k in
        subst (λ (x : Color). ρ x d' ≡ true) q.0 (subst (λ (y : Side). ρ c y ≡ true) q.1 (f d refl))

colours : (c c' : Color) → (c' ≡ c) ⊎ (c' ≡ opp c)
colours White White = inl refl
colours White Black = inr refl
colours Black White = inr refl
colours Black Black = inl refl

holds_it : (ρ : Rights) (c : Color) (s : ℕ) (d : Side) → ρ c d ≡ true → (s ≡ king_home c) ⊎ (s ≡ corner c d) → held ρ c s ≡ true
holds_it ρ c s short e (inl q) = or_left _ (both e (or_left _ (eq-eqb _ _ q)))
holds_it ρ c s short e (inr q) = or_left _ (both e (or_right _ (eq-eqb _ _ q)))
holds_it ρ c s long e (inl q) = or_right _ (both e (or_left _ (eq-eqb _ _ q)))
holds_it ρ c s long e (inr q) = or_right _ (both e (or_right _ (eq-eqb _ _ q)))

-- a move between a square that is empty today and one of a man that no right holds keeps every right held today
pub keeps_held : (m : Men) (ρ : Rights) (c : Color) (t s : ℕ) → rights_ok m ρ ≡ true → m t ≡ empty → is_of c (m s) ≡ true → not (held ρ c s) ≡ true
    → (c' : Color) (d' : Side) → ρ c' d' ≡ true → keeps t s c' d' ≡ true
keeps_held m ρ c t s h ht hs nh c' d' e =
    both (both (both
    (fails _ (λ q. bare King (king_home c') k.0 (eqb-true _ _ q)))
    (fails _ (λ q. bare Rook (corner c' d') k.1 (eqb-true _ _ q))))
    (fails _ (λ q. other King (king_home c') k.0 (eqb-true _ _ q) (colours c c') (λ z. inl z))))
    (fails _ (λ q. other Rook (corner c' d') k.1 (eqb-true _ _ q) (colours c c') (λ z. inr z)))
  where
    k : (m (king_home c') ≡ man c' King) × (m (corner c' d') ≡ man c' Rook)
    k = home m ρ h c' d' e

    bare : (x : Piece) (a : ℕ) → m a ≡ man c' x → t ≡ a → ⊥
    bare x a ha q = false≢true (ap is_empty (sym ha ∙ ap m (sym q) ∙ ht))

    other : (x : Piece) (a : ℕ) → m a ≡ man c' x → s ≡ a → (c' ≡ c) ⊎ (c' ≡ opp c) → (s ≡ a → (s ≡ king_home c') ⊎ (s ≡ corner c' d')) → ⊥
    other x a ha q (inl cc') f = failed _ nh (subst (λ (z : Color). held ρ z s ≡ true) cc' (holds_it ρ c' s d' e (f q)))
    other x a ha q (inr cc') f =
        false≢true (sym (one_colour c x) ∙ subst (λ (y : Man). is_of c y ≡ true) (ap m q ∙ ha ∙ ap (λ (z : Color). man z x) cc') hs)

-- what un-make gives back, and the move then loses, comes to today's rights
pub rights_back : (w : Way) (c : Color) (t s : ℕ) (ρ : Rights) → ((d : Side) → w ≡ castling d → t ≡ king_home c)
    → ((c' : Color) (d' : Side) → ρ c' d' ≡ true → keeps t s c' d' ≡ true) → kept t s (regained w c ρ) ≡ ρ
unfolding ◌and◌ ◌or◌
rights_back plain c t s ρ f g = fun_ext λ c'. fun_ext λ d'. absorbs (ρ c' d') _ (g c' d')
rights_back passant c t s ρ f g = fun_ext λ c'. fun_ext λ d'. absorbs (ρ c' d') _ (g c' d')
rights_back (castling d) c t s ρ f g = fun_ext λ c'. fun_ext λ d'. go c' d' (ρ c' d') (g c' d')
  where
    lost : (c' : Color) (d' : Side) (a : Bool) → same_right c d c' d' ≡ a → (a and keeps t s c' d') ≡ false
    lost c' d' false e = refl
    lost c' d' true e = ap (λ (b : Bool). not b and not (eqb t (corner c' d')) and not (eqb s (king_home c')) and not (eqb s (corner c' d')))
        (eq-eqb _ _ (f d refl ∙ ap king_home (same_right_lem c d c' d' e).0))

    go : (c' : Color) (d' : Side) (a : Bool) → (a ≡ true → keeps t s c' d' ≡ true) → ((a or same_right c d c' d') and keeps t s c' d') ≡ a
    go c' d' true k = k refl
    go c' d' false k = lost c' d' (same_right c d c' d') refl

-- a move holds no right on its squares
pub kept_free : (ρ : Rights) (c : Color) (t s : ℕ) → not (held (kept t s ρ) c s) ≡ true
kept_free ρ c t s = fails _ (λ e. go (either _ _ e))
  where
    one : (d : Side) → (kept t s ρ c d and (eqb s (king_home c) or eqb s (corner c d))) ≡ true → ⊥
    one d e = which (either _ _ (right _ _ e))
      where
        k : keeps t s c d ≡ true
        k = right _ _ (left _ _ e)

        which : (eqb s (king_home c) ≡ true) ⊎ (eqb s (corner c d) ≡ true) → ⊥
        which (inl q) = failed _ (right _ _ (left _ _ k)) q
        which (inr q) = failed _ (right _ _ k) q

    go : ((kept t s ρ c short and (eqb s (king_home c) or eqb s (corner c short))) ≡ true) ⊎ ((kept t s ρ c long and (eqb s (king_home c) or eqb s (corner c long))) ≡ true) → ⊥
    go (inl e) = one short e
    go (inr e) = one long e
