-- The targets that un-make itself is asked about, as sets.
use mathlib.Core.Path.{◌≡◌, refl, sym, ap, ap₂, ◌∙◌}
use mathlib.Core.Bool.{Bool, true, false, cond}
use Prim.Native.Nat.{ℕ, ◌<◌}
use lib.Dec.{eqb}
use borrow.Author.Tests.{eqb-true, eq-eqb, ne_eqb}
use Rattle.squares.specs.Tests.{◌and◌, ◌or◌}
use Rattle.squares.specs.Squares.{has, set_of, only, all_to, some_square, united}
use Rattle.geometry.specs.declared.Color.{Color}
use Rattle.geometry.specs.declared.Color.TheVariants.{White, Black}
use Rattle.geometry.specs.Colors.{opp, rank_for, behind}
use Rattle.geometry.specs.Lines.{files}
use Rattle.geometry.specs.Steps.{pawn_double, pawn_takes}
use Rattle.laws.specs.declared.Piece.TheVariants.{Pawn, King}
use Rattle.laws.specs.Men.{Man, man, is_pawn, is_kind}
use Rattle.laws.specs.Positions.{Pos, king_home}
use Rattle.strict_test.specs.inner.Strictly.{strict_for}
use Rattle.strict_sets.specs.inner.Parts.{special_pawn, special, strict_alone}
use Rattle.squares.proofs.Testing.{both, left, right, or_false, and_false, known, bool_ext}
use Rattle.squares.proofs.Comprehension.{up_to_cong, up_to_none, set_of_none}
use Rattle.squares.proofs.Every.{any_at, any_of, pair_eq}
use Rattle.geometry.proofs.Turned.{pawn_turned}
use Rattle.laws.proofs.Mans.{opp_opp}

-- the double step to a square of the fourth rank is from two behind it
two_behind : (c : Color) (q s : ℕ) → q < 64 → s < 64 → (eqb (rank_for c s) 3 and pawn_double c q s) ≡ (eqb (rank_for c s) 3 and eqb q (behind c (behind c s)))
unfolding pawn_double ◌and◌ all_to
two_behind White = pair_eq (λ q s. eqb (rank_for White s) 3 and pawn_double White q s) (λ q s. eqb (rank_for White s) 3 and eqb q (behind White (behind White s))) refl
two_behind Black = pair_eq (λ q s. eqb (rank_for Black s) 3 and pawn_double Black q s) (λ q s. eqb (rank_for Black s) 3 and eqb q (behind Black (behind Black s))) refl

no_double : (c : Color) (q s : ℕ) → eqb (rank_for c s) 3 ≡ false → pawn_double c q s ≡ false
unfolding pawn_double
no_double c q s e = ap (λ (z : Bool). (eqb (files q s) 0 and eqb (rank_for c q) 1) and z) e ∙ and_false _

module _ (c : Color) (s : ℕ) (hs : s < 64) where
  pub on_sixth : {a : ℕ} → rank_for c s ≡ 5 → a ≡ set_of (pawn_takes (opp c) s) → a ≡ set_of (special_pawn c s)
  unfolding special_pawn
  on_sixth e ea = ea ∙ up_to_cong 64 (pawn_takes (opp c) s) (special_pawn c s) (λ q l.
      pawn_turned (opp c) s q hs l ∙ ap (λ (z : Color). pawn_takes z q s) (opp_opp c) ∙ sym (known (pawn_takes c q s) (eq-eqb _ _ e)) ∙ sym (or_false _)
      ∙ ap (λ (z : Bool). (eqb (rank_for c s) 5 and pawn_takes c q s) or z) (sym (no_double c q s (ap (λ (n : ℕ). eqb n 3) e))))

  pub on_fourth : {b h : ℕ} → rank_for c s ≡ 3 → h ≡ behind c (behind c s) → b ≡ only h → b ≡ set_of (special_pawn c s)
  unfolding special_pawn ◌and◌ ◌or◌
  on_fourth {b} {h} e eh eb = eb ∙ up_to_cong 64 (λ q. eqb q h) (special_pawn c s) (λ q l.
      ap (eqb q) eh ∙ sym (known _ (eq-eqb _ _ e)) ∙ sym (two_behind c q s l hs) ∙ known _ (eq-eqb _ _ e)
      ∙ ap (λ (z : Bool). (z and pawn_takes c q s) or pawn_double c q s) (sym (ap (λ (n : ℕ). eqb n 5) e)))

  pub elsewhere : (rank_for c s ≡ 5 → ⊥) → (rank_for c s ≡ 3 → ⊥) → 0 ≡ set_of (special_pawn c s)
  unfolding special_pawn ◌and◌ ◌or◌
  elsewhere f g = set_of_none (special_pawn c s) (λ q l. ap (λ (z : Bool). (z and pawn_takes c q s) or pawn_double c q s) (ne_eqb _ 5 f) ∙ no_double c q s (ne_eqb _ 3 g))

-- of a pawn, of the king, of another man
pub pawn_special : (c d : Color) (s : ℕ) → set_of (special_pawn c s) ≡ set_of (special c (man d Pawn) s)
unfolding special ◌and◌
pawn_special c d s = up_to_cong 64 (special_pawn c s) (special c (man d Pawn) s) (λ q l. sym (or_false _))

pub king_special : (c d : Color) (s : ℕ) → only (king_home c) ≡ set_of (special c (man d King) s)
unfolding special ◌and◌ ◌or◌
king_special c d s = refl

pub none_special : (c : Color) (x : Man) (s : ℕ) → is_pawn x ≡ false → is_kind King x ≡ false → 0 ≡ set_of (special c x s)
unfolding special ◌and◌ ◌or◌
none_special c x s a b = set_of_none (special c x s) (λ q l. ap₂ (λ (y z : Bool). (y and special_pawn c s q) or (z and eqb q (king_home c))) a b)

-- one target, by whether it is strict
pub alone_set : (p : Pos) (s q : ℕ) {z : Bool} {b : ℕ} → z ≡ strict_for p (record { source = s; target = q; uncaptured = 0; unpromotion = false }) → b ≡ only q → cond z b 0 ≡ set_of (strict_alone p s q)
unfolding strict_alone ◌and◌
alone_set p s q {z} {b} e eb = ap₂ (λ (y : Bool) (n : ℕ). cond y n 0) e eb ∙ go (strict_for p (record { source = s; target = q; uncaptured = 0; unpromotion = false }))
  where
    go : (y : Bool) → cond y (only q) 0 ≡ set_of (λ j. y and eqb j q)
    go true = refl
    go false = sym (up_to_none 64)

-- a set's members that are strict
pub tested_at : (p : Pos) (s set q : ℕ) → q < 64
    → united (strict_alone p s) set q ≡ (has set q and strict_for p (record { source = s; target = q; uncaptured = 0; unpromotion = false }))
unfolding united strict_alone
tested_at p s set q l = bool_ext _ _ to (λ h. any_of 64 (λ a. has set a and strict_alone p s a q) q l (both (left _ _ h) (both (right _ _ h) (eq-eqb q q refl))))
  where
    to : some_square (λ a. has set a and strict_alone p s a q) ≡ true → (has set q and strict_for p (record { source = s; target = q; uncaptured = 0; unpromotion = false })) ≡ true
    to h = go (any_at 64 (λ a. has set a and strict_alone p s a q) h)
      where
        go : (a : ℕ) × (a < 64) × ((has set a and strict_alone p s a q) ≡ true) → (has set q and strict_for p (record { source = s; target = q; uncaptured = 0; unpromotion = false })) ≡ true
        go w = both (ap (has set) here ∙ left _ _ w.2) (ap (λ (a : ℕ). strict_for p (record { source = s; target = a; uncaptured = 0; unpromotion = false })) here ∙ left _ _ (right _ _ w.2))
          where
            here : q ≡ w.0
            here = eqb-true q w.0 (right _ _ (right _ _ w.2))
