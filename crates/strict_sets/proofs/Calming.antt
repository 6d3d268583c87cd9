-- The king that waited, by sets of targets.
use mathlib.Core.Path.{◌≡◌, refl, sym, ap, ap₂, ◌∙◌}
use mathlib.Core.Logic.{◌≢◌}
use mathlib.Core.Bool.{Bool, true, false, not, cond, false≢true}
use Prim.Native.Nat.{ℕ, zero, suc, ◌<◌}
use native.Mathlib.Nat.{lt_of_le_of_lt}
use native.Mathlib.Omega.{arith}
use lib.Dec.{eqb, leb}
use lib.Bits.{bit_and, and_le_l}
use borrow.Author.Tests.{eqb-true, ne_eqb, lt-ltb}
use Rattle.squares.specs.Tests.{◌and◌}
use Rattle.squares.specs.Squares.{has, set_of}
use Rattle.squares.specs.Members.{compl}
use Rattle.geometry.specs.declared.Color.{Color}
use Rattle.geometry.specs.declared.Color.TheVariants.{White, Black}
use Rattle.geometry.specs.Colors.{opp}
use Rattle.laws.specs.declared.Piece.TheVariants.{Pawn, King}
use Rattle.laws.specs.Men.{Man, empty, man, Men, numbered, same_man, is_empty, is_of, put}
use Rattle.laws.specs.Souls.{souls}
use Rattle.laws.specs.Acceptance.{quiet}
use Rattle.laws.specs.Moves.{mark_ok}
use Rattle.laws.specs.Unmaking.{promoted_to}
use Rattle.pins.specs.inner.Kings.{TheKing}
use Rattle.exposure.specs.inner.Exposing.{exposed_at}
use Rattle.strict_sets.specs.inner.Parts.{comes_at, stood, calm_at, half_at, raised_at}
use Rattle.squares.proofs.Testing.{right, known}
use Rattle.squares.proofs.Digits.{has_and, has_zero}
use Rattle.squares.proofs.Comprehension.{is_up_to, up_to_lt, up_to_cong, has_set_of, has_not, set_of_none}
use Rattle.laws.proofs.Puts.{off}
use Rattle.laws.proofs.Mans.{one_colour, numbered_not_of, is_empty_lem}
use Rattle.laws.proofs.Mans as mans
use Rattle.exposure.proofs.Exposed.{quiet_by, exposed_same}

-- a man that is not of c, and no king
pub record Stander (c : Color) (y : Man) : Type 0 where
  pub not_ours : is_of c y ≡ false
  pub no_king : same_man y (man (opp c) King) ≡ false

pub stander_numbered : (c : Color) (u : ℕ) → Stander c (numbered (opp c) u)
stander_numbered c u = record { not_ours = numbered_not_of c u; no_king = go c u }
  where
    go : (c : Color) (u : ℕ) → same_man (numbered (opp c) u) (man (opp c) King) ≡ false
    go White zero = refl
    go White (suc zero) = refl
    go White (suc (suc zero)) = refl
    go White (suc (suc (suc zero))) = refl
    go White (suc (suc (suc (suc zero)))) = refl
    go White (suc (suc (suc (suc (suc n))))) = refl
    go Black zero = refl
    go Black (suc zero) = refl
    go Black (suc (suc zero)) = refl
    go Black (suc (suc (suc zero))) = refl
    go Black (suc (suc (suc (suc zero)))) = refl
    go Black (suc (suc (suc (suc (suc n))))) = refl

pub stander_stood : (c : Color) (taking : Bool) → Stander c (stood c taking)
stander_stood White true = record { not_ours = refl; no_king = refl }
stander_stood Black true = record { not_ours = refl; no_king = refl }
stander_stood White false = record { not_ours = refl; no_king = refl }
stander_stood Black false = record { not_ours = refl; no_king = refl }

pub empty_numbered : (c : Color) (u : ℕ) → is_empty (numbered c u) ≡ eqb u 0
empty_numbered c zero = refl
empty_numbered c (suc u) = go u ∙ sym (ne_eqb (suc u) 0 (λ z. absurd (omega arith)))
  where
    go : (n : ℕ) → is_empty (numbered c (suc n)) ≡ false
    go zero = refl
    go (suc zero) = refl
    go (suc (suc zero)) = refl
    go (suc (suc (suc zero))) = refl
    go (suc (suc (suc (suc n)))) = refl

pub empty_stood : (c : Color) (taking : Bool) → is_empty (stood c taking) ≡ not taking
empty_stood c true = refl
empty_stood c false = refl

-- m are today's men: c's man stands on s, nothing on q, and x of c goes from s to q
module _ (m : Men) (c : Color) (k s q : ℕ) (x : Man) (king : TheKing m (opp c) k) (hs : s < 64) (hq : q < 64) (stands : is_of c (m s) ≡ true) (free : m q ≡ empty) (ours : is_of c x ≡ true) where
  pub apart : q ≢ s
  apart e = false≢true (ap (is_of c) (sym free ∙ ap m e) ∙ stands)

  not_king : eqb s k ≡ false
  not_king = sym (king.only s hs) ∙ go (m s) stands
    where
      go : (z : Man) → is_of c z ≡ true → same_man z (man (opp c) King) ≡ false
      go z h = deny (same_man z (man (opp c) King)) refl
        where
          deny : (b : Bool) → same_man z (man (opp c) King) ≡ b → b ≡ false
          deny false e = refl
          deny true e = absurd (false≢true (sym (one_colour c King) ∙ ap (is_of c) (sym (mans.same z (man (opp c) King) e)) ∙ h))

  king_stays : (y : Man) → Stander c y → TheKing (put s y m) (opp c) k
  king_stays y st = record { here = king.here; only = λ a l. go a l (eqb a s) refl }
    where
      go : (a : ℕ) → a < 64 → (b : Bool) → eqb a s ≡ b → same_man (cond b y (m a)) (man (opp c) King) ≡ eqb a k
      go a l true e = st.no_king ∙ sym (ap (λ (j : ℕ). eqb j k) (eqb-true a s e) ∙ not_king)
      go a l false e = king.only a l

  pub quiet_from : (y : Man) → Stander c y → quiet (put q x (put s y m)) c ≡ not (exposed_at (put s y m) c x k q)
  quiet_from y st = quiet_by (put s y m) c k q x (king_stays y st) hq (off s y q apart free) ours

  pub quiet_same : (y z : Man) → Stander c y → Stander c z → is_empty y ≡ is_empty z → quiet (put q x (put s y m)) c ≡ quiet (put q x (put s z m)) c
  quiet_same y z sy sz e = quiet_from y sy ∙ ap not (exposed_same m c s y z x k q e sy.not_ours sz.not_ours) ∙ sym (quiet_from z sz)

-- tests under a test
under : (a : Bool) {b c : Bool} → (a ≡ true → b ≡ c) → (a and b) ≡ (a and c)
unfolding ◌and◌
under true f = f refl
under false f = refl

free_of : (m : Men) (x : Man) (taking : Bool) (s q : ℕ) → comes_at m x taking s q ≡ true → m q ≡ empty
unfolding comes_at
free_of m x taking s q h = is_empty_lem (m q) (right _ _ h)

module _ (m : Men) (c : Color) (k s : ℕ) (x : Man) (taking : Bool) (king : TheKing m (opp c) k) (hs : s < 64) (stands : is_of c (m s) ≡ true) (ours : is_of c x ≡ true) where
  pub calm_set : {from bad : ℕ} → from ≡ set_of (comes_at m x taking s) → bad ≡ set_of (exposed_at (put s (stood c taking) m) c x k) → bit_and from (compl bad) ≡ set_of (calm_at m c x taking s)
  unfolding calm_at
  calm_set {from} {bad} ef eb = is_up_to 64 _ (calm_at m c x taking s) (lt_of_le_of_lt (and_le_l from (compl bad)) (rw ef (up_to_lt 64 (comes_at m x taking s)))) at
    where
      at : (q : ℕ) → q < 64 → has (bit_and from (compl bad)) q ≡ (comes_at m x taking s q and quiet (put q x (put s (stood c taking) m)) c)
      at q l =
          has_and from (compl bad) q
          ∙ ap₂ ◌and◌ (ap (λ (n : ℕ). has n q) ef ∙ has_set_of (comes_at m x taking s) q l)
          (has_not 64 bad q (rw eb (up_to_lt 64 (exposed_at (put s (stood c taking) m) c x k))) ∙ known _ (lt-ltb q 64 l) ∙ ap (λ (n : ℕ). not (has n q)) eb ∙ ap not (has_set_of (exposed_at (put s (stood c taking) m) c x k) q l))
          ∙ under (comes_at m x taking s q) (λ h. sym (quiet_from m c k s q x king hs l stands (free_of m x taking s q h) ours (stood c taking) (stander_stood c taking)))

pub calm_none : (m : Men) (c : Color) (x : Man) (taking : Bool) (s : ℕ) {from : ℕ} → from ≡ set_of (comes_at m x taking s) → from ≡ 0 → 0 ≡ set_of (calm_at m c x taking s)
unfolding calm_at ◌and◌
calm_none m c x taking s e z = set_of_none (calm_at m c x taking s) (λ q l. ap (λ (b : Bool). b and quiet (put q x (put s (stood c taking) m)) c) (sym (has_set_of (comes_at m x taking s) q l) ∙ ap (λ (n : ℕ). has n q) (sym e ∙ z) ∙ has_zero q))

-- souls, and the mark
module _ (m : Men) (c : Color) (taking : Bool) (s : ℕ) where
  pub half_few : (x : Man) → leb (souls (put s x m) c) 8 ≡ true → set_of (calm_at m c x taking s) ≡ set_of (half_at m c x taking s)
  unfolding half_at
  half_few x e = up_to_cong 64 (calm_at m c x taking s) (half_at m c x taking s) (λ q l. sym (known _ e))

  pub half_many : (x : Man) → leb (souls (put s x m) c) 8 ≡ false → 0 ≡ set_of (half_at m c x taking s)
  unfolding half_at ◌and◌
  half_many x e = set_of_none (half_at m c x taking s) (λ q l. ap (λ (b : Bool). b and calm_at m c x taking s q) e)

  pub rises : (y : Man) → mark_ok (man c Pawn) c s true (promoted_to true y) ≡ true → set_of (half_at m c (man c Pawn) taking s) ≡ set_of (raised_at m c y taking s)
  unfolding raised_at
  rises y e = up_to_cong 64 (half_at m c (man c Pawn) taking s) (raised_at m c y taking s) (λ q l. sym (known _ e))

  pub rises_not : (y : Man) → mark_ok (man c Pawn) c s true (promoted_to true y) ≡ false → 0 ≡ set_of (raised_at m c y taking s)
  unfolding raised_at ◌and◌
  rises_not y e = set_of_none (raised_at m c y taking s) (λ q l. ap (λ (b : Bool). b and half_at m c (man c Pawn) taking s q) e)
