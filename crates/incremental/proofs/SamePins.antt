-- The pins that the Rust finds are the Laws'.
use mathlib.Core.Path.{◌≡◌, refl, sym, ap, ◌∙◌, subst}
use mathlib.Core.Logic.{inl, inr, ⊎_elim}
use mathlib.Core.Bool.{Bool, true, false, not, cond, true≢false, false≢true}
use Prim.Native.Nat.{ℕ, ◌<◌, ◌^◌, ◌/◌, ◌%◌}
use native.Mathlib.Nat.{lt_of_le_of_lt}
use native.Mathlib.Omega.{arith}
use lib.Dec.{eqb}
use lib.Bits.{and_le_l}
use lib.Pow.{pow_pos}
use borrow.Author.Tests.{eqb-true}
use Rattle.squares.specs.Tests.{◌and◌, ◌or◌}
use Rattle.squares.specs.Squares.{has, size, united}
use Rattle.geometry.specs.declared.Color.{Color}
use Rattle.geometry.specs.Colors.{opp}
use Rattle.geometry.specs.Lines.{between, between_of}
use Rattle.laws.specs.Men.{Man, empty, man, Men, is_of, is_empty}
use Rattle.laws.specs.Attacks.{union_of, slides, alone, pins_of}
use Rattle.pins.specs.inner.Kings.{TheKing, snipers_of}
use Rattle.incremental.proofs.Searched.{xor_from, mid, slider_pin, pins_at}
use Rattle.squares.proofs.Testing.{left, right, either, failed}
use Rattle.squares.proofs.Digits.{has_zero}
use Rattle.squares.proofs.Comprehension.{is_up_to, has_set_of}
use Rattle.squares.proofs.Every.{all_at, any_cong}
use Rattle.squares.proofs.Counting.{count_empty}
use Rattle.geometry.proofs.Between.{Inside, Between, between_facts}
use Rattle.tables.proofs.BetweenRule.{between_lt}
use Rattle.pins.proofs.OneKing.{pins_is}
use Rattle.pins.proofs.Aloneness.{alone_at}
use Rattle.incremental.proofs.Xor.{xor_fits, has_xor_to}
use Rattle.incremental.proofs.Rays.{nested}

module _ (m : Men) (c : Color) (q : ℕ) where
  mid_lt : (a : ℕ) → mid m q a < 2 ^ 64
  mid_lt a = lt_of_le_of_lt (and_le_l (between_of a q) (union_of m)) (between_lt a q)

  pin_lt : (a : ℕ) → slider_pin m c q a < 2 ^ 64
  pin_lt a = go (has (snipers_of m (opp c) q) a and not (eqb (mid m q a) 0) and eqb (size (mid m q a)) 1)
    where
      go : (t : Bool) → cond t (mid m q a) 0 < 2 ^ 64
      go true = mid_lt a
      go false = pow_pos 64

  -- one man between: not an empty set
  not_none : (s : ℕ) → eqb (size s) 1 ≡ true → eqb s 0 ≡ false
  not_none s e = go (eqb s 0) refl
    where
      clash : ◌≡◌ {A = ℕ} 1 0 → ⊥
      clash h = omega arith

      go : (t : Bool) → eqb s 0 ≡ t → t ≡ false
      go true z = absurd (clash (sym (eqb-true (size s) 1 e) ∙ ap (λ (x : ℕ). size x) (eqb-true s 0 z) ∙ count_empty 64 (has 0) (λ k l. has_zero k)))
      go false z = refl

  has_pin : (a k : ℕ) → k < 64 → has (slider_pin m c q a) k ≡ (has (snipers_of m (opp c) q) a and alone m a q k)
  unfolding ◌and◌
  has_pin a k l = go (has (snipers_of m (opp c) q) a) (eqb (size (mid m q a)) 1) refl
    where
      go : (t u : Bool) → eqb (size (mid m q a)) 1 ≡ u → has (cond (t and not (eqb (mid m q a) 0) and u) (mid m q a) 0) k ≡ (t and alone m a q k)
      go false u e = has_zero k
      go true true e =
          ap (λ (z : Bool). has (cond (not z and true) (mid m q a) 0) k) (not_none (mid m q a) e)
          ∙ sym (alone_at m a q k l ∙ ap (λ (z : Bool). z and has (mid m q a) k) e)
      go true false e =
          ap (λ (z : Bool). has (cond z (mid m q a) 0) k) (off (not (eqb (mid m q a) 0))) ∙ has_zero k
          ∙ sym (alone_at m a q k l ∙ ap (λ (z : Bool). z and has (mid m q a) k) e)
        where
          off : (z : Bool) → (z and false) ≡ false
          off true = refl
          off false = refl

  -- a sniper stands on its square
  stands : (a : ℕ) → a < 64 → has (snipers_of m (opp c) q) a ≡ true → is_empty (m a) ≡ false
  unfolding snipers_of
  stands a l e = go (is_empty (m a)) refl
    where
      there : is_of (opp c) (m a) ≡ true
      there = left _ _ (sym (has_set_of (λ j. is_of (opp c) (m j) and slides (m j) j q) a l) ∙ e)

      go : (t : Bool) → is_empty (m a) ≡ t → t ≡ false
      go true z = absurd (no (m a) there z)
        where
          no : (x : Man) → is_of (opp c) x ≡ true → is_empty x ≡ true → ⊥
          no empty p r = false≢true p
          no (man d k) p r = false≢true r
      go false z = refl

  -- no other sniper stands between a sniper and q, past the man that it pins
  past : (a b k : ℕ) → b < 64 → has (snipers_of m (opp c) q) b ≡ true → alone m a q k ≡ true → between b q k ≡ true → between a q b ≡ true → ⊥
  past a b k hb sb al bk ab = ⊎_elim (λ e. ⊎_elim (λ n. failed _ n ab) (λ z. own b (subst (λ (j : ℕ). between b q j ≡ true) (sym (eqb-true b k z)) bk)) (either _ _ e)) (λ z. true≢false (sym z ∙ stands b hb sb)) (either _ _ (all_at 64 (λ j. not (between a q j) or eqb j k or is_empty (m j)) (right _ _ al) b hb))
    where
      own : (j : ℕ) → between j q j ≡ true → ⊥
      own j e = never j (between_facts j q j e)
        where
          apart_ne : (x y : ℕ) → Inside x y x → ⊥
          apart_ne x y (inl p) = omega arith
          apart_ne x y (inr p) = omega arith

          never : (j : ℕ) → Between j q j → ⊥
          never j (inl z) = apart_ne (j % 8) (q % 8) z.within
          never j (inr (inl z)) = apart_ne (j / 8) (q / 8) z.within
          never j (inr (inr z)) = apart_ne (j % 8) (q % 8) z.by_files

  one_sniper : (k a b : ℕ) → a < 64 → b < 64 → (has (snipers_of m (opp c) q) a and alone m a q k) ≡ true → (has (snipers_of m (opp c) q) b and alone m b q k) ≡ true → a ≡ b
  one_sniper k a b ha hb p r = ⊎_elim (λ e. e) (⊎_elim (λ z. absurd (past a b k hb (left _ _ r) (right _ _ p) bk z)) (λ z. absurd (past b a k ha (left _ _ p) (right _ _ r) ak z))) (nested a b q k ak bk)
    where
      ak : between a q k ≡ true
      ak = right _ _ (left _ _ (right _ _ p))

      bk : between b q k ≡ true
      bk = right _ _ (left _ _ (right _ _ r))

  pub pins_same : TheKing m c q → pins_at m c q ≡ pins_of m c
  unfolding united pins_at
  pins_same king =
      is_up_to 64 (xor_from 0 64 (slider_pin m c q)) (united (λ a. alone m a q) (snipers_of m (opp c) q)) (xor_fits 0 64 (slider_pin m c q) (pow_pos 64) pin_lt)
      (λ k l. has_xor_to 64 (slider_pin m c q) k (λ a b ha hb p r. one_sniper k a b ha hb (sym (has_pin a k l) ∙ p) (sym (has_pin b k l) ∙ r))
      ∙ any_cong 64 (λ a. has (slider_pin m c q a) k) (λ a. has (snipers_of m (opp c) q) a and alone m a q k) (λ a la. has_pin a k l))
      ∙ pins_is m c q king
