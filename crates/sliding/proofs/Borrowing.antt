-- The subtraction: x less 2 ^ (a + 1), with a borrow past the top, differs from x at the squares above a up to the first member of x,
-- and with it.
use Rattle.std.proofs.Common.{◌≡◌, ℕ, zero, suc, ◌+◌, ◌*◌, ◌%◌, ◌^◌, ◌<◌, ◌≤◌, Bool, true, false, not, eqb, sym, refl, ap, ◌∙◌, subst, ap₂, ⊎_elim, le_trans, le_refl, le_of_suc-le-suc, not-suc-le-zero, eq-or-lt_of_le, one-mul, pow-suc, arith, eq-eqb, ne_eqb, eqb-true}
use mathlib.Core.Bool.{false≢true}
use native.Mathlib.Nat.{le-suc}
use lib.Bits.{bit_xor, xor_lt}
use borrow.Author.Tests.{not-true}
use Rattle.squares.specs.Tests.{◌and◌, ◌or◌}
use Rattle.squares.specs.Squares.{has, flag, up_to, set_of, only}
use Rattle.squares.proofs.Testing.{both, left, right, either, or_left, or_right, cases}
use Rattle.squares.proofs.Digits.{differs, has_xor}
use Rattle.squares.proofs.Comprehension.{up_to_lt, up_to_cong, up_to_has, is_up_to, has_set_of, only_is}
use Rattle.sliding.specs.inner.Seen.{opens}

differs_none : (h : Bool) → differs h false ≡ h
differs_none true = refl
differs_none false = refl

-- what `opens` says
module _ (a x : ℕ) where
  pub opens_above : (k : ℕ) → opens a x k ≡ true → a < k
  unfolding opens
  opens_above zero e = absurd (false≢true e)
  opens_above (suc k) e =
      ⊎_elim (λ p. let q : k ≡ a = eqb-true k a p in omega arith) (λ p. let q : a < k = opens_above k (left _ _ p) in omega arith) (either _ _ e)

  pub opens_free : (k : ℕ) → opens a x k ≡ true → (j : ℕ) → a < j → j < k → has x j ≡ false
  unfolding opens
  opens_free zero e j l m = absurd (not-suc-le-zero m)
  opens_free (suc k) e j l m =
      ⊎_elim (λ p. let q : k ≡ a = eqb-true k a p in absurd (omega arith))
      (λ p. ⊎_elim (λ q. ap (has x) q ∙ not-true (has x k) (right _ _ p)) (λ q. opens_free k (left _ _ p) j l q) (eq-or-lt_of_le (le_of_suc-le-suc m)))
      (either _ _ e)

  pub opens_of : (k : ℕ) → a < k → ((j : ℕ) → a < j → j < k → has x j ≡ false) → opens a x k ≡ true
  unfolding opens
  opens_of zero l f = absurd (not-suc-le-zero l)
  opens_of (suc k) l f =
      ⊎_elim (λ q. or_left _ (eq-eqb k a (sym q)))
      (λ q. or_right (eqb k a) (both (opens_of k q (λ j i m. f j i (le_trans m (le-suc k)))) (ap not (f k q (le_refl (suc k))))))
      (eq-or-lt_of_le (le_of_suc-le-suc l))

  opens_not : (k : ℕ) → k ≤ a → opens a x k ≡ false
  opens_not k l = ⊎_elim (λ e. let q : a < k = opens_above k e in absurd (omega arith)) (λ e. e) (cases (opens a x k))

  -- the digits after the subtraction
  turned : ℕ → Bool
  turned k = differs (has x k) (opens a x k)

  -- up to a nothing is borrowed, and there 2 ^ (a + 1)
  first : up_to (suc a) turned + 2 ^ suc a ≡ up_to (suc a) (has x) + flag (opens a x (suc a)) * 2 ^ suc a
  unfolding opens turned
  first =
      ap₂ (λ (s t : ℕ). s + t)
      (up_to_cong (suc a) turned (has x) (λ k l. ap (differs (has x k)) (opens_not k (le_of_suc-le-suc l)) ∙ differs_none (has x k)))
      (sym (one-mul (2 ^ suc a)) ∙ ap (λ (t : Bool). flag t * 2 ^ suc a) (sym (or_left _ (eq-eqb a a refl))))

  -- then digit by digit: what is borrowed from the digit n is 2 ^ n
  next : (n : ℕ) (e h o : Bool) → e ≡ false → up_to n turned + 2 ^ suc a ≡ up_to n (has x) + flag o * 2 ^ n
      → flag (differs h o) * 2 ^ n + up_to n turned + 2 ^ suc a ≡ flag h * 2 ^ n + up_to n (has x) + flag (e or (o and not h)) * 2 ^ suc n
  unfolding ◌and◌ ◌or◌
  next n true h o f i = absurd (false≢true (sym f))
  next n false true true f i = omega (arith, pow-suc 2 n)
  next n false true false f i = omega (arith, pow-suc 2 n)
  next n false false true f i = omega (arith, pow-suc 2 n)
  next n false false false f i = omega (arith, pow-suc 2 n)

  borrowed : (n : ℕ) → a < n → up_to n turned + 2 ^ suc a ≡ up_to n (has x) + flag (opens a x n) * 2 ^ n
  unfolding opens up_to turned
  borrowed zero l = absurd (not-suc-le-zero l)
  borrowed (suc n) l =
      ⊎_elim (λ e. subst (λ (m : ℕ). up_to (suc m) turned + 2 ^ suc a ≡ up_to (suc m) (has x) + flag (opens a x (suc m)) * 2 ^ suc m) e first)
      (λ h. next n (eqb n a) (has x n) (opens a x n) (ne_eqb n a (λ e. omega arith)) (borrowed n h)) (eq-or-lt_of_le (le_of_suc-le-suc l))

-- the difference, past the top or not
wrapped : (x y l o r : ℕ) → x < 2 ^ 64 → l < 2 ^ 64 → r < 2 ^ 64 → l + y ≡ x + o * 2 ^ 64 → (r + y % 2 ^ 64) % 2 ^ 64 ≡ x → r ≡ l
wrapped x y l o r hx hl hr e f = omega arith

twice : (h o : Bool) → differs (differs h o) h ≡ o
twice true true = refl
twice true false = refl
twice false true = refl
twice false false = refl

module _ (a x r : ℕ) (in_board : a < 64) (fits : x < 2 ^ 64) (r_fits : r < 2 ^ 64) (back : (r + only a * 2 ^ 1 % 2 ^ 64) % 2 ^ 64 ≡ x) where
  less_is : r ≡ set_of (turned a x)
  less_is =
      wrapped x (2 ^ suc a) (set_of (turned a x)) (flag (opens a x 64)) r fits (up_to_lt 64 (turned a x)) r_fits
      (borrowed a x 64 in_board ∙ ap (λ (s : ℕ). s + flag (opens a x 64) * 2 ^ 64) (up_to_has 64 x fits))
      (ap (λ (y : ℕ). (r + y % 2 ^ 64) % 2 ^ 64) (pow-suc 2 a ∙ ap (λ (s : ℕ). s * 2) (sym (only_is in_board))) ∙ back)

  pub above_is : bit_xor r x ≡ set_of (opens a x)
  unfolding turned
  above_is =
      is_up_to 64 (bit_xor r x) (opens a x) (xor_lt 64 r x r_fits fits)
      (λ k l. has_xor r x k ∙ ap (λ (t : Bool). differs t (has x k)) (ap (λ (s : ℕ). has s k) less_is ∙ has_set_of (turned a x) k l)
      ∙ twice (has x k) (opens a x k))
