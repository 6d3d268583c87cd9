-- Membership in what the machine's operations make, digit by digit, at any width.
use mathlib.Core.Path.{◌≡◌, refl, sym, ap, ap₂, ◌∙◌, subst}
use mathlib.Core.Logic.{⊎_elim}
use mathlib.Core.Bool.{Bool, true, false, not}
use Prim.Native.Nat.{ℕ, zero, suc, ◌+◌, ◌-◌, ◌*◌, ◌/◌, ◌%◌, ◌^◌, ◌≤◌, ◌<◌}
use native.Mathlib.Nat.{lt_of_lt_of_le, lt-suc_self, le_of_suc-le-suc, not-suc-le-zero, zero-lt-suc, mod-lt, mod-eq_of_lt, div-eq_of_lt, zero-div, div-one, add-sub_of_le, eq-or-lt_of_le, add-zero, one-mul}
use native.Mathlib.Omega.{arith}
use native.Mathlib.Numerals.{one-add}
use lib.Dec.{eqb, ltb, leb}
use lib.Pow.{pow_pos, pow_mono, pow-lt, shr-shr, high, low, field, mod-mod-pow}
use lib.Bits.{bit_and, bit_or, bit_xor, and_shr, or_shr, xor_shr, and_mod, or_mod, xor_mod}
use borrow.Author.Tests.{lt-ltb, le-ltb, le-leb, lt-leb, eq-eqb, ne_eqb}
use Rattle.squares.specs.Tests.{◌and◌, ◌or◌}
use Rattle.squares.specs.Squares.{odd, has}
use Rattle.squares.proofs.Testing.{order}

pub two_pos : zero < 2
two_pos = zero-lt-suc 1

-- one law for the three operations, over the operation and its action on two flags
module _ (op : ℕ → ℕ → ℕ) (g : Bool → Bool → Bool)
    (op_shr : (a b k : ℕ) → op a b / 2 ^ k ≡ op (a / 2 ^ k) (b / 2 ^ k))
    (op_mod : (a b k : ℕ) → op a b % 2 ^ k ≡ op (a % 2 ^ k) (b % 2 ^ k))
    (on_digits : (x y : ℕ) → x < 2 → y < 2 → eqb (op x y) 1 ≡ g (eqb x 1) (eqb y 1)) where
  odd_op : (a b : ℕ) → odd (op a b) ≡ g (odd a) (odd b)
  odd_op a b = ap (λ (x : ℕ). eqb x 1) (op_mod a b 1) ∙ on_digits (a % 2) (b % 2) (mod-lt a two_pos) (mod-lt b two_pos)

  has_op : (a b k : ℕ) → has (op a b) k ≡ g (has a k) (has b k)
  unfolding has
  has_op a b k = ap odd (op_shr a b k) ∙ odd_op (a / 2 ^ k) (b / 2 ^ k)

-- a fact about two digits, from its four cases
digits2 : (P : ℕ → ℕ → Type 0) → P 0 0 → P 0 1 → P 1 0 → P 1 1 → (x y : ℕ) → x < 2 → y < 2 → P x y
digits2 P a b c d zero zero h k = a
digits2 P a b c d zero (suc zero) h k = b
digits2 P a b c d (suc zero) zero h k = c
digits2 P a b c d (suc zero) (suc zero) h k = d
digits2 P a b c d zero (suc (suc y)) h k = absurd (not-suc-le-zero (le_of_suc-le-suc (le_of_suc-le-suc k)))
digits2 P a b c d (suc zero) (suc (suc y)) h k = absurd (not-suc-le-zero (le_of_suc-le-suc (le_of_suc-le-suc k)))
digits2 P a b c d (suc (suc x)) y h k = absurd (not-suc-le-zero (le_of_suc-le-suc (le_of_suc-le-suc h)))

-- exactly one of two
abbrev pub differs : Bool → Bool → Bool
differs true b = not b
differs false b = b

pub has_and : (a b k : ℕ) → has (bit_and a b) k ≡ (has a k and has b k)
unfolding ◌and◌
has_and = has_op bit_and ◌and◌ and_shr and_mod (digits2 (λ (x y : ℕ). eqb (bit_and x y) 1 ≡ (eqb x 1 and eqb y 1)) refl refl refl refl)

pub has_or : (a b k : ℕ) → has (bit_or a b) k ≡ (has a k or has b k)
unfolding ◌or◌
has_or = has_op bit_or ◌or◌ or_shr or_mod (digits2 (λ (x y : ℕ). eqb (bit_or x y) 1 ≡ (eqb x 1 or eqb y 1)) refl refl refl refl)

pub has_xor : (a b k : ℕ) → has (bit_xor a b) k ≡ differs (has a k) (has b k)
has_xor = has_op bit_xor differs xor_shr xor_mod (digits2 (λ (x y : ℕ). eqb (bit_xor x y) 1 ≡ differs (eqb x 1) (eqb y 1)) refl refl refl refl)

pub has_zero : (k : ℕ) → has 0 k ≡ false
unfolding has
has_zero k = ap odd (zero-div (2 ^ k))

pub has_first : (s : ℕ) → has s 0 ≡ odd s
unfolding has
has_first s = ap odd (div-one s)

-- `s >> n`
pub has_shr : (s n k : ℕ) → has (s / 2 ^ n) k ≡ has s (n + k)
unfolding has
has_shr s n k = ap odd (shr-shr s n k)

pub has_half : (s k : ℕ) → has (s / 2) k ≡ has s (suc k)
has_half s k = has_shr s 1 k ∙ ap (has s) (one-add k)

-- a number of n digits has no digit from n on
pub has_above : {s n : ℕ} (k : ℕ) → s < 2 ^ n → n ≤ k → has s k ≡ false
unfolding has
has_above k h l = ap odd (div-eq_of_lt (lt_of_lt_of_le h (pow_mono l)))

-- the n low digits are kept by a remainder
has_low : (s i k : ℕ) → has (s % 2 ^ (i + 1 + k)) k ≡ has s k
unfolding has
has_low s i k = ap odd (field s (i + 1) k) ∙ ap (λ (x : ℕ). eqb x 1) (mod-mod-pow (s / 2 ^ k) i 1)

pub has_below : (s : ℕ) {n k : ℕ} → k < n → has (s % 2 ^ n) k ≡ has s k
has_below s {n} {k} h =
    let e : n - suc k + 1 + k ≡ n = omega arith in
    subst (λ (m : ℕ). has (s % 2 ^ m) k ≡ has s k) e (has_low s (n - suc k) k)

pub has_mod : (s n k : ℕ) → has (s % 2 ^ n) k ≡ (ltb k n and has s k)
unfolding ◌and◌
has_mod s n k = ⊎_elim lo hi (order k n)
  where
    lo : k < n → has (s % 2 ^ n) k ≡ (ltb k n and has s k)
    lo h = has_below s h ∙ ap (λ (t : Bool). t and has s k) (sym (lt-ltb k n h))

    hi : n ≤ k → has (s % 2 ^ n) k ≡ (ltb k n and has s k)
    hi h = has_above k (mod-lt s (pow_pos n)) h ∙ ap (λ (t : Bool). t and has s k) (sym (le-ltb k n h))

-- a number in two parts
pub has_cat_low : (a : ℕ) {n r k : ℕ} → r < 2 ^ n → k < n → has (a * 2 ^ n + r) k ≡ has r k
has_cat_low a {n} {r} {k} h l = sym (has_below (a * 2 ^ n + r) l) ∙ ap (λ (x : ℕ). has x k) (low a n h)

pub has_cat_high : (a n : ℕ) {r : ℕ} (k : ℕ) → r < 2 ^ n → has (a * 2 ^ n + r) (n + k) ≡ has a k
has_cat_high a n {r} k h = sym (has_shr (a * 2 ^ n + r) n k) ∙ ap (λ (x : ℕ). has x k) (high a n h)

pub has_shl : (s n k : ℕ) → has (s * 2 ^ n) k ≡ (leb n k and has s (k - n))
unfolding ◌and◌
has_shl s n k = ⊎_elim lo hi (order k n)
  where
    lo : k < n → has (s * 2 ^ n) k ≡ (leb n k and has s (k - n))
    lo h =
        ap (λ (x : ℕ). has x k) (sym (add-zero (s * 2 ^ n))) ∙ has_cat_low s (pow_pos n) h ∙ has_zero k
        ∙ ap (λ (t : Bool). t and has s (k - n)) (sym (lt-leb n k h))

    hi : n ≤ k → has (s * 2 ^ n) k ≡ (leb n k and has s (k - n))
    hi h =
        ap₂ has (sym (add-zero (s * 2 ^ n))) (sym (add-sub_of_le h)) ∙ has_cat_high s n (k - n) (pow_pos n)
        ∙ ap (λ (t : Bool). t and has s (k - n)) (sym (le-leb n k h))

-- `s << n` at w digits
pub has_shl_mod : (s n w k : ℕ) → has (s * 2 ^ n % 2 ^ w) k ≡ (ltb k w and (leb n k and has s (k - n)))
has_shl_mod s n w k = has_mod (s * 2 ^ n) w k ∙ ap (λ (t : Bool). ltb k w and t) (has_shl s n k)

pub has_single : (j k : ℕ) → has (2 ^ j) k ≡ eqb k j
has_single j k = ⊎_elim lo hi (order k j)
  where
    one_is : 2 ^ j ≡ 1 * 2 ^ j + 0
    one_is = sym (add-zero (1 * 2 ^ j) ∙ one-mul (2 ^ j))

    lo : k < j → has (2 ^ j) k ≡ eqb k j
    lo h = ap (λ (x : ℕ). has x k) one_is ∙ has_cat_low 1 (pow_pos j) h ∙ has_zero k ∙ sym (ne_eqb k j (λ e. omega arith))

    hi : j ≤ k → has (2 ^ j) k ≡ eqb k j
    hi h = ⊎_elim same above (eq-or-lt_of_le h)
      where
        same : j ≡ k → has (2 ^ j) k ≡ eqb k j
        same e =
            ap₂ has one_is (sym e ∙ sym (add-zero j)) ∙ has_cat_high 1 j 0 (pow_pos j) ∙ has_first 1 ∙ sym (eq-eqb k j (sym e))

        above : j < k → has (2 ^ j) k ≡ eqb k j
        above l = has_above k (pow-lt (lt-suc_self j)) l ∙ sym (ne_eqb k j (λ e. omega arith))

-- `1 << k`
pub one_shl : {k : ℕ} → k < 64 → 1 * 2 ^ k % 2 ^ 64 ≡ 2 ^ k
one_shl {k} h = ap (λ (x : ℕ). x % 2 ^ 64) (one-mul (2 ^ k)) ∙ mod-eq_of_lt (pow-lt h)
