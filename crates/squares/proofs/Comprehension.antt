-- Sets by their members: a comprehension has the squares that pass its test, and a set is determined by its members. At any width.
use mathlib.Core.Path.{◌≡◌, refl, sym, ap, ap₂, ◌∙◌, subst}
use mathlib.Core.Logic.{◌⊎◌, inl, inr, ⊎_elim}
use mathlib.Core.Bool.{Bool, true, false, not}
use Prim.Native.Nat.{ℕ, zero, suc, ◌+◌, ◌-◌, ◌*◌, ◌/◌, ◌%◌, ◌^◌, ◌≤◌, ◌<◌, zero-le}
use native.Mathlib.Nat.{le_refl, le_trans, le-suc, le_of_suc-le-suc, not-suc-le-zero, zero-lt-suc, lt_of_le_of_lt, mod-lt, eq-or-lt_of_le, mul_comm, pow-suc, add-zero, zero-mul}
use native.Mathlib.Omega.{arith}
use native.Mathlib.Numerals.{one-add}
use lib.Dec.{T, eqb, ltb}
use lib.Arith.{digits_lt, lt-one}
use lib.Pow.{pow_pos, pow-lt, shr_lt, split}
use lib.Bits.{bit_and, bit_or, and_le_l, or_lt}
use borrow.Author.Tests.{lt-ltb, le-ltb}
use Rattle.squares.specs.Tests.{◌and◌, ◌or◌}
use Rattle.squares.specs.Squares.{odd, has, flag, up_to, set_of, only}
use Rattle.squares.proofs.Testing.{order}
use Rattle.squares.proofs.Digits.{has_and, has_or, has_zero, has_above, has_below, has_cat_low, has_cat_high, has_single}

pub flag_lt : (t : Bool) → flag t < 2
flag_lt true = le_refl 2
flag_lt false = zero-lt-suc 1

pub flag_back : (t : Bool) → eqb (flag t) 1 ≡ t
flag_back true = refl
flag_back false = refl

pub up_to_lt : (n : ℕ) (p : ℕ → Bool) → up_to n p < 2 ^ n
unfolding up_to
up_to_lt zero p = zero-lt-suc zero
up_to_lt (suc n) p =
    subst (λ (x : ℕ). flag (p n) * 2 ^ n + up_to n p < x) (mul_comm 2 (2 ^ n) ∙ sym (pow-suc 2 n)) (digits_lt (flag_lt (p n)) (up_to_lt n p))

pub up_to_cong : (n : ℕ) (p q : ℕ → Bool) → ((k : ℕ) → k < n → p k ≡ q k) → up_to n p ≡ up_to n q
unfolding up_to
up_to_cong zero p q h = refl
up_to_cong (suc n) p q h =
    ap₂ (λ (t : Bool) (r : ℕ). flag t * 2 ^ n + r) (h n (le_refl (suc n))) (up_to_cong n p q (λ k l. h k (le_trans l (le-suc n))))

has_flag : (t : Bool) → has (flag t) 0 ≡ t
unfolding has
has_flag true = refl
has_flag false = refl

pub up_to_none : (n : ℕ) → up_to n (λ k. false) ≡ 0
unfolding up_to
up_to_none zero = refl
up_to_none (suc n) = ap (λ (x : ℕ). 0 * 2 ^ n + x) (up_to_none n) ∙ add-zero (0 * 2 ^ n) ∙ zero-mul (2 ^ n)

-- what stands in a comprehension
pub has_up_to : (n : ℕ) (p : ℕ → Bool) (k : ℕ) → has (up_to n p) k ≡ (ltb k n and p k)
unfolding up_to ◌and◌
has_up_to zero p k = has_zero k ∙ ap (λ (t : Bool). t and p k) (sym (le-ltb k 0 zero-le))
has_up_to (suc n) p k = step (has_up_to n p k) (order k n)
  where
    whole : ℕ
    whole = flag (p n) * 2 ^ n + up_to n p

    top : n ≡ k → has whole k ≡ (ltb k (suc n) and p k)
    top e =
        ap (has whole) (sym e ∙ sym (add-zero n)) ∙ has_cat_high (flag (p n)) n 0 (up_to_lt n p) ∙ has_flag (p n) ∙ ap p e
        ∙ ap (λ (t : Bool). t and p k) (sym (lt-ltb k (suc n) (omega arith)))

    above : n < k → has whole k ≡ (ltb k (suc n) and p k)
    above l = has_above k (up_to_lt (suc n) p) l ∙ ap (λ (t : Bool). t and p k) (sym (le-ltb k (suc n) l))

    step : has (up_to n p) k ≡ (ltb k n and p k) → (k < n) ⊎ (n ≤ k) → has whole k ≡ (ltb k (suc n) and p k)
    step ih (inl l) =
        has_cat_low (flag (p n)) (up_to_lt n p) l ∙ ih
        ∙ ap (λ (t : Bool). t and p k) (lt-ltb k n l ∙ sym (lt-ltb k (suc n) (omega arith)))
    step ih (inr l) = ⊎_elim top above (eq-or-lt_of_le l)

pub flag_odd : (x : ℕ) → x < 2 → flag (odd x) ≡ x
flag_odd zero h = refl
flag_odd (suc zero) h = refl
flag_odd (suc (suc x)) h = absurd (not-suc-le-zero (le_of_suc-le-suc (le_of_suc-le-suc h)))

-- a set is the comprehension of its members
pub up_to_has : (n s : ℕ) → s < 2 ^ n → up_to n (has s) ≡ s
unfolding up_to has
up_to_has zero s h = sym (lt-one h)
up_to_has (suc n) s h =
    ap₂ (λ (x y : ℕ). x * 2 ^ n + y)
    (flag_odd (s / 2 ^ n) (shr_lt 1 n (subst (λ (x : ℕ). s < 2 ^ x) (sym (one-add n)) h)))
    (up_to_cong n (has s) (has (s % 2 ^ n)) (λ k l. sym (has_below s l)) ∙ up_to_has n (s % 2 ^ n) (mod-lt s (pow_pos n)))
    ∙ split s n

-- a set is determined by its members
pub is_up_to : (n s : ℕ) (p : ℕ → Bool) → s < 2 ^ n → ((k : ℕ) → k < n → has s k ≡ p k) → s ≡ up_to n p
is_up_to n s p h e = sym (up_to_has n s h) ∙ up_to_cong n (has s) p e

pub ext : (n a b : ℕ) → a < 2 ^ n → b < 2 ^ n → ((k : ℕ) → k < n → has a k ≡ has b k) → a ≡ b
ext n a b ha hb e = is_up_to n a (has b) ha e ∙ up_to_has n b hb

pub empty : (n a : ℕ) → a < 2 ^ n → ((k : ℕ) → k < n → has a k ≡ false) → a ≡ 0
empty n a h e = ext n a 0 h (pow_pos n) (λ k l. e k l ∙ sym (has_zero k))

-- `a & b == 0`
pub disjoint_at : (a b : ℕ) → bit_and a b ≡ 0 → (k : ℕ) → (has a k and has b k) ≡ false
disjoint_at a b e k = sym (has_and a b k) ∙ ap (λ (x : ℕ). has x k) e ∙ has_zero k

pub disjoint : (n a b : ℕ) → a < 2 ^ n → ((k : ℕ) → k < n → (has a k and has b k) ≡ false) → bit_and a b ≡ 0
disjoint n a b h e = empty n (bit_and a b) (lt_of_le_of_lt (and_le_l a b) h) (λ k l. has_and a b k ∙ e k l)

-- `!s`
two_parts : (n : ℕ) (p : ℕ → Bool) → up_to n p + up_to n (λ k. not (p k)) + 1 ≡ 2 ^ n
unfolding up_to
two_parts zero p = refl
two_parts (suc n) p = step (p n) (two_parts n p)
  where
    step : (t : Bool) → up_to n p + up_to n (λ k. not (p k)) + 1 ≡ 2 ^ n → flag t * 2 ^ n + up_to n p + (flag (not t) * 2 ^ n + up_to n (λ k. not (p k))) + 1 ≡ 2 ^ suc n
    step true e = omega (arith, pow-suc 2 n)
    step false e = omega (arith, pow-suc 2 n)

pub not_is : (n s : ℕ) → s < 2 ^ n → (2 ^ n - 1) - s ≡ up_to n (λ k. not (has s k))
not_is n s h = omega (arith, two_parts n (has s), up_to_has n s h)

pub has_not : (n s k : ℕ) → s < 2 ^ n → has ((2 ^ n - 1) - s) k ≡ (ltb k n and not (has s k))
has_not n s k h = ap (λ (x : ℕ). has x k) (not_is n s h) ∙ has_up_to n (λ j. not (has s j)) k

-- a member of a set of squares
pub has_set_of : (p : ℕ → Bool) (k : ℕ) → k < 64 → has (set_of p) k ≡ p k
unfolding ◌and◌
has_set_of p k h = has_up_to 64 p k ∙ ap (λ (t : Bool). t and p k) (lt-ltb k 64 h)

pub member_below : {n s : ℕ} (k : ℕ) → s < 2 ^ n → has s k ≡ true → k < n
member_below {n} {s} k h m = ⊎_elim (λ l. l) (λ l. absurd (subst T (sym m ∙ has_above k h l) tt)) (order k n)

-- the set of one square
pub only_is : {k : ℕ} → k < 64 → only k ≡ 2 ^ k
only_is {k} h = sym (is_up_to 64 (2 ^ k) (λ j. eqb j k) (pow-lt h) (λ j l. has_single k j))

-- no square passes
pub set_of_none : (p : ℕ → Bool) → ((k : ℕ) → k < 64 → p k ≡ false) → 0 ≡ set_of p
set_of_none p h = sym (up_to_cong 64 p (λ k. false) h ∙ up_to_none 64)

-- `a & b` and `a | b` of sets of squares
pub and_set_of : (p q : ℕ → Bool) → bit_and (set_of p) (set_of q) ≡ set_of (λ k. p k and q k)
and_set_of p q =
    is_up_to 64 (bit_and (set_of p) (set_of q)) (λ k. p k and q k) (lt_of_le_of_lt (and_le_l (set_of p) (set_of q)) (up_to_lt 64 p))
    (λ k l. has_and (set_of p) (set_of q) k ∙ ap₂ ◌and◌ (has_set_of p k l) (has_set_of q k l))

pub or_set_of : (p q : ℕ → Bool) → bit_or (set_of p) (set_of q) ≡ set_of (λ k. p k or q k)
or_set_of p q =
    is_up_to 64 (bit_or (set_of p) (set_of q)) (λ k. p k or q k) (or_lt 64 (set_of p) (set_of q) (up_to_lt 64 p) (up_to_lt 64 q))
    (λ k l. has_or (set_of p) (set_of q) k ∙ ap₂ ◌or◌ (has_set_of p k l) (has_set_of q k l))
