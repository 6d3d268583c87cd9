-- The least member of a set, `trailing_zeros`, and a set with a member taken out: what a loop over the members goes by. At any width.
use mathlib.Core.Path.{◌≡◌, refl, sym, ap, ap₂, ◌∙◌, subst}
use mathlib.Core.Bool.{Bool, true, false, not}
use Prim.Native.Nat.{ℕ, zero, suc, ◌+◌, ◌-◌, ◌*◌, ◌/◌, ◌%◌, ◌^◌, ◌<◌, suc-le-suc}
use native.Mathlib.Nat.{le_of_suc-le-suc, not-suc-le-zero, zero-lt-suc, lt_irrefl, lt_of_le_of_lt, lt-suc_self, mod-lt, add-zero, one-mul}
use native.Mathlib.Omega.{arith}
use native.Mathlib.Numerals.{add-one}
use lib.Dec.{eqb}
use lib.Count.{count_trailing_zeros, under}
use lib.Arith.{lt-one}
use lib.Pow.{pow_pos, pow-lt, shr_lt}
use lib.Bits.{bit_and, bit_xor, and_le_l, and_le_r, xor_add_and}
use borrow.Author.Tests.{eqb-true, eq-eqb, ne_eqb, lt-ltb}
use Rattle.squares.specs.Tests.{◌and◌}
use Rattle.squares.specs.Squares.{has, flag, up_to, set_of, only, count_to, besides}
use Rattle.squares.proofs.Testing.{and_true, and_false}
use Rattle.squares.proofs.Digits.{two_pos, differs, has_and, has_xor, has_first, has_half, has_single}
use Rattle.squares.proofs.Comprehension.{up_to_cong, up_to_none, is_up_to, has_up_to, has_set_of, has_not, member_below, up_to_lt}
use Rattle.squares.proofs.Counting.{count_cong, count_out}

-- k is the least member of s
pub record Least (s k : ℕ) : Type 0 where
  pub member : has s k ≡ true
  pub least : (j : ℕ) → j < k → has s j ≡ false

-- k is the least member of s, or 64 where s has none
pub record LeastOr64 (s k : ℕ) : Type 0 where
  pub none : s ≡ 0 → k ≡ 64
  pub some : 0 < s → (k < 64) × Least s k

pub least_member : (n s : ℕ) → 0 < s → s < 2 ^ n → (count_trailing_zeros n s < n) × Least s (count_trailing_zeros n s)
unfolding count_trailing_zeros
least_member zero s p h = absurd (lt_irrefl 0 (subst (λ (x : ℕ). 0 < x) (lt-one h) p))
least_member (suc n) s p h =
    go (s % 2) refl (mod-lt s two_pos) (λ q. least_member n (s / 2) q (shr_lt n 1 (subst (λ (x : ℕ). s < 2 ^ x) (sym (add-one n)) h)))
  where
    t : ℕ
    t = count_trailing_zeros n (s / 2)

    odd_is : (d : ℕ) → s % 2 ≡ d → has s 0 ≡ eqb d 1
    odd_is d e = has_first s ∙ ap (λ (x : ℕ). eqb x 1) e

    under_none : s % 2 ≡ 0 → ((j : ℕ) → j < t → has (s / 2) j ≡ false) → (j : ℕ) → j < suc t → has s j ≡ false
    under_none e l zero q = odd_is 0 e
    under_none e l (suc j) q = sym (has_half s j) ∙ l j (le_of_suc-le-suc q)

    go : (d : ℕ) → s % 2 ≡ d → d < 2 → (0 < s / 2 → (t < n) × Least (s / 2) t) → (under d t < suc n) × Least s (under d t)
    go zero e q ih =
        let r : (t < n) × Least (s / 2) t = ih (omega arith) in (
          suc-le-suc r.0,
          record { member = sym (has_half s t) ∙ r.1.member; least = under_none e r.1.least },
        )
    go (suc zero) e q ih = (zero-lt-suc n, record { member = odd_is 1 e; least = λ j l. absurd (not-suc-le-zero l) })
    go (suc (suc d)) e q ih = absurd (not-suc-le-zero (le_of_suc-le-suc (le_of_suc-le-suc q)))

pub least_or_64 : (s : ℕ) → s < 2 ^ 64 → LeastOr64 s (count_trailing_zeros 64 s)
unfolding count_trailing_zeros
least_or_64 s h = record { none = λ e. ap (count_trailing_zeros 64) e ∙ none_in_zero; some = λ p. least_member 64 s p h }
  where
    none_in_zero : count_trailing_zeros 64 0 ≡ 64
    none_in_zero = refl

differs_false : (a : Bool) → differs a false ≡ a
differs_false true = refl
differs_false false = refl

has_taken : (s k j : ℕ) → has s k ≡ true → has (bit_xor s (2 ^ k)) j ≡ besides s k j
unfolding ◌and◌
has_taken s k j m =
    has_xor s (2 ^ k) j ∙ ap (differs (has s j)) (has_single k j) ∙ go (eqb j k) refl
  where
    go : (t : Bool) → eqb j k ≡ t → differs (has s j) t ≡ (has s j and not t)
    go true e = let q : has s j ≡ true = ap (has s) (eqb-true j k e) ∙ m in ap (λ (u : Bool). differs u true) q ∙ ap (λ (u : Bool). u and false) (sym q)
    go false e = differs_false (has s j) ∙ sym (and_true (has s j))

-- `s & (1 << k)`
and_single : (s k : ℕ) → bit_and s (2 ^ k) ≡ flag (has s k) * 2 ^ k
unfolding up_to
and_single s k =
    is_up_to (suc k) (bit_and s (2 ^ k)) (λ j. has s j and eqb j k) (lt_of_le_of_lt (and_le_r s (2 ^ k)) (pow-lt (lt-suc_self k)))
    (λ j l. has_and s (2 ^ k) j ∙ ap (λ (t : Bool). has s j and t) (has_single k j))
    ∙ ap₂ (λ (t : Bool) (r : ℕ). flag t * 2 ^ k + r)
    (ap (λ (t : Bool). has s k and t) (eq-eqb k k refl) ∙ and_true (has s k))
    (up_to_cong k (λ j. has s j and eqb j k) (λ j. false) (λ j l. ap (λ (t : Bool). has s j and t) (ne_eqb j k (λ e. omega arith)) ∙ and_false (has s j)) ∙ up_to_none k)
    ∙ add-zero (flag (has s k) * 2 ^ k)

-- a member taken out
module _ (n s k : ℕ) (fits : s < 2 ^ n) (m : has s k ≡ true) where
  taken : up_to n (besides s k) + 2 ^ k ≡ s
  taken =
      let e : bit_and s (2 ^ k) ≡ 2 ^ k = and_single s k ∙ ap (λ (t : Bool). flag t * 2 ^ k) m ∙ one-mul (2 ^ k) in
      let x : bit_xor s (2 ^ k) + 2 ^ k ≡ s = omega (arith, xor_add_and s (2 ^ k)) in
      let less : bit_xor s (2 ^ k) < 2 ^ n = omega (arith, pow_pos k) in
      let same : bit_xor s (2 ^ k) ≡ up_to n (besides s k) = is_up_to n (bit_xor s (2 ^ k)) (besides s k) less (λ j l. has_taken s k j m) in
      omega arith

  -- the set falls, as a number
  pub without_less : up_to n (besides s k) < s
  without_less = omega (arith, taken, pow_pos k)

  -- one member fewer
  pub without_count : count_to n (has s) ≡ suc (count_to n (has (up_to n (besides s k))))
  unfolding ◌and◌
  without_count =
      count_out n (has s) k (member_below k fits m) m
      ∙ ap suc (count_cong n (besides s k) (has (up_to n (besides s k)))
      (λ j l. sym (has_up_to n (besides s k) j ∙ ap (λ (t : Bool). t and besides s k j) (lt-ltb j n l))))

-- `s & !bit(k)`
pub without_is : (s k : ℕ) → s < 2 ^ 64 → bit_and s ((2 ^ 64 - 1) - only k) ≡ set_of (besides s k)
unfolding ◌and◌
without_is s k h =
    is_up_to 64 (bit_and s ((2 ^ 64 - 1) - only k)) (besides s k) (lt_of_le_of_lt (and_le_l s ((2 ^ 64 - 1) - only k)) h)
    (λ j l. has_and s ((2 ^ 64 - 1) - only k) j
    ∙ ap (λ (t : Bool). has s j and t)
    (has_not 64 (only k) j (up_to_lt 64 (λ i. eqb i k))
    ∙ ap₂ (λ (t u : Bool). t and not u) (lt-ltb j 64 l) (has_set_of (λ i. eqb i k) j l)))
