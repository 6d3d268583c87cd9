-- Sets grouped otherwise, a single square that meets a set, and a set that meets all squares.
use mathlib.Core.Path.{◌≡◌, refl, sym, ap, ap₂, ◌∙◌}
use mathlib.Core.Bool.{Bool, true, false, not, true≢false}
use Prim.Native.Nat.{ℕ, zero, suc, ◌+◌, ◌^◌, ◌<◌}
use native.Mathlib.Nat.{lt_of_le_of_lt, zero-lt-suc, two-pow-succ, mod-eq_of_lt}
use native.Mathlib.Omega.{arith}
use lib.Dec.{eqb}
use lib.Bits.{bit_and, bit_or, and_le_l, and_le_r, and_mask, or_lt}
use borrow.Author.Tests.{eq-eqb, ne_eqb, eqb-true}
use Rattle.squares.specs.Tests.{◌and◌, ◌or◌}
use Rattle.squares.specs.Squares.{has, only}
use Rattle.squares.specs.Members.{all_squares}
use Rattle.squares.proofs.Digits.{has_and, has_or, has_zero}
use Rattle.squares.proofs.Comprehension.{ext, empty, has_set_of, up_to_lt}
use Rattle.squares.proofs.Testing.{both, and_group}

-- every number is a set of some width
fits : (n : ℕ) → n < 2 ^ n
fits zero = zero-lt-suc 0
fits (suc n) = omega (arith, fits n, two-pow-succ n)

pub and_assoc : (a b c : ℕ) → bit_and (bit_and a b) c ≡ bit_and a (bit_and b c)
and_assoc a b c =
    ext a (bit_and (bit_and a b) c) (bit_and a (bit_and b c))
    (lt_of_le_of_lt (and_le_l (bit_and a b) c) (lt_of_le_of_lt (and_le_l a b) (fits a)))
    (lt_of_le_of_lt (and_le_l a (bit_and b c)) (fits a))
    (λ k l. has_and (bit_and a b) c k ∙ ap (λ (t : Bool). t and has c k) (has_and a b k) ∙ and_group (has a k) (has b k) (has c k)
    ∙ sym (has_and a (bit_and b c) k ∙ ap (λ (t : Bool). has a k and t) (has_and b c k)))

or_group : (a b c : Bool) → ((a or b) or c) ≡ (a or (b or c))
unfolding ◌or◌
or_group true b c = refl
or_group false b c = refl

pub or_assoc : (a b c : ℕ) → bit_or (bit_or a b) c ≡ bit_or a (bit_or b c)
or_assoc a b c =
    ext n (bit_or (bit_or a b) c) (bit_or a (bit_or b c)) (or_lt n (bit_or a b) c (or_lt n a b ha hb) hc) (or_lt n a (bit_or b c) ha (or_lt n b c hb hc))
    (λ k l. has_or (bit_or a b) c k ∙ ap (λ (t : Bool). t or has c k) (has_or a b k) ∙ or_group (has a k) (has b k) (has c k)
    ∙ sym (has_or a (bit_or b c) k ∙ ap (λ (t : Bool). has a k or t) (has_or b c k)))
  where
    n : ℕ
    n = a + b + c

    ha : a < 2 ^ n
    ha = omega (arith, fits n)

    hb : b < 2 ^ n
    hb = omega (arith, fits n)

    hc : c < 2 ^ n
    hc = omega (arith, fits n)

over_or : (a b c : Bool) → ((a or b) and c) ≡ ((a and c) or (b and c))
unfolding ◌and◌ ◌or◌
over_or true true true = refl
over_or true true false = refl
over_or true false true = refl
over_or true false false = refl
over_or false b c = refl

pub and_or : (a b c : ℕ) → bit_and (bit_or a b) c ≡ bit_or (bit_and a c) (bit_and b c)
and_or a b c =
    ext c (bit_and (bit_or a b) c) (bit_or (bit_and a c) (bit_and b c)) (lt_of_le_of_lt (and_le_r (bit_or a b) c) (fits c))
    (or_lt c (bit_and a c) (bit_and b c) (lt_of_le_of_lt (and_le_r a c) (fits c)) (lt_of_le_of_lt (and_le_r b c) (fits c)))
    (λ k l. has_and (bit_or a b) c k ∙ ap (λ (t : Bool). t and has c k) (has_or a b k) ∙ over_or (has a k) (has b k) (has c k)
    ∙ sym (has_or (bit_and a c) (bit_and b c) k ∙ ap₂ ◌or◌ (has_and a c k) (has_and b c k)))

-- `s & !EMPTY`
pub and_all : (s : ℕ) → s < 2 ^ 64 → bit_and s all_squares ≡ s
and_all s h = and_mask s 64 ∙ mod-eq_of_lt h

-- `BitBoard::from_square(k) & s == EMPTY`
pub meets_none : (k s : ℕ) → k < 64 → eqb (bit_and (only k) s) 0 ≡ not (has s k)
unfolding ◌and◌
meets_none k s l = go (has s k) refl
  where
    at : (j : ℕ) → j < 64 → has (bit_and (only k) s) j ≡ (eqb j k and has s j)
    at j m = has_and (only k) s j ∙ ap (λ (t : Bool). t and has s j) (has_set_of (λ i. eqb i k) j m)

    go : (t : Bool) → has s k ≡ t → eqb (bit_and (only k) s) 0 ≡ not t
    go true e =
        ne_eqb (bit_and (only k) s) 0
        (λ z. true≢false (sym (at k l ∙ both (eq-eqb k k refl) e) ∙ ap (λ (x : ℕ). has x k) z ∙ has_zero k))
    go false e = eq-eqb (bit_and (only k) s) 0 (empty 64 (bit_and (only k) s) fit (λ j m. at j m ∙ none j (eqb j k) refl))
      where
        fit : bit_and (only k) s < 2 ^ 64
        fit = lt_of_le_of_lt (and_le_l (only k) s) (up_to_lt 64 (λ i. eqb i k))

        none : (j : ℕ) (t : Bool) → eqb j k ≡ t → (t and has s j) ≡ false
        none j true q = ap (has s) (eqb-true j k q) ∙ e
        none j false q = refl
