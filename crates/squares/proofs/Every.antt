-- Tests of every square and of some square, and facts over all squares by computing them at each: `square-eq p q refl k h`.
use mathlib.Core.Path.{◌≡◌, refl, sym, ap, ap₂, ◌∙◌, subst}
use mathlib.Core.Logic.{◌⊎◌, inl, inr, ⊎_elim}
use mathlib.Core.Bool.{Bool, true, false, not}
use Prim.Native.Nat.{ℕ, zero, suc, ◌^◌, ◌<◌}
use native.Mathlib.Nat.{le_refl, le_trans, le-suc, le_of_suc-le-suc, not-suc-le-zero, eq-or-lt_of_le}
use lib.Dec.{T, eqb}
use lib.Bits.{bit_and, and_self}
use borrow.Author.Tests.{eqb-true, eq-eqb, not-true}
use Rattle.squares.specs.Tests.{◌and◌, ◌or◌}
use Rattle.squares.specs.Squares.{has, set_of, all_to, any_to, every_square, some_square}
use Rattle.squares.proofs.Testing.{both, left, right, either, or_left, or_right, agree, agree_eq}
use Rattle.squares.proofs.Comprehension.{disjoint_at, disjoint, up_to_lt, has_set_of}

pub all_at : (n : ℕ) (p : ℕ → Bool) → all_to n p ≡ true → (k : ℕ) → k < n → p k ≡ true
unfolding all_to
all_at zero p e k l = absurd (not-suc-le-zero l)
all_at (suc n) p e k l =
    ⊎_elim (λ q. ap p q ∙ left (p n) (all_to n p) e) (λ q. all_at n p (right (p n) (all_to n p) e) k q) (eq-or-lt_of_le (le_of_suc-le-suc l))

pub all_of : (n : ℕ) (p : ℕ → Bool) → ((k : ℕ) → k < n → p k ≡ true) → all_to n p ≡ true
unfolding all_to
all_of zero p h = refl
all_of (suc n) p h = both (h n (le_refl (suc n))) (all_of n p (λ k l. h k (le_trans l (le-suc n))))

pub all_cong : (n : ℕ) (p q : ℕ → Bool) → ((k : ℕ) → k < n → p k ≡ q k) → all_to n p ≡ all_to n q
unfolding all_to
all_cong zero p q h = refl
all_cong (suc n) p q h = ap₂ ◌and◌ (h n (le_refl (suc n))) (all_cong n p q (λ k l. h k (le_trans l (le-suc n))))

-- `a & b == 0`, as a test on members that computes
pub meet_test : (n a b : ℕ) → a < 2 ^ n → eqb (bit_and a b) 0 ≡ all_to n (λ k. not (has a k and has b k))
meet_test n a b h = go (eqb (bit_and a b) 0) refl (all_to n (λ k. not (has a k and has b k))) refl
  where
    go : (t : Bool) → eqb (bit_and a b) 0 ≡ t → (u : Bool) → all_to n (λ k. not (has a k and has b k)) ≡ u → t ≡ u
    go true e true f = refl
    go false e false f = refl
    go true e false f =
        sym (all_of n (λ k. not (has a k and has b k)) (λ k l. ap not (disjoint_at a b (eqb-true (bit_and a b) 0 e) k))) ∙ f
    go false e true f =
        sym e ∙ eq-eqb (bit_and a b) 0 (disjoint n a b h (λ k l. not-true (has a k and has b k) (all_at n (λ j. not (has a j and has b j)) f k l)))

pub any_of : (n : ℕ) (p : ℕ → Bool) (k : ℕ) → k < n → p k ≡ true → any_to n p ≡ true
unfolding any_to
any_of zero p k l e = absurd (not-suc-le-zero l)
any_of (suc n) p k l e =
    ⊎_elim (λ q. or_left (any_to n p) (ap p (sym q) ∙ e)) (λ q. or_right (p n) (any_of n p k q e)) (eq-or-lt_of_le (le_of_suc-le-suc l))

pub any_at : (n : ℕ) (p : ℕ → Bool) → any_to n p ≡ true → (k : ℕ) × (k < n) × (p k ≡ true)
unfolding any_to
any_at zero p e = absurd (subst T (sym e) tt)
any_at (suc n) p e = go (λ q. any_at n p q) (either (p n) (any_to n p) e)
  where
    go : (any_to n p ≡ true → (k : ℕ) × (k < n) × (p k ≡ true)) → (p n ≡ true) ⊎ (any_to n p ≡ true) → (k : ℕ) × (k < suc n) × (p k ≡ true)
    go ih (inl q) = (n, le_refl (suc n), q)
    go ih (inr q) = let r = ih q in (r.0, le_trans r.1 (le-suc n), r.2)

pub any_cong : (n : ℕ) (p q : ℕ → Bool) → ((k : ℕ) → k < n → p k ≡ q k) → any_to n p ≡ any_to n q
unfolding any_to
any_cong zero p q h = refl
any_cong (suc n) p q h = ap₂ ◌or◌ (h n (le_refl (suc n))) (any_cong n p q (λ k l. h k (le_trans l (le-suc n))))

pub any_none : (n : ℕ) → any_to n (λ k. false) ≡ false
unfolding any_to ◌or◌
any_none zero = refl
any_none (suc n) = any_none n

-- a set is empty where no square passes the test, and has a member where one does
pub none_test : (p : ℕ → Bool) → eqb (set_of p) 0 ≡ every_square (λ a. not (p a))
unfolding ◌and◌
none_test p =
    ap (λ (s : ℕ). eqb s 0) (sym (and_self (set_of p))) ∙ meet_test 64 (set_of p) (set_of p) (up_to_lt 64 p)
    ∙ all_cong 64 (λ a. not (has (set_of p) a and has (set_of p) a)) (λ a. not (p a)) (λ a l. ap not (twice (has (set_of p) a) ∙ has_set_of p a l))
  where
    twice : (t : Bool) → (t and t) ≡ t
    twice true = refl
    twice false = refl

pub not_all : (n : ℕ) (p : ℕ → Bool) → not (all_to n (λ a. not (p a))) ≡ any_to n p
unfolding all_to any_to ◌and◌ ◌or◌
not_all zero p = refl
not_all (suc n) p = go (p n) (not_all n p)
  where
    go : (t : Bool) → not (all_to n (λ a. not (p a))) ≡ any_to n p → not (not t and all_to n (λ a. not (p a))) ≡ (t or any_to n p)
    go true e = refl
    go false e = e

pub some_test : (p : ℕ → Bool) → not (eqb (set_of p) 0) ≡ some_square p
some_test p = ap not (none_test p) ∙ not_all 64 p

-- two numbers of a number, computed at all numbers below n
pub number_law : (n : ℕ) (f g : ℕ → ℕ) → all_to n (λ k. eqb (f k) (g k)) ≡ true → (k : ℕ) → k < n → f k ≡ g k
number_law n f g e k h = eqb-true (f k) (g k) (all_at n (λ j. eqb (f j) (g j)) e k h)

-- a test computed at all squares, and at all pairs
pub square_eq : (p q : ℕ → Bool) → all_to 64 (λ k. agree (p k) (q k)) ≡ true → (k : ℕ) → k < 64 → p k ≡ q k
square_eq p q e k h = agree_eq (p k) (q k) (all_at 64 (λ j. agree (p j) (q j)) e k h)

pub pair_eq : (p q : ℕ → ℕ → Bool) → all_to 64 (λ a. all_to 64 (λ b. agree (p a b) (q a b))) ≡ true → (a b : ℕ) → a < 64 → b < 64 → p a b ≡ q a b
pair_eq p q e a b ha hb = agree_eq (p a b) (q a b) (all_at 64 (λ j. agree (p a j) (q a j)) (all_at 64 (λ i. all_to 64 (λ j. agree (p i j) (q i j))) e a ha) b hb)
