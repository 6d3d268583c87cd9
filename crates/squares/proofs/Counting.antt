-- Counts of squares, and `count_ones`. At any width.
use mathlib.Core.Path.{◌≡◌, refl, sym, ap, ap₂, ◌∙◌, subst}
use mathlib.Core.Logic.{◌⊎◌, inl, inr, ⊎_elim}
use mathlib.Core.Bool.{Bool, true, false, not}
use Prim.Native.Nat.{ℕ, zero, suc, ◌+◌, ◌/◌, ◌%◌, ◌^◌, ◌≤◌, ◌<◌, zero-le}
use native.Mathlib.Nat.{le_refl, le_trans, le-suc, le_of_suc-le-suc, not-suc-le-zero, lt_irrefl, eq-or-lt_of_le, mod-mod, mod-lt, add_left_comm}
use native.Mathlib.Omega.{arith}
use native.Mathlib.Numerals.{add-one}
use lib.Dec.{eqb}
use lib.Count.{ones, ones_step, ones-ones}
use lib.Arith.{lt-one}
use lib.Pow.{shr_lt}
use borrow.Author.Tests.{eq-eqb, ne_eqb}
use Rattle.squares.specs.Tests.{◌and◌}
use Rattle.squares.specs.Squares.{odd, has, flag, count_to}
use Rattle.squares.proofs.Testing.{and_true, and_false}
use Rattle.squares.proofs.Digits.{two_pos, has_first, has_half}
use Rattle.squares.proofs.Comprehension.{flag_lt, flag_odd}

pub count_cong : (n : ℕ) (p q : ℕ → Bool) → ((k : ℕ) → k < n → p k ≡ q k) → count_to n p ≡ count_to n q
unfolding count_to
count_cong zero p q h = refl
count_cong (suc n) p q h = ap₂ (λ (t : Bool) (r : ℕ). flag t + r) (h n (le_refl (suc n))) (count_cong n p q (λ k l. h k (le_trans l (le-suc n))))

count_first : (n : ℕ) (p : ℕ → Bool) → count_to (suc n) p ≡ flag (p 0) + count_to n (λ k. p (suc k))
unfolding count_to
count_first zero p = refl
count_first (suc n) p =
    ap (λ (x : ℕ). flag (p (suc n)) + x) (count_first n p) ∙ add_left_comm (flag (p (suc n))) (flag (p 0)) (count_to n (λ k. p (suc k)))

ones_zero : ones 0 ≡ 0
ones_zero = ones-ones 0

flag_mod : (s : ℕ) → flag (odd s) ≡ s % 2
flag_mod s = ap (λ (x : ℕ). flag (eqb x 1)) (sym (mod-mod s 2)) ∙ flag_odd (s % 2) (mod-lt s two_pos)

-- `count_ones`
pub ones_count : (n s : ℕ) → s < 2 ^ n → ones s ≡ count_to n (has s)
unfolding count_to
ones_count zero s h = ap ones (lt-one h) ∙ ones_zero
ones_count (suc n) s h =
    ones_step s
    ∙ ap₂ (λ (x y : ℕ). x + y)
    (sym (flag_mod s) ∙ ap flag (sym (has_first s)))
    (ones_count n (s / 2) (shr_lt n 1 (subst (λ (x : ℕ). s < 2 ^ x) (sym (add-one n)) h)) ∙ count_cong n (has (s / 2)) (λ k. has s (suc k)) (λ k l. has_half s k))
    ∙ sym (count_first n (has s))

-- one fewer
pub count_out : (n : ℕ) (p : ℕ → Bool) (k : ℕ) → k < n → p k ≡ true → count_to n p ≡ suc (count_to n (λ j. p j and not (eqb j k)))
unfolding count_to
count_out zero p k h m = absurd (not-suc-le-zero h)
count_out (suc n) p k h m = go (λ l. count_out n p k l m) (eq-or-lt_of_le (le_of_suc-le-suc h))
  where
    q : ℕ → Bool
    q j = p j and not (eqb j k)

    same : (j : ℕ) → (j ≡ k → ⊥) → p j ≡ q j
    same j f = sym (ap (λ (t : Bool). p j and not t) (ne_eqb j k f) ∙ and_true (p j))

    go : (k < n → count_to n p ≡ suc (count_to n q)) → (k ≡ n) ⊎ (k < n) → flag (p n) + count_to n p ≡ suc (flag (q n) + count_to n q)
    go ih (inl e) =
        let a : flag (p n) ≡ 1 = ap flag (ap p (sym e) ∙ m) in
        let b : flag (q n) ≡ 0 = ap flag (ap (λ (t : Bool). p n and not t) (eq-eqb n k (sym e)) ∙ and_false (p n)) in
        let r : count_to n p ≡ count_to n q = count_cong n p q (λ j l. same j (λ x. omega arith)) in
        omega arith
    go ih (inr l) =
        let a : flag (p n) ≡ flag (q n) = ap flag (same n (λ x. omega arith)) in
        let r : count_to n p ≡ suc (count_to n q) = ih l in
        omega arith

-- no member
pub count_le : (n : ℕ) (p : ℕ → Bool) → count_to n p ≤ n
unfolding count_to
count_le zero p = zero-le
count_le (suc n) p = omega (arith, count_le n p, flag_lt (p n))

pub count_none : (n : ℕ) (p : ℕ → Bool) → count_to n p ≡ 0 → (k : ℕ) → k < n → p k ≡ false
unfolding count_to
count_none zero p e k l = absurd (not-suc-le-zero l)
count_none (suc n) p e k l =
    ⊎_elim (λ q. ap p q ∙ flag_none (p n) (omega arith)) (λ q. count_none n p (omega arith) k q) (eq-or-lt_of_le (le_of_suc-le-suc l))
  where
    flag_none : (t : Bool) → flag t ≡ 0 → t ≡ false
    flag_none true h = absurd (lt_irrefl 0 (subst (λ (x : ℕ). 0 < x) h (le_refl 1)))
    flag_none false h = refl

pub count_empty : (n : ℕ) (p : ℕ → Bool) → ((k : ℕ) → k < n → p k ≡ false) → count_to n p ≡ 0
unfolding count_to
count_empty zero p h = refl
count_empty (suc n) p h = ap₂ (λ (t : Bool) (r : ℕ). flag t + r) (h n (le_refl (suc n))) (count_empty n p (λ k l. h k (le_trans l (le-suc n))))
