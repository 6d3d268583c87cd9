-- The members of a set as a list, and its lowest member.
use mathlib.Core.Path.{◌≡◌, refl, sym, ap, ap₂, ◌∙◌, subst}
use mathlib.Core.Logic.{◌⊎◌, inl, inr, ⊎_elim}
use mathlib.Core.Bool.{Bool, true, false, not, cond}
use mathlib.Core.List.{List, [], ◌∷◌, ◌++◌, append_assoc}
use Prim.Native.Nat.{ℕ, zero, suc, ◌^◌, ◌<◌, ◌≤◌}
use native.Mathlib.Nat.{le_refl, le-suc, le_trans, not-suc-le-zero}
use native.Mathlib.Omega.{arith}
use lib.Count.{count_trailing_zeros}
use borrow.Author.Tests.{eq-eqb, ne_eqb}
use Rattle.squares.specs.Tests.{◌and◌}
use Rattle.squares.specs.Squares.{has, set_of, besides}
use Rattle.squares.specs.Members.{list_to, members, head_or, lowest_of, first_of, concat}
use Rattle.squares.proofs.Testing.{order, and_true, and_false}
use Rattle.squares.proofs.Digits.{has_zero}
use Rattle.squares.proofs.Comprehension.{has_set_of}
use Rattle.squares.proofs.LeastMember.{LeastOr64, least_or_64}

-- no number passes: the empty list
list_none : (n : ℕ) (p : ℕ → Bool) → ((k : ℕ) → k < n → p k ≡ false) → list_to n p ≡ []
unfolding list_to
list_none zero p h = refl
list_none (suc n) p h =
    ap₂ (λ (xs : List ℕ) (t : Bool). xs ++ cond t (n ∷ []) []) (list_none n p (λ k l. h k (le_trans l (le-suc n)))) (h n (le_refl (suc n)))

-- the least number that passes comes first, and then those that pass apart from it
list_least : (n : ℕ) (p q : ℕ → Bool) (k : ℕ) → k < n → p k ≡ true → ((j : ℕ) → j < k → p j ≡ false) → q k ≡ false
    → ((j : ℕ) → j < n → (j ≡ k → ⊥) → p j ≡ q j) → list_to n p ≡ k ∷ list_to n q
unfolding list_to
list_least zero p q k l m none out same = absurd (not-suc-le-zero l)
list_least (suc n) p q k l m none out same = go (list_least n p q k) (order k n)
  where
    go : (k < n → p k ≡ true → ((j : ℕ) → j < k → p j ≡ false) → q k ≡ false → ((j : ℕ) → j < n → (j ≡ k → ⊥) → p j ≡ q j) → list_to n p ≡ k ∷ list_to n q)
        → (k < n) ⊎ (n ≤ k) → list_to (suc n) p ≡ k ∷ list_to (suc n) q
    go before (inl h) =
        ap₂ (λ (xs : List ℕ) (t : Bool). xs ++ cond t (n ∷ []) [])
        (before h m none out (λ j i d. same j (le_trans i (le-suc n)) d)) (same n (le_refl (suc n)) (λ e. omega arith))
    go before (inr h) =
        let e : k ≡ n = omega arith in
        ap₂ (λ (xs : List ℕ) (t : Bool). xs ++ cond t (n ∷ []) []) (list_none n p (λ j i. none j (omega arith))) (subst (λ (x : ℕ). p x ≡ true) e m)
        ∙ ap (λ (x : ℕ). x ∷ []) (sym e)
        ∙ ap (λ (xs : List ℕ). k ∷ xs)
        (sym (ap₂ (λ (xs : List ℕ) (t : Bool). xs ++ cond t (n ∷ []) [])
        (list_none n q (λ j i. sym (same j (le_trans i (le-suc n)) (λ f. omega arith)) ∙ none j (omega arith))) (subst (λ (x : ℕ). q x ≡ false) e out)))

pub members_none : members 0 ≡ []
unfolding members
members_none = list_none 64 (has 0) (λ k l. has_zero k)

-- a turn of the loop takes one member
pub members_next : (s k : ℕ) → 0 < s → LeastOr64 s k → members s ≡ k ∷ members (set_of (besides s k))
unfolding members
members_next s k p m =
    let h = m.some p in
    list_least 64 (has s) (has (set_of (besides s k))) k h.0 h.1.member h.1.least
    (has_set_of (besides s k) k h.0 ∙ ap (λ (t : Bool). has s k and not t) (eq-eqb k k refl) ∙ and_false (has s k))
    (λ j l d. sym (has_set_of (besides s k) j l ∙ ap (λ (t : Bool). has s j and not t) (ne_eqb j k d) ∙ and_true (has s j)))

-- the lowest of the members is the least one, or 64
pub lowest_is : (s k : ℕ) → LeastOr64 s k → k ≡ lowest_of s
unfolding lowest_of
lowest_is s k m = ⊎_elim some none (order 0 s)
  where
    some : 0 < s → k ≡ head_or 64 (members s)
    some p = sym (ap (head_or 64) (members_next s k p m))

    none : s ≤ 0 → k ≡ head_or 64 (members s)
    none p =
        let e : s ≡ 0 = omega arith in
        m.none e ∙ sym (ap (λ (x : ℕ). head_or 64 (members x)) e ∙ ap (head_or 64) members_none)

pub least_of : {s k : ℕ} → s < 2 ^ 64 → k ≡ lowest_of s → LeastOr64 s k
least_of {s} h e = subst (LeastOr64 s) (lowest_is s (count_trailing_zeros 64 s) (least_or_64 s h) ∙ sym e) (least_or_64 s h)

-- that of a set with members is a square
pub lowest_lt : {s k : ℕ} → s < 2 ^ 64 → (s ≡ 0 → ⊥) → k ≡ lowest_of s → k < 64
lowest_lt h p e = ((least_of h e).some (omega arith)).0

-- `to_square` gives a square, whatever the set
pub first_lt : (s : ℕ) → first_of s < 64
unfolding first_of
first_lt s = omega arith

-- what is collected from two lists of members, one behind the other
pub concat_both : {A : Type 0} (f : ℕ → List A) (xs ys : List ℕ) → concat f (xs ++ ys) ≡ concat f xs ++ concat f ys
unfolding concat
concat_both f [] ys = refl
concat_both {A} f (x ∷ xs) ys = ap (λ (l : List A). f x ++ l) (concat_both f xs ys) ∙ sym (append_assoc (f x) (concat f xs) (concat f ys))
