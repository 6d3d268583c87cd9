-- The lowest member of a set, by its list: no bound on the set is asked.
use mathlib.Core.Path.{◌≡◌, refl, sym, ap, ap₂, ◌∙◌, subst}
use mathlib.Core.Logic.{◌⊎◌, inl, inr, ⊎_elim}
use mathlib.Core.Bool.{true≢false, Bool, true, false, cond}
use mathlib.Core.List.{List, [], ◌∷◌, ◌++◌}
use Prim.Native.Nat.{ℕ, zero, suc, ◌<◌, ◌≤◌}
use native.Mathlib.Nat.{eq-or-lt_of_le, le_refl, le-suc, le_trans, le_of_suc-le-suc, not-suc-le-zero}
use native.Mathlib.Omega.{arith}
use Rattle.squares.specs.Squares.{has, set_of, besides}
use Rattle.squares.specs.Members.{list_to, members, head_or, lowest_of}
use Rattle.squares.proofs.Testing.{order}
use Rattle.squares.proofs.Digits.{has_zero}
use Rattle.squares.proofs.Members.{members_next}

record First (n : ℕ) (p : ℕ → Bool) : Type 0 where
  at : ℕ
  below : at < n
  passes : p at ≡ true
  least : (j : ℕ) → j < at → p j ≡ false

none_or_first : (n : ℕ) (p : ℕ → Bool) → ((j : ℕ) → j < n → p j ≡ false) ⊎ First n p
none_or_first zero p = inl (λ j l. absurd (not-suc-le-zero l))
none_or_first (suc n) p = go (none_or_first n p) (p n) refl
  where
    go : ((j : ℕ) → j < n → p j ≡ false) ⊎ First n p → (t : Bool) → p n ≡ t → ((j : ℕ) → j < suc n → p j ≡ false) ⊎ First (suc n) p
    go (inr f) t e = inr (record { at = f.at; below = le_trans f.below (le-suc n); passes = f.passes; least = f.least })
    go (inl h) true e = inr (record { at = n; below = le_refl (suc n); passes = e; least = h })
    go (inl h) false e =
        inl (λ j l. ⊎_elim (λ q. subst (λ (x : ℕ). p x ≡ false) (sym q) e) (λ q. h j q) (eq-or-lt_of_le (le_of_suc-le-suc l)))

list_none : (n : ℕ) (p : ℕ → Bool) → ((k : ℕ) → k < n → p k ≡ false) → list_to n p ≡ []
unfolding list_to
list_none zero p h = refl
list_none (suc n) p h =
    ap₂ (λ (xs : List ℕ) (t : Bool). xs ++ cond t (n ∷ []) []) (list_none n p (λ k l. h k (le_trans l (le-suc n)))) (h n (le_refl (suc n)))

first_next : (s : ℕ) (f : First 64 (has s)) → members s ≡ f.at ∷ members (set_of (besides s f.at))
first_next s f = members_next s f.at pos (record { none = λ e. absurd (omega (arith, pos)); some = λ q. (f.below, record { member = f.passes; least = f.least }) })
  where
    pos : 0 < s
    pos =
        ⊎_elim (λ q. q) (λ q. absurd (let e : s ≡ 0 = omega arith in true≢false (sym f.passes ∙ ap (λ (x : ℕ). has x f.at) e ∙ has_zero f.at))) (order 0 s)

-- a set with a lowest square: that, and then the others
pub members_lowest : (s : ℕ) → lowest_of s < 64 → members s ≡ lowest_of s ∷ members (set_of (besides s (lowest_of s)))
unfolding lowest_of members
members_lowest s h = ⊎_elim none some (none_or_first 64 (has s))
  where
    none : ((j : ℕ) → j < 64 → has s j ≡ false) → members s ≡ lowest_of s ∷ members (set_of (besides s (lowest_of s)))
    none q = absurd (let e : lowest_of s ≡ 64 = ap (head_or 64) (list_none 64 (has s) q) in omega arith)

    some : First 64 (has s) → members s ≡ lowest_of s ∷ members (set_of (besides s (lowest_of s)))
    some f =
        subst (λ (k : ℕ). members s ≡ k ∷ members (set_of (besides s k))) (sym (ap (head_or 64) (first_next s f))) (first_next s f)

-- without one there are no members
pub members_empty : (s : ℕ) → 64 ≤ lowest_of s → members s ≡ []
unfolding lowest_of members
members_empty s h = ⊎_elim (λ q. list_none 64 (has s) q) (λ f. absurd (let e : lowest_of s ≡ f.at = ap (head_or 64) (first_next s f) in omega (arith, f.below))) (none_or_first 64 (has s))
