-- The members of a set of numbers below 6, and how many members a set has.
use mathlib.Core.Path.{◌≡◌, refl, sym, ap, ap₂, ◌∙◌}
use mathlib.Core.Logic.{◌⊎◌, inl, inr}
use mathlib.Core.Bool.{Bool, true, false, cond}
use mathlib.Core.List.{List, [], ◌∷◌, ◌++◌, append-nil}
use Prim.Native.Nat.{ℕ, zero, suc, ◌+◌, ◌≤◌, ◌<◌}
use native.Mathlib.Nat.{le_refl, le-suc, le_trans}
use native.Mathlib.Omega.{arith}
use lib.Dec.{lit≤}
use lib.ListN.{length, length-append}
use borrow.Author.Tests.{lt-ltb}
use Rattle.squares.specs.Tests.{◌and◌}
use Rattle.squares.specs.Squares.{has, flag, up_to, count_to, size}
use Rattle.squares.specs.Members.{list_to, members, numbers_from}
use Rattle.squares.proofs.Testing.{order}
use Rattle.squares.proofs.Digits.{has_above}
use Rattle.squares.proofs.Comprehension.{up_to_lt, has_up_to}

-- one number more at the end
numbers_more : (n i j : ℕ) (p : ℕ → Bool) → j ≡ i + n → numbers_from p i (suc n) ≡ numbers_from p i n ++ cond (p j) (j ∷ []) []
numbers_more zero i j p e = go (p i) ∙ ap (λ (k : ℕ). cond (p k) (k ∷ []) []) (let f : i ≡ j = omega arith in f)
  where
    go : (t : Bool) → elim t as (λ _. List ℕ) [ true ↦ i ∷ [] | false ↦ [] ] ≡ cond t (i ∷ []) []
    go true = refl
    go false = refl
numbers_more (suc n) i j p e = go (p i) (numbers_more n (suc i) j p (omega arith))
  where
    go : (t : Bool) → numbers_from p (suc i) (suc n) ≡ numbers_from p (suc i) n ++ cond (p j) (j ∷ []) []
        → elim t as (λ _. List ℕ) [ true ↦ i ∷ numbers_from p (suc i) (suc n) | false ↦ numbers_from p (suc i) (suc n) ]
        ≡ elim t as (λ _. List ℕ) [ true ↦ i ∷ numbers_from p (suc i) n | false ↦ numbers_from p (suc i) n ] ++ cond (p j) (j ∷ []) []
    go true h = ap (λ (l : List ℕ). i ∷ l) h
    go false h = h

list_numbers : (n : ℕ) (p : ℕ → Bool) → list_to n p ≡ numbers_from p 0 n
unfolding list_to
list_numbers zero p = refl
list_numbers (suc n) p = ap (λ (l : List ℕ). l ++ cond (p n) (n ∷ []) []) (list_numbers n p) ∙ sym (numbers_more n 0 n p (omega arith))

list_cong : (n : ℕ) (p q : ℕ → Bool) → ((k : ℕ) → k < n → p k ≡ q k) → list_to n p ≡ list_to n q
unfolding list_to
list_cong zero p q h = refl
list_cong (suc n) p q h =
    ap₂ (λ (l : List ℕ) (t : Bool). l ++ cond t (n ∷ []) []) (list_cong n p q (λ k l. h k (le_trans l (le-suc n)))) (h n (le_refl (suc n)))

-- where none from n on passes, those below n are all
list_below : (m n : ℕ) (p : ℕ → Bool) → n ≤ m → ((k : ℕ) → n ≤ k → p k ≡ false) → list_to m p ≡ list_to n p
unfolding list_to
list_below zero n p l h = ap (λ (k : ℕ). list_to k p) (let e : 0 ≡ n = omega arith in e)
list_below (suc m) n p l h = go (λ q. list_below m n p q h) (order m n)
  where
    go : (n ≤ m → list_to m p ≡ list_to n p) → (m < n) ⊎ (n ≤ m) → list_to (suc m) p ≡ list_to n p
    go before (inl q) = ap (λ (k : ℕ). list_to k p) (let e : suc m ≡ n = omega arith in e)
    go before (inr q) = ap (λ (t : Bool). list_to m p ++ cond t (m ∷ []) []) (h m q) ∙ append-nil (list_to m p) ∙ before q

pub members_below : (p : ℕ → Bool) → members (up_to 6 p) ≡ numbers_from p 0 6
unfolding members ◌and◌
members_below p =
    list_below 64 6 (has (up_to 6 p)) (lit≤ tt) (λ k h. has_above k (up_to_lt 6 p) h)
    ∙ list_cong 6 (has (up_to 6 p)) p (λ k l. has_up_to 6 p k ∙ ap (λ (t : Bool). t and p k) (lt-ltb k 6 l)) ∙ list_numbers 6 p

count_length : (n : ℕ) (p : ℕ → Bool) → count_to n p ≡ length (list_to n p)
unfolding count_to list_to
count_length zero p = refl
count_length (suc n) p = go (p n) (count_length n p)
  where
    go : (t : Bool) → count_to n p ≡ length (list_to n p) → flag t + count_to n p ≡ length (list_to n p ++ cond t (n ∷ []) [])
    go true h = omega (arith, length-append (list_to n p) (n ∷ []))
    go false h = omega (arith, length-append {A = ℕ} (list_to n p) [])

pub size_members : (s : ℕ) → size s ≡ length (members s)
unfolding members
size_members s = count_length 64 (has s)
