-- A table's rule, at all of its entries, by one test that computes over the whole list.
use mathlib.Core.Path.{◌≡◌, ◌∙◌, subst, sym}
use mathlib.Core.Bool.{Bool, true}
use mathlib.Core.List.{List, [], ◌∷◌}
use Prim.Native.Nat.{ℕ, zero, suc, ◌+◌, ◌<◌}
use native.Mathlib.Nat.{add-zero, zero-add, add-suc, suc-add, le_of_suc-le-suc, not-suc-le-zero}
use lib.Dec.{eqb}
use lib.ListN.{length, get_or}
use borrow.Author.Tests.{eqb-true}
use Rattle.squares.specs.Tests.{◌and◌}
use Rattle.squares.proofs.Testing.{left, right}

-- each entry of the list is g of its place, counted from i
abbrev pub follows_from : (ℕ → ℕ) → ℕ → List ℕ → Bool
follows_from g i [] = true
follows_from g i (x ∷ xs) = eqb x (g i) and follows_from g (suc i) xs

abbrev pub follows : (ℕ → ℕ) → List ℕ → Bool
follows g xs = follows_from g 0 xs

entry_from : (g : ℕ → ℕ) (xs : List ℕ) (i : ℕ) → follows_from g i xs ≡ true → (k : ℕ) → k < length xs → get_or xs k 0 ≡ g (i + k)
entry_from g [] i t k h = absurd (not-suc-le-zero h)
entry_from g (x ∷ xs) i t zero h = subst (λ (m : ℕ). x ≡ g m) (sym (add-zero i)) (eqb-true x (g i) (left _ _ t))
entry_from g (x ∷ xs) i t (suc k) h =
    subst (λ (m : ℕ). get_or xs k 0 ≡ g m) (suc-add i k ∙ sym (add-suc i k)) (entry_from g xs (suc i) (right _ _ t) k (le_of_suc-le-suc h))

pub entry : (g : ℕ → ℕ) (xs : List ℕ) (k : ℕ) → follows g xs ≡ true → k < length xs → get_or xs k 0 ≡ g k
entry g xs k t h = subst (λ (m : ℕ). get_or xs k 0 ≡ g m) (zero-add k) (entry_from g xs 0 t k h)
