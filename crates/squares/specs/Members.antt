-- The members of a set in order, what a loop over them does, and the Rust's `!s` and `to_square`. Everything here computes on numerals.
use Rattle.std.specs.Prelude.{Bool, true, false, cond, List, [], ◌∷◌, ◌++◌, ℕ, zero, suc, ◌-◌, ◌%◌}
use Rattle.squares.specs.Squares.{has}

-- `!s`: every square outside s; `!EMPTY`: all squares
abbrev pub compl : ℕ → ℕ
compl s = 18446744073709551615 - s

abbrev pub all_squares : ℕ
all_squares = 18446744073709551615

-- the numbers below n that pass the test p, in ascending order
unfoldable pub list_to : ℕ → (ℕ → Bool) → List ℕ
list_to zero p = []
list_to (suc n) p = list_to n p ++ cond (p n) (n ∷ []) []

-- the n numbers from i on that pass the test p, in ascending order; what is left out is not computed
abbrev pub numbers_from : (ℕ → Bool) → ℕ → ℕ → List ℕ
numbers_from p i zero = []
numbers_from p i (suc n) = elim (p i) [ true ↦ i ∷ numbers_from p (suc i) n | false ↦ numbers_from p (suc i) n ]

-- the members of a set, in ascending order
unfoldable pub members : ℕ → List ℕ
members s = list_to 64 (has s)

abbrev pub head_or : ℕ → List ℕ → ℕ
head_or d [] = d
head_or d (k ∷ ks) = k

-- the lowest member; 64 of the empty set
unfoldable pub lowest_of : ℕ → ℕ
lowest_of s = head_or 64 (members s)

-- `s.to_square()`: the same, but a1 of the empty set
unfoldable pub first_of : ℕ → ℕ
first_of s = lowest_of s % 64

-- `for k in s { x = f(x, k); }`, over the members in order
unfoldable pub for_each : {A : Type 0} → (A → ℕ → A) → A → List ℕ → A
for_each f x [] = x
for_each f x (k ∷ ks) = for_each f (f x k) ks

-- what a loop over the members appends, one after the other
unfoldable pub concat : {A : Type 0} → (ℕ → List A) → List ℕ → List A
concat f [] = []
concat f (k ∷ ks) = f k ++ concat f ks
