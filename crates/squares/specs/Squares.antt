-- Squares and sets of squares. A set is a number below 2 ^ 64, and the square k is a member where binary digit k is 1.
-- Everything here computes on numerals.
use Rattle.std.specs.Prelude.{Bool, true, false, not, ℕ, zero, suc, ◌+◌, ◌*◌, ◌/◌, ◌%◌, ◌^◌, ◌-◌, eqb, leb, ltb}
use Rattle.squares.specs.Tests.{◌and◌, ◌or◌}

-- "A square number is 8 times the rank plus the file, a1 = 0, h8 = 63": its file and its rank, both from 0
abbrev pub file : ℕ → ℕ
file k = k % 8

abbrev pub rank : ℕ → ℕ
rank k = k / 8

-- the number is odd
abbrev pub odd : ℕ → Bool
odd n = eqb (n % 2) 1

-- the square k is a member of the set s
unfoldable pub has : ℕ → ℕ → Bool
has s k = odd (s / 2 ^ k)

-- 1 where the test passes, else 0
abbrev pub flag : Bool → ℕ
flag true = 1
flag false = 0

-- the set of the squares below n that pass the test p
unfoldable pub up_to : ℕ → (ℕ → Bool) → ℕ
up_to zero p = 0
up_to (suc n) p = flag (p n) * 2 ^ n + up_to n p

-- the set of the squares that pass the test p
abbrev pub set_of : (ℕ → Bool) → ℕ
set_of p = up_to 64 p

-- the set of the square k alone; the empty set where k is above 63
abbrev pub only : ℕ → ℕ
only k = set_of (λ j. eqb j k)

-- how many numbers below n pass the test p
unfoldable pub count_to : ℕ → (ℕ → Bool) → ℕ
count_to zero p = 0
count_to (suc n) p = flag (p n) + count_to n p

-- how many squares pass the test p
abbrev pub how_many : (ℕ → Bool) → ℕ
how_many p = count_to 64 p

-- how many members the set s has
abbrev pub size : ℕ → ℕ
size s = how_many (has s)

-- every number below n passes the test p; some number below n does
unfoldable pub all_to : ℕ → (ℕ → Bool) → Bool
all_to zero p = true
all_to (suc n) p = p n and all_to n p

unfoldable pub any_to : ℕ → (ℕ → Bool) → Bool
any_to zero p = false
any_to (suc n) p = p n or any_to n p

abbrev pub every_square : (ℕ → Bool) → Bool
every_square p = all_to 64 p

abbrev pub some_square : (ℕ → Bool) → Bool
some_square p = any_to 64 p

-- the square k passes the test of some member of s
unfoldable pub united : (ℕ → ℕ → Bool) → ℕ → ℕ → Bool
united f s k = some_square (λ a. has s a and f a k)

-- the square k is a member of s other than j
abbrev pub besides : ℕ → ℕ → ℕ → Bool
besides s j k = has s k and not (eqb k j)

-- a member of s stands one rank below k; one rank above; on the next file of its rank to the right; to the left
abbrev pub over_one : ℕ → ℕ → Bool
over_one s k = leb 8 k and has s (k - 8)

abbrev pub under_one : ℕ → ℕ → Bool
under_one s k = has s (k + 8)

abbrev pub left_of_one : ℕ → ℕ → Bool
left_of_one s k = ltb (file k) 7 and has s (k + 1)

abbrev pub right_of_one : ℕ → ℕ → Bool
right_of_one s k = leb 1 (file k) and has s (k - 1)
