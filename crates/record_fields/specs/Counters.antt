-- The two counters of a record: which bytes are one, in the request's words, and how large they may be.
use Rattle.std.specs.Prelude.{Bool, true, false, List, [], ◌∷◌, ℕ, leb, ltb}
use Rattle.squares.specs.Tests.{◌and◌}

abbrev pub is_digit : ℕ → Bool
is_digit b = leb 48 b and leb b 57

-- every byte is a digit
unfoldable pub all_digits : List ℕ → Bool
all_digits [] = true
all_digits (b ∷ t) = is_digit b and all_digits t

-- "Counters are digits without leading zeros": one digit or more, and of several the first is not `0`
unfoldable pub is_counter : List ℕ → Bool
is_counter [] = false
is_counter (b ∷ []) = is_digit b
is_counter (b ∷ c ∷ t) = (ltb 48 b and leb b 57) and all_digits (c ∷ t)

-- "0 to 9,999 and 1 to 9,999"
abbrev pub in_range : ℕ → ℕ → Bool
in_range h n = leb h 9999 and leb 1 n and leb n 9999
