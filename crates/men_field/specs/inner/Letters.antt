-- Reading letters, leniently. Nobody has to believe this file: what the reader of a text answers is said by the printer's form alone.
use Rattle.std.specs.Prelude.{Bool, cond, List, ℕ, ◌+◌, ◌-◌, ◌*◌, ◌/◌, ◌%◌, eqb, leb, ltb, get_or}
use Rattle.squares.specs.Tests.{◌and◌}
use Rattle.squares.specs.Squares.{file, rank}
use Rattle.laws.specs.Men.{Man, empty, man_of, Men}

-- the number (`manNumber`) of a letter's man, 0 for a byte that is none
unfoldable pub number_by_letter : ℕ → ℕ
number_by_letter b =
    cond (eqb b 80) 2 (cond (eqb b 112) 3 (cond (eqb b 78) 4 (cond (eqb b 110) 5 (cond (eqb b 66) 6 (cond (eqb b 98) 7
    (cond (eqb b 82) 8 (cond (eqb b 114) 9 (cond (eqb b 81) 10 (cond (eqb b 113) 11 (cond (eqb b 75) 12 (cond (eqb b 107) 13 0)))))))))))

-- how many squares a byte stands for
unfoldable pub width_of : ℕ → ℕ
width_of b = cond (ltb b 49) 0 (cond (leb b 56) (b - 48) 1)

-- the place of a square in the text's order, from a8
unfoldable pub place_of : ℕ → ℕ
place_of k = 8 * (7 - rank k) + file k

-- the man of a number; a number above 13 is taken round
unfoldable pub man_by_number : ℕ → Man
man_by_number n = man_of (n % 14)

-- the men of 64 numbers in the text's order
unfoldable pub men_by_numbers : List ℕ → Men
men_by_numbers l k = cond (ltb k 64) (man_by_number (get_or l (place_of k) 0)) empty

-- whether the man of the number n belongs to the set w: 0 to 5 the kinds, 6 White and 7 Black
unfoldable pub belongs : ℕ → ℕ → Bool
belongs w n = cond (ltb w 6) (eqb (n % 14 / 2) (w + 1)) (leb 2 (n % 14) and eqb (n % 14 % 2 + 6) w)
