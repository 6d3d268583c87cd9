-- How a line is read: leniently, since what was read is printed and compared.
use Rattle.std.specs.Prelude.{cond, List, ℕ, ◌+◌, ◌*◌, ◌%◌, eqb, get_or}
use Rattle.laws.specs.declared.ChessRetraction.{ChessRetraction}

-- a square of two bytes, the number of a letter, and the retraction of eight bytes
abbrev pub square_from : ℕ → ℕ → ℕ
square_from f r = (f % 8 + 7) % 8 + 8 * ((r % 8 + 7) % 8)

unfoldable pub letter_number : ℕ → ℕ
letter_number b = cond (eqb b 80) 1 (cond (eqb b 78) 2 (cond (eqb b 66) 3 (cond (eqb b 82) 4 (cond (eqb b 81) 5 0))))

unfoldable pub leniently : List ℕ → ChessRetraction
leniently l = record {
  source = square_from (get_or l 0 0) (get_or l 1 0);
  target = square_from (get_or l 2 0) (get_or l 3 0);
  uncaptured = letter_number (get_or l 5 0);
  unpromotion = eqb (get_or l 7 0) 61;
}
