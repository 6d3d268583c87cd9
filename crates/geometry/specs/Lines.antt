-- Ranks, files and diagonals, and the squares between two squares. Everything here computes on numerals.
use Rattle.std.specs.Prelude.{Bool, not, List, ◌≡◌, ℕ, ◌+◌, ◌-◌, ◌*◌, ◌<◌, eqb, ltb, length, get_or}
use Rattle.squares.specs.Tests.{◌and◌, ◌or◌}
use Rattle.squares.specs.Squares.{file, rank, has, set_of, every_square}

-- how far two coordinates are apart; two squares, by files and by ranks
abbrev pub apart : ℕ → ℕ → ℕ
apart a b = (a - b) + (b - a)

abbrev pub files : ℕ → ℕ → ℕ
files a b = apart (file a) (file b)

abbrev pub ranks : ℕ → ℕ → ℕ
ranks a b = apart (rank a) (rank b)

unfoldable pub same_rank : ℕ → ℕ → Bool
same_rank a b = eqb (rank a) (rank b)

unfoldable pub same_file : ℕ → ℕ → Bool
same_file a b = eqb (file a) (file b)

unfoldable pub same_diagonal : ℕ → ℕ → Bool
same_diagonal a b = eqb (files a b) (ranks a b)

-- two different squares on a rank or a file; on a diagonal; on any of the three
unfoldable pub straight : ℕ → ℕ → Bool
straight a b = not (eqb a b) and (same_rank a b or same_file a b)

unfoldable pub diagonal : ℕ → ℕ → Bool
diagonal a b = not (eqb a b) and same_diagonal a b

abbrev pub aligned : ℕ → ℕ → Bool
aligned a b = straight a b or diagonal a b

-- a number k lies strictly between a and b
abbrev pub inside : ℕ → ℕ → ℕ → Bool
inside a b k = (ltb a k and ltb k b) or (ltb b k and ltb k a)

-- "the squares strictly between two squares. It is empty when they don't share a rank, file or diagonal":
-- k stands with a and b on a rank, and between them there; or on a file; or on a diagonal
unfoldable pub between : ℕ → ℕ → ℕ → Bool
between a b k =
    (same_rank a b and same_rank a k and inside (file a) (file b) (file k))
    or (same_file a b and same_file a k and inside (rank a) (rank b) (rank k))
    or (same_diagonal a b and same_diagonal a k and inside (file a) (file b) (file k) and inside (rank a) (rank b) (rank k))

unfoldable pub between_of : ℕ → ℕ → ℕ
between_of a b = set_of (between a b)

-- "The line of two different aligned squares is the whole line, edge to edge; otherwise empty": k stands with a and b on
-- a rank, a file or a diagonal
unfoldable pub line : ℕ → ℕ → ℕ → Bool
line a b k =
    not (eqb a b)
    and ((same_rank a b and same_rank a k) or (same_file a b and same_file a k) or (same_diagonal a b and same_diagonal a k and same_diagonal b k))

-- the square k is outside the set occ
abbrev pub free : ℕ → ℕ → Bool
free occ k = not (has occ k)

-- every square strictly between a and b passes the test `free`
unfoldable pub clear : (ℕ → Bool) → ℕ → ℕ → Bool
clear free a b = every_square (λ k. not (between a b k) or free k)

-- "A constant table of 4,096 sets gives the squares strictly between two squares": those between a and b at 64 a + b
pub record IsBetween (t : List ℕ) : Type 0 where
  pub long : length t ≡ 4096
  pub entry : (a b : ℕ) → a < 64 → b < 64 → get_or t (a * 64 + b) 0 ≡ between_of a b
