-- The two diagonals of a square apart. Everything here computes on numerals.
use Rattle.std.specs.Prelude.{ℕ, ◌+◌, ◌-◌, ◌*◌, ◌/◌, ◌%◌, ◌^◌, Bool, cond, ◌==◌, nat_lt}
use Rattle.squares.specs.Squares.{file, rank}

-- two squares on a diagonal that rises to the right, and on one that falls
abbrev pub rising : ℕ → ℕ → Bool
rising a b = file a + rank b == file b + rank a

abbrev pub falling : ℕ → ℕ → Bool
falling a b = file a + rank a == file b + rank b

-- the set s moved up by some ranks and down by others, a rank being eight binary digits
abbrev pub ranked : ℕ → ℕ → ℕ → ℕ
ranked s up down = cond (nat_lt up down) (s / 2 ^ ((down - up) * 8)) (s * 2 ^ ((up - down) * 8) % 2 ^ 64)
