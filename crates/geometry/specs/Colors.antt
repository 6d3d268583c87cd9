-- The colours, and the board as each of them sees it.
use Rattle.std.specs.Prelude.{Bool, true, false, ℕ, ◌+◌, ◌-◌, ◌%◌}
use Rattle.squares.specs.Squares.{rank, over_one, under_one}
use Rattle.geometry.specs.declared.Color.{Color}
use Rattle.geometry.specs.declared.Color.TheVariants.{White, Black}

-- the other colour
abbrev pub opp : Color → Color
opp White = Black
opp Black = White

abbrev pub is_white : Color → Bool
is_white White = true
is_white Black = false

-- the rank that the colour c counts as n: its home rank is 0, its second rank 1, its last rank 7
abbrev pub own_rank : Color → ℕ → ℕ
own_rank White n = n
own_rank Black n = 7 - n

-- the rank of a square as the colour c counts it
abbrev pub rank_for : Color → ℕ → ℕ
rank_for White k = rank k
rank_for Black k = 7 - rank k

-- the square of c's home rank on the file f
abbrev pub home_square : Color → ℕ → ℕ
home_square White f = f
home_square Black f = 56 + f

-- the square one rank nearer to c's home
abbrev pub behind : Color → ℕ → ℕ
behind White k = k - 8
behind Black k = k + 8

-- the same round the edge: from c's home rank to its last
unfoldable pub back_of : Color → ℕ → ℕ
back_of c k = behind c (k + 64) % 64

-- a member of s stands one rank behind k, as c sees it
abbrev pub ahead_of_one : Color → ℕ → ℕ → Bool
ahead_of_one White s k = over_one s k
ahead_of_one Black s k = under_one s k
