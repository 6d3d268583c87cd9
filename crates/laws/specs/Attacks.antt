-- Which squares a man attacks, by the Laws (3.2 to 3.8), and what a board works out from its men: checkers and pins.
use Rattle.std.specs.Prelude.{Bool, false, not, ℕ, eqb}
use Rattle.squares.specs.Tests.{◌and◌, ◌or◌}
use Rattle.squares.specs.Squares.{set_of, every_square, some_square}
use Rattle.geometry.specs.declared.Color.{Color}
use Rattle.geometry.specs.Colors.{opp}
use Rattle.geometry.specs.Lines.{between, straight, diagonal, aligned}
use Rattle.geometry.specs.Steps.{knight_step, king_step, pawn_takes, reaches}
use Rattle.laws.specs.declared.Piece.TheVariants.{Pawn, Knight, Bishop, Rook, Queen, King}
use Rattle.laws.specs.Men.{Man, empty, man, Men, same_man, is_empty, is_of, bare}

-- the man on the square a attacks the square b: a bishop, rook or queen along its lines, "not over any intervening pieces"
abbrev pub attacks : Men → Man → ℕ → ℕ → Bool
attacks m empty a b = false
attacks m (man c Pawn) a b = pawn_takes c a b
attacks m (man c Knight) a b = knight_step a b
attacks m (man c Bishop) a b = reaches diagonal (bare m) a b
attacks m (man c Rook) a b = reaches straight (bare m) a b
attacks m (man c Queen) a b = reaches aligned (bare m) a b
attacks m (man c King) a b = king_step a b

-- a man of the colour c on a attacks the square b; some man of c does
abbrev pub attacks_from : Men → Color → ℕ → ℕ → Bool
attacks_from m c b a = is_of c (m a) and attacks m (m a) a b

abbrev pub attacked : Men → Color → ℕ → Bool
attacked m c b = some_square (attacks_from m c b)

-- the squares of c's men that attack b
unfoldable pub attackers_of : Men → Color → ℕ → ℕ
attackers_of m c b = set_of (attacks_from m c b)

-- "Checkers: men of the retractor, its king left out, that attack the king of the side to move" (c)
abbrev pub checks : Men → Color → ℕ → Bool
checks m c k =
    is_of (opp c) (m k) and not (same_man (m k) (man (opp c) King)) and some_square (λ q. same_man (m q) (man c King) and attacks m (m k) k q)

-- the lines that a man moves along
abbrev pub slides : Man → ℕ → ℕ → Bool
slides empty a b = false
slides (man c Pawn) a b = false
slides (man c Knight) a b = false
slides (man c Bishop) a b = diagonal a b
slides (man c Rook) a b = straight a b
slides (man c Queen) a b = aligned a b
slides (man c King) a b = false

-- a man on k stands alone between a and q
abbrev pub alone : Men → ℕ → ℕ → ℕ → Bool
alone m a q k = not (is_empty (m k)) and between a q k and every_square (λ j. not (between a q j) or eqb j k or is_empty (m j))

-- "Pins: each man, of either colour, that stands alone between that king and a retractor's bishop, rook or queen on a line that it moves along"
abbrev pub pinned : Men → Color → ℕ → Bool
pinned m c k = some_square (λ q. same_man (m q) (man c King) and some_square (λ a. is_of (opp c) (m a) and slides (m a) a q and alone m a q k))

-- 7: "union, checkers or pins" of the men, as sets
abbrev pub union_of : Men → ℕ
union_of m = set_of (λ k. not (is_empty (m k)))

abbrev pub checkers_of : Men → Color → ℕ
checkers_of m c = set_of (checks m c)

abbrev pub pins_of : Men → Color → ℕ
pins_of m c = set_of (pinned m c)
