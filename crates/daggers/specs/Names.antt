-- Texts, squares and retractions as document 01 writes them.
use Rattle.std.specs.Prelude.{Bool, false, List, [], ◌∷◌, ℕ, ◌+◌, ◌-◌, ◌*◌, eqb, get_or}
use Prim.Native.Char.{code}
use Prim.Native.String.{String, [] as end, ◌∷◌ as ◌then◌}
use Rattle.squares.specs.Tests.{◌or◌}
use Rattle.laws.specs.declared.ChessRetraction.{ChessRetraction}

-- the bytes of a text: the codes of its characters
abbrev pub bytes : String → List ℕ
bytes end = []
bytes (c then s) = code c ∷ bytes s

-- the square of a name, as "e4": "8 times the rank plus the file, a1 = 0, h8 = 63"
abbrev pub square : String → ℕ
square s = 8 * (get_or (bytes s) 1 0 - code "1") + (get_or (bytes s) 0 0 - code "a")

-- the square k is one of those named
abbrev pub named : List String → ℕ → Bool
named [] k = false
named (s ∷ ss) k = eqb k (square s) or named ss k

-- from the source s (today) to the target t (earlier), the man with the number u uncaptured, unmarked
abbrev pub back : String → String → ℕ → ChessRetraction
back s t u = record { source = square s; target = square t; uncaptured = u; unpromotion = false }
