-- The problems of a volume whose rows have boards.
use Rattle.std.specs.Prelude.{List, [], ◌∷◌, ℕ, suc}
use Rattle.laws.specs.declared.Position.{Position}
use Rattle.volume_contents.specs.Contents.{row_at}
use Rattle.volume_make.specs.Volumes.{Problem}

-- from the row i on: its number, and its board
unfoldable pub problems_from : List ℕ → ℕ → List Position → List Problem
problems_from v i [] = []
problems_from v i (p ∷ ps) = record { number = (row_at v i).number; board = p } ∷ problems_from v (suc i) ps

abbrev pub problems_of : List ℕ → List Position → List Problem
problems_of v ps = problems_from v 0 ps
