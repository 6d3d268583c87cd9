-- How the histories of a board are searched.
use Rattle.std.specs.Prelude.{◌≡◌, List, ◌∷◌, ℕ, ◌<◌, length}
use Rattle.laws.specs.declared.ChessRetraction.{ChessRetraction}
use Rattle.laws.specs.StrictLists.{place}
use Rattle.board.specs.declared.RetractableBoard.{RetractableBoard}
use Rattle.chains.specs.Chains.{Chain}

-- no history of n plies has its latest at a place below i
abbrev pub NoneBelow : ℕ → RetractableBoard → ℕ → Type 0
NoneBelow n b i = (r : ChessRetraction) (l : List ChessRetraction) → place r < i → length (r ∷ l) ≡ n → Chain (r ∷ l) b → ⊥
