-- The whole sequence of the iterator: "Entries in order, targets from the lowest square, then uncaptured 0 to 5, filtered by
-- `uncaptured_candidates`; un-en-passant passes that filter by."
use Rattle.std.specs.Prelude.{◌≡◌, Bool, not, cond, List, [], ◌∷◌, ◌++◌, map, ℕ, get_or}
use Rattle.squares.specs.Members.{numbers_from, members, concat}
use Rattle.laws.specs.declared.ChessRetraction.{ChessRetraction}
use Rattle.board.specs.declared.RetractableBoard.{RetractableBoard}
use Rattle.retraction_list.specs.declared.SourceAndTargets.{SourceAndTargets}
use Rattle.retraction_gen.specs.declared.RetractionGen.{RetractionGen}
use Rattle.retraction_gen.specs.Making.{list_on, masks_on}
use Rattle.retraction_gen.specs.Cursors.{retraction_said, end_said, is_un_en_passant, barred, un_en_passant_to, uncaptured_to, next_of}

-- the kind and the masks allow an uncapture
abbrev pub allowed : List ℕ → SourceAndTargets → ℕ → Bool
allowed ms e u = not (barred (get_or ms u 0) e.source e.kind u)

-- what one target of an entry gives
abbrev pub at_target : List ℕ → SourceAndTargets → ℕ → List ChessRetraction
at_target ms e t = cond (is_un_en_passant e.kind) (un_en_passant_to e t ∷ []) (map (uncaptured_to e t) (numbers_from (allowed ms e) 0 6))

-- entries in order, targets from the lowest
unfoldable pub sequence_of : List ℕ → List SourceAndTargets → List ChessRetraction
sequence_of ms [] = []
sequence_of ms (e ∷ es) = concat (at_target ms e) (members e.targets) ++ sequence_of ms es

-- the sequence of a board
unfoldable pub sequence_on : RetractableBoard → List ChessRetraction
sequence_on b = sequence_of (masks_on b) (list_on b)

-- the cursor yields these retractions, call after call, and then the end
unfoldable pub Yields : RetractionGen → List ChessRetraction → Type 0
Yields g [] = (next_of g).said ≡ end_said
Yields g (r ∷ rs) = ((next_of g).said ≡ retraction_said r) × Yields (next_of g).cursor rs
