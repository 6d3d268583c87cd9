-- What any cursor has still to give, as the loops that walk one need it.
use Rattle.std.specs.Prelude.{Bool, true, false, List, [], ◌∷◌, ◌++◌, map, ℕ, zero, suc, ◌-◌, get_or}
use Rattle.squares.specs.Members.{members, concat, numbers_from}
use Rattle.laws.specs.declared.ChessRetraction.{ChessRetraction}
use Rattle.retraction_list.specs.declared.SourceAndTargets.{SourceAndTargets}
use Rattle.retraction_list.specs.Entries.{no_entry}
use Rattle.retraction_gen.specs.declared.RetractionGen.{RetractionGen}
use Rattle.retraction_gen.specs.Cursors.{is_un_en_passant, un_en_passant_to, uncaptured_to}
use Rattle.retraction_gen.specs.Sequence.{allowed}

-- an entry's part, uncaptured from u on at its first target; what uncaptured is after it
unfoldable pub listed : (ℕ → ChessRetraction) → (ℕ → ℕ → ChessRetraction) → (ℕ → Bool) → Bool → ℕ → List ℕ → List ChessRetraction
listed once each ok true u ts = concat (λ t. once t ∷ []) ts
listed once each ok false u [] = []
listed once each ok false u (t ∷ ts) = map (each t) (numbers_from ok u (6 - u)) ++ concat (λ k. map (each k) (numbers_from ok 0 6)) ts

unfoldable pub later : Bool → ℕ → List ℕ → ℕ
later true u ts = u
later false u [] = u
later false u (t ∷ ts) = 0

unfoldable pub rest_in : List ℕ → ℕ → List SourceAndTargets → List ChessRetraction
rest_in ms u [] = []
rest_in ms u (e ∷ es) =
    listed (un_en_passant_to e) (uncaptured_to e) (allowed ms e) (is_un_en_passant e.kind) u (members e.targets)
    ++ rest_in ms (later (is_un_en_passant e.kind) u (members e.targets)) es

-- the n entries from place i on
unfoldable pub window_of : ℕ → ℕ → List SourceAndTargets → List SourceAndTargets
window_of zero i es = []
window_of (suc n) i es = get_or es i no_entry ∷ window_of n (suc i) es

unfoldable pub rest_of : RetractionGen → List ChessRetraction
rest_of g = rest_in g.masks g.uncaptured (window_of (g.len - g.index) g.index g.entries)
