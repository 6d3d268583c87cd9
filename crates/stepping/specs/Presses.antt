-- A press of a record in which a cursor is kept, and presses one after the other.
use Rattle.std.specs.Prelude.{◌≡◌, List, [], ◌∷◌, ℕ, zero, suc, Option, None, Some}
use Rattle.laws.specs.declared.ChessRetraction.{ChessRetraction}
use Rattle.retraction_gen.specs.declared.RetractionGen.{RetractionGen}
use Rattle.retraction_gen.specs.Cursors.{Steps}

-- "Each press yields what the present one yields, and the record is afterwards what the present one would hand back": the record held g, the
-- press yields a, and the record then holds h
abbrev pub Press : RetractionGen → Option ChessRetraction → RetractionGen → Type 0
Press g a h = Steps g (record { cursor = h; next = a })

-- from the record g, press after press, these are yielded, and the record is then k
unfoldable pub Presses : RetractionGen → List (Option ChessRetraction) → RetractionGen → Type 0
Presses g [] k = k ≡ g
Presses g (a ∷ xs) k = (h : RetractionGen) × Press g a h × Presses h xs k

-- n answers: the retractions of a list in order, and then the end again and again
unfoldable pub answers_of : ℕ → List ChessRetraction → List (Option ChessRetraction)
answers_of zero l = []
answers_of (suc n) [] = None ∷ answers_of n []
answers_of (suc n) (r ∷ rs) = Some r ∷ answers_of n rs
