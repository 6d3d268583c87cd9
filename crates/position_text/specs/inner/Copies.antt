-- A text copied into a lent slice, and compared with one.
use Rattle.std.specs.Prelude.{◌≡◌, Bool, true, false, List, [], ◌∷◌, ℕ, Result, Ok, Err}
use Rattle.refusal.specs.declared.Refusal.TheVariants.{Room as room}
use Rattle.refusal.specs.Refusals.{number_of}
use Rattle.refusal.specs.Said.{Said, says, told}

-- how many bytes were written; "ROOM also returns the number of .. bytes needed"
abbrev pub copied_says : Result ℕ ℕ → Said
copied_says (Ok n) = told (n ∷ [])
copied_says (Err n) = says (number_of room) (n ∷ [])

-- the answer b says whether the two texts are the same
abbrev pub SameAs : List ℕ → List ℕ → Bool → Type 0
SameAs s t true = s ≡ t
SameAs s t false = s ≡ t → ⊥
