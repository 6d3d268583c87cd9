-- "This list, and the iterator's sequence when listed, go to lent 16-bit slots, packed, with the length; slots beyond keep their numbers"
use Rattle.std.specs.Prelude.{List, [], ◌∷◌, ℕ, ◌+◌, set, Err, Ok, Result}
use Rattle.laws.specs.declared.ChessRetraction.{ChessRetraction}
use Rattle.laws.specs.Retractions.{packed}
use Rattle.refusal.specs.declared.Refusal.{Refusal}
use Rattle.refusal.specs.declared.Refusal.TheVariants.{Room as room}
use Rattle.refusal.specs.Refusals.{number_of}
use Rattle.refusal.specs.Said.{Said, says, told, refusal}
use Rattle.slots.specs.declared.Unlisted.{Unlisted}
use Rattle.slots.specs.declared.Unlisted.TheVariants.{Room, Refused}

-- how many slots were written; "ROOM also returns the number of slots .. needed"; or another refusal
abbrev pub listed_says : Result ℕ Unlisted → Said
listed_says (Ok n) = told (n ∷ [])
listed_says (Err (Room n)) = says (number_of room) (n ∷ [])
listed_says (Err (Refused why)) = refusal why

-- why nothing is written, as a refusal: 13 where there is no room
abbrev pub refusal_of : Unlisted → Refusal
refusal_of (Room n) = room
refusal_of (Refused why) = why

-- a list that is written slot after slot from n on
unfoldable pub fill_from : List ℕ → ℕ → List ChessRetraction → List ℕ
fill_from s n [] = s
fill_from s n (r ∷ rs) = fill_from (set s n (packed r)) (n + 1) rs
