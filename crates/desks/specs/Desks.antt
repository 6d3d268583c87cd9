-- The study table without its words: the places of each desk, and what each call answers and leaves.
use Rattle.std.specs.Prelude.{Bool, cond, List, [], ◌∷◌, ℕ, zero, suc, eqb, ltb, length, get_or, set, replicate}
use Rattle.refusal.specs.Refusals.{number_of}
use Rattle.refusal.specs.Said.{Test, first_failing, Said, says, told, behind}
use Rattle.board.specs.declared.RetractableBoard.{RetractableBoard}
use Rattle.board.specs.Gate.{board_tests, no_board}
use Rattle.board.specs.Said.{kept_behind}
use Rattle.desks.specs.declared.Why.{Why}
use Rattle.desks.specs.declared.Why.TheVariants.{Board, Desk, Quota, Absent}

-- "20 DESK (neither desk), 21 QUOTA .., 22 ABSENT", and 1 to 7 of a board
abbrev pub why_number : Why → ℕ
why_number (Board r) = number_of r
why_number Desk = 20
why_number Quota = 21
why_number Absent = 22

-- a place of a desk
pub data Place : Type 0 where
  free : Place
  held : RetractableBoard → Place

-- "Numbers given to a desk are its own .. from 0 to its quota less 1": a desk's places are a list, its numbers count them, and its quota is
-- the list's length. A lent slice may be found to be no table: "quotas together above the table's places"
pub data Found : Type 0 where
  unfit : Found
  table : (first second : List Place) → Found

-- "a table freshly set up", of two quotas
abbrev pub fresh : ℕ → ℕ → Found
fresh p q = table (replicate p free) (replicate q free)

-- "put, fetched and dropped": a call, without the desk that makes it
pub data Ask : Type 0 where
  put : RetractableBoard → Ask
  fetch : (number : ℕ) → Ask
  drop : (number : ℕ) → Ask

-- "number, refusal and board": what is said, a number of refusal or 0 and the number that a put gives; and the board of a fetch, the empty
-- one elsewhere
pub record Answer : Type 0 where
  pub said : Said
  pub board : RetractableBoard

abbrev pub refuses : Why → Answer
refuses w = record { said = says (why_number w) []; board = no_board }

-- nothing is refused, and the values are vs
abbrev pub grants : List ℕ → Answer
grants vs = record { said = told vs; board = no_board }

-- what stands behind tests: the number of the first that fails, or r
abbrev pub answer_behind : List Test → Answer → Answer
answer_behind ts r = cond (eqb (first_failing ts) 0) r (record { said = says (first_failing ts) []; board = no_board })

-- "the lowest free one", the quota where none is
unfoldable pub lowest : List Place → ℕ
lowest [] = 0
lowest (free ∷ ps) = 0
lowest (held b ∷ ps) = suc (lowest ps)

-- "22 ABSENT (a number that the desk doesn't hold)"; "a fetch tests 1 to 7 on what it finds"
abbrev pub fetched_from : Place → Answer
fetched_from free = refuses Absent
fetched_from (held b) = record { said = behind (board_tests b) (told []); board = kept_behind (board_tests b) b }

abbrev pub dropped_from : Place → Answer
dropped_from free = refuses Absent
dropped_from (held b) = grants []

-- what the places of a desk answer; "21 QUOTA (desk already holds its quota)"
unfoldable pub answer_in : List Place → Ask → Answer
answer_in ps (put b) = cond (ltb (lowest ps) (length ps)) (grants (lowest ps ∷ [])) (refuses Quota)
answer_in ps (fetch n) = fetched_from (get_or ps n free)
answer_in ps (drop n) = dropped_from (get_or ps n free)

-- and become; "a dropped place is used again". `set` leaves a list as it is past its end
unfoldable pub places_after : List Place → Ask → List Place
places_after ps (put b) = set ps (lowest ps) (held b)
places_after ps (fetch n) = ps
places_after ps (drop n) = set ps n free

-- what a call with the number of a desk meets: 20, 21 as found, or the desk's places
pub data Met : Type 0 where
  none : Why → Met
  places : List Place → Met

abbrev pub met_at : Found → (desk : ℕ) → Met
met_at unfit zero = none Quota
met_at unfit (suc zero) = none Quota
met_at unfit (suc (suc d)) = none Desk
met_at (table p q) zero = places p
met_at (table p q) (suc zero) = places q
met_at (table p q) (suc (suc d)) = none Desk

abbrev pub answer_met : Met → Ask → Answer
answer_met (none w) a = refuses w
answer_met (places ps) a = answer_in ps a

abbrev pub found_after : Found → (desk : ℕ) → Ask → Found
found_after unfit d a = unfit
found_after (table p q) zero a = table (places_after p a) q
found_after (table p q) (suc zero) a = table p (places_after q a)
found_after (table p q) (suc (suc d)) a = table p q

-- "Refusals, after 1 to 7 for a put and before them for a fetch": what is tested before the desk
abbrev pub tests_first : Ask → List Test
tests_first (put b) = board_tests b
tests_first (fetch n) = []
tests_first (drop n) = []

abbrev pub passes : Ask → Bool
passes a = eqb (first_failing (tests_first a)) 0

-- each call's answer, and the table after it
unfoldable pub answer_of : Found → (desk : ℕ) → Ask → Answer
answer_of t d a = answer_behind (tests_first a) (answer_met (met_at t d) a)

unfoldable pub after_of : Found → (desk : ℕ) → Ask → Found
after_of t d a = cond (passes a) (found_after t d a) t
