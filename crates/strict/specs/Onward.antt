-- One step through the strict list: the first retraction that has a past, from a place of the stated order on.
use Rattle.std.specs.Prelude.{◌≡◌, ℕ, ◌≤◌, Result, Option, Ok, Some, None, Err}
use Rattle.laws.specs.declared.ChessRetraction.{ChessRetraction}
use Rattle.laws.specs.StrictLists.{place}
use Rattle.refusal.specs.Refusals.{number_of, nothing_refused}
use Rattle.refusal.specs.Said.{first_failing}
use Rattle.board.specs.declared.RetractableBoard.{RetractableBoard}
use Rattle.board.specs.Gate.{gate_of, board_tests}
use Rattle.strict.specs.Demand.{Past}
use Rattle.refusal.specs.declared.Refusal.{Refusal}
use Rattle.strict.specs.declared.Placed.{Placed}

-- of the retractions that have a past and a place from i on, q has the lowest place
pub record FirstFrom (b : RetractableBoard) (i : ℕ) (q : ChessRetraction) : Type 0 where
  pub past : Past b q
  pub on : i ≤ place q
  pub least : (x : ChessRetraction) → Past b x → i ≤ place x → place q ≤ place x

abbrev pub NoneFrom : RetractableBoard → ℕ → Type 0
NoneFrom b i = (x : ChessRetraction) → Past b x → i ≤ place x → ⊥

-- the first one with its place, or that there is none
abbrev pub FoundFrom : RetractableBoard → ℕ → Result (Option Placed) Refusal → Type 0
FoundFrom b i (Ok (Some p)) = (p.place ≡ place p.retraction) × FirstFrom b i p.retraction
FoundFrom b i (Ok None) = NoneFrom b i
FoundFrom b i (Err why) = ⊥

-- 0 where nothing is refused
abbrev pub found_number : Result (Option Placed) Refusal → ℕ
found_number (Ok (Some p)) = 0
found_number (Ok None) = 0
found_number (Err why) = number_of why

-- 1 to 7, and then what is found from i on
pub record Finds (b : RetractableBoard) (i : ℕ) (r : Result (Option Placed) Refusal) : Type 0 where
  pub number : found_number r ≡ first_failing (board_tests b)
  pub found : gate_of b ≡ nothing_refused → FoundFrom b i r
