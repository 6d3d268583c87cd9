-- Histories of a board: which chain of so many plies is the first, and what is answered.
use Rattle.std.specs.Prelude.{◌≡◌, ◌⊎◌, false, cond, List, [], ◌∷◌, ℕ, ◌<◌, eqb, leb, length, Option, Some, None, Result, Ok, Err}
use Rattle.squares.specs.Tests.{◌and◌}
use Rattle.laws.specs.declared.ChessRetraction.{ChessRetraction}
use Rattle.laws.specs.StrictLists.{place}
use Rattle.refusal.specs.Refusals.{number_of}
use Rattle.refusal.specs.Said.{first_failing}
use Rattle.board.specs.declared.RetractableBoard.{RetractableBoard}
use Rattle.board.specs.Gate.{board_tests}
use Rattle.chains.specs.Chains.{Chain}
use Rattle.history.specs.declared.History.{History}
use Rattle.history.specs.declared.Why.{Why}
use Rattle.history.specs.declared.Why.TheVariants.{Board, Depth}

-- "the latest ply compared first, each ply in strict order": l is m or comes before it
abbrev pub NotAfter : List ChessRetraction → List ChessRetraction → Type 0
NotAfter [] m = Unit {0}
NotAfter (r ∷ l) [] = ⊥
NotAfter (r ∷ l) (q ∷ m) = (place r < place q) ⊎ ((r ≡ q) × NotAfter l m)

-- "the first history" of n plies
pub record FirstHistory (n : ℕ) (b : RetractableBoard) (l : List ChessRetraction) : Type 0 where
  pub long : length l ≡ n
  pub chain : Chain l b
  pub least : (m : List ChessRetraction) → length m ≡ n → Chain m b → NotAfter l m

abbrev pub NoHistory : ℕ → RetractableBoard → Type 0
NoHistory n b = (l : List ChessRetraction) → length l ≡ n → Chain l b → ⊥

-- a history as it is handed out: four places, the latest ply first, and zeros beyond its length
abbrev pub no_move : ChessRetraction
no_move = record { source = 0; target = 0; uncaptured = 0; unpromotion = false }

abbrev pub after_move : ChessRetraction → History → History
after_move r h = record { first = r; second = h.first; third = h.second; fourth = h.third }

abbrev pub history_of : List ChessRetraction → History
history_of [] = record { first = no_move; second = no_move; third = no_move; fourth = no_move }
history_of (r ∷ l) = after_move r (history_of l)

abbrev pub plies_of : History → List ChessRetraction
plies_of h = h.first ∷ h.second ∷ h.third ∷ h.fourth ∷ []

-- "yes, with the first history .., exactly when" there is one of n plies; "otherwise no"
abbrev pub Tells : ℕ → RetractableBoard → Option History → Type 0
Tells n b (Some h) = (l : List ChessRetraction) × FirstHistory n b l × (h ≡ history_of l)
Tells n b None = NoHistory n b

abbrev pub why_number : Why → ℕ
why_number (Board r) = number_of r
why_number Depth = 19

-- "Refusals: 1 to 7, then 19 DEPTH outside 1 to 4"
abbrev pub number_for : RetractableBoard → ℕ → ℕ
number_for b n = cond (eqb (first_failing (board_tests b)) 0) (cond (leb 1 n and leb n 4) 0 (why_number Depth)) (first_failing (board_tests b))

-- 0 where nothing is refused
abbrev pub answer_number : Result (Option History) Why → ℕ
answer_number (Ok (Some h)) = 0
answer_number (Ok None) = 0
answer_number (Err w) = why_number w

abbrev pub Says : ℕ → RetractableBoard → Result (Option History) Why → Type 0
Says n b (Ok (Some h)) = Tells n b (Some h)
Says n b (Ok None) = Tells n b None
Says n b (Err w) = ⊥

pub record Answers (b : RetractableBoard) (n : ℕ) (r : Result (Option History) Why) : Type 0 where
  pub number : answer_number r ≡ number_for b n
  pub answer : number_for b n ≡ 0 → Says n b r
