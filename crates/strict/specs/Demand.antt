-- Demand 3, over board values.
use Rattle.std.specs.Prelude.{◌≡◌, ◌↔◌, List, [], ◌∷◌, map, ℕ, length, Result, Ok, Err, Bool, true, false}
use Rattle.laws.specs.declared.ChessRetraction.{ChessRetraction}
use Rattle.laws.specs.Retractions.{packed}
use Rattle.laws.specs.Strictness.{Gives}
use Rattle.laws.specs.StrictLists.{place, Ascending, In}
use Rattle.laws.specs.Boards.{Shaped}
use Rattle.refusal.specs.Said.{first_failing, Said, number_said, told, refusal, behind, Writes}
use Rattle.board.specs.declared.RetractableBoard.{RetractableBoard}
use Rattle.board.specs.Gate.{pos_on, to_laws, gate_of, board_tests}
use Rattle.slots.specs.declared.Unlisted.{Unlisted}
use Rattle.slots.specs.Slots.{listed_says}
use Rattle.refusal.specs.Refusals.{nothing_refused}
use Rattle.refusal.specs.declared.Refusal.{Refusal}

-- "some accepted earlier board with souls at most 8 a side has that move as a legal one, and the move gives today's men, turn, castling
-- rights and, unless unknown, today's en passant state", and the double step that it names was possible: e is a board that passes 1 to 7, k the kind
-- promoted to
abbrev pub Past : RetractableBoard → ChessRetraction → Type 0
Past b r = (e : RetractableBoard) × (k : ℕ) × Shaped (to_laws e) × (gate_of e ≡ nothing_refused) × Gives (pos_on e) (pos_on b) r k

-- "it holds a retraction, once and in a stated order, exactly when" it has a past; "Order: source, target, uncaptured, un-promotion"
pub record IsStrictList (b : RetractableBoard) (l : List ChessRetraction) : Type 0 where
  pub members : (r : ChessRetraction) → In r l ↔ Past b r
  pub order : Ascending (map place l)

-- "This list .. go to lent 16-bit slots, packed, with the length; slots beyond keep their numbers"; 1 to 7, then "strict list .. 13"
pub record Lists (b : RetractableBoard) (s : List ℕ) (r : Result ℕ Unlisted) (after : List ℕ) : Type 0 where
  pub moves : List ChessRetraction
  pub exact : gate_of b ≡ nothing_refused → IsStrictList b moves
  pub into : Writes (board_tests b) (map packed moves) s (listed_says r) after

-- the length alone: 1 to 7
abbrev pub counted_says : Result ℕ Refusal → Said
counted_says (Ok n) = told (n ∷ [])
counted_says (Err why) = refusal why

pub record Counts (b : RetractableBoard) (r : Result ℕ Refusal) : Type 0 where
  pub moves : List ChessRetraction
  pub exact : gate_of b ≡ nothing_refused → IsStrictList b moves
  pub answer : counted_says r ≡ behind (board_tests b) (told (length moves ∷ []))

-- whether there is one: 1, or 0 for "no last move"
abbrev pub last_says : Result Bool Refusal → Said
last_says (Ok true) = told (1 ∷ [])
last_says (Ok false) = told (0 ∷ [])
last_says (Err why) = refusal why

-- "No last move" is said "exactly when no such board and move exist"
pub record Answers (b : RetractableBoard) (r : Result Bool Refusal) : Type 0 where
  pub number : number_said (last_says r) ≡ first_failing (board_tests b)
  pub exists : gate_of b ≡ nothing_refused → (last_says r ≡ told (1 ∷ [])) ↔ ((q : ChessRetraction) × Past b q)
  pub none : gate_of b ≡ nothing_refused → (last_says r ≡ told (0 ∷ [])) ↔ ((q : ChessRetraction) → Past b q → ⊥)
