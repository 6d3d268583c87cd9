-- What the two entries answer: a text into a board, and a board into a text.
use Rattle.std.specs.Prelude.{◌≡◌, List, [], ◌∷◌, ℕ, Err, Ok, Result}
use Rattle.refusal.specs.declared.Refusal.TheVariants.{Room as room, Text as text}
use Rattle.refusal.specs.Refusals.{number_of, verdict_number}
use Rattle.refusal.specs.Said.{Test, Said, says, told, refusal}
use Rattle.accept.specs.Verdicts.{raw_tests}
use Rattle.board.specs.declared.RetractableBoard.{RetractableBoard}
use Rattle.board.specs.declared.Boarded.{Boarded}
use Rattle.board.specs.Gate.{position_on, no_board}
use Rattle.board.specs.Answers.{worked_of}
use Rattle.board.specs.Said.{Boards}
use Rattle.text.specs.declared.Unprinted.{Unprinted}
use Rattle.laws.specs.declared.Edition.{Edition}
use Rattle.laws.specs.declared.Position.{Position}
use Rattle.position_text.specs.Form.{Says, printed}
use Rattle.text.specs.declared.Unprinted.TheVariants.{Room, Refused}

-- "text through 14, then 1 to 6": the board of the position that the text says in the caller's edition, through 1 to 6, or 14 beside the
-- empty board where it says none
pub data Reads (v : Edition) (t : List ℕ) (r : Boarded) : Type 0 where
  said : (f : Position) → Says v f t → Boards (raw_tests f) (worked_of f) r → Reads v t r
  unsaid : ((f : Position) → Says v f t → ⊥) → verdict_number r.verdict ≡ number_of text → r.board ≡ no_board → Reads v t r

-- the text of a board
abbrev pub text_on : RetractableBoard → List ℕ
text_on b = printed (position_on b)

-- how many bytes were written; "ROOM also returns the number of .. bytes needed"; or another refusal
abbrev pub printed_says : Result ℕ Unprinted → Said
printed_says (Ok n) = told (n ∷ [])
printed_says (Err (Room n)) = says (number_of room) (n ∷ [])
printed_says (Err (Refused why)) = refusal why
