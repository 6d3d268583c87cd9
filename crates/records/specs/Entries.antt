-- What the two entries answer, by the documents' numbers: a record into a board and its counters, and back.
use Rattle.std.specs.Prelude.{◌≡◌, cond, List, [], ◌∷◌, ◌++◌, ℕ, eqb, length, drop, Err, Ok, Result}
use Rattle.laws.specs.declared.EnPassantFlag.{EnPassantFlag}
use Rattle.laws.specs.declared.Edition.{Edition}
use Rattle.laws.specs.declared.Position.{Position}
use Rattle.refusal.specs.declared.Refusal.TheVariants.{Room as room, Text as text}
use Rattle.refusal.specs.Refusals.{number_of}
use Rattle.refusal.specs.Said.{Test, first_failing, Said, says, number_said, told, fitting, behind}
use Rattle.accept.specs.Verdicts.{raw_tests}
use Rattle.board.specs.declared.RetractableBoard.{RetractableBoard}
use Rattle.board.specs.Gate.{position_on}
use Rattle.board.specs.Answers.{worked_of}
use Rattle.record_fields.specs.Counters.{in_range}
use Rattle.record_fields.specs.Passed.{is_known}
use Rattle.records.specs.declared.Why.{Why}
use Rattle.records.specs.declared.Why.TheVariants.{Base, Counter, Unknown}
use Rattle.records.specs.declared.Record.{Record}
use Rattle.records.specs.declared.Unwritten.{Unwritten}
use Rattle.records.specs.Form.{record_of, Says}
use Rattle.records.specs.declared.Unwritten.TheVariants.{Room, Refused as notWritten}

-- "15 COUNTER .., 16 UNKNOWN", and the numbers of document 01
abbrev pub why_number : Why → ℕ
why_number (Base r) = number_of r
why_number Counter = 15
why_number Unknown = 16

-- 0 where nothing is refused
abbrev pub outcome_number : Result Record Why → ℕ
outcome_number (Ok _) = 0
outcome_number (Err w) = why_number w

-- a board and its counters
abbrev pub taken : RetractableBoard → ℕ → ℕ → Result Record Why
taken b h n = Ok (record { board = b; half = h; full = n })

-- "15 COUNTER after 14", and then 1 to 6: the number for a record that says f, h and n
abbrev pub number_for : Position → ℕ → ℕ → ℕ
number_for f h n = cond (in_range h n) (first_failing (raw_tests f)) (why_number Counter)

-- the number x, and b, h and n where it is 0; "A refusal writes nothing and returns no board": else nothing
pub record Gives (x : ℕ) (b : RetractableBoard) (h n : ℕ) (r : Result Record Why) : Type 0 where
  pub number : outcome_number r ≡ x
  pub given : x ≡ 0 → r ≡ taken b h n

-- the board of the position that the text says in the caller's edition, and its counters, through 15 and 1 to 6; or 14 where it says none
pub data Reads (v : Edition) (t : List ℕ) (r : Result Record Why) : Type 0 where
  said : (f : Position) (h n : ℕ) → Says v f h n t → Gives (number_for f h n) (worked_of f) h n r → Reads v t r
  unsaid : ((f : Position) (h n : ℕ) → Says v f h n t → ⊥) → outcome_number r ≡ number_of text → Reads v t r

-- the record of a board
abbrev pub record_on : RetractableBoard → ℕ → ℕ → List ℕ
record_on b h n = record_of (position_on b) h n

-- how many bytes were written; "ROOM also returns the number of .. bytes needed"; or another refusal
abbrev pub written_says : Result ℕ Unwritten → Said
written_says (Ok n) = told (n ∷ [])
written_says (Err (Room n)) = says (number_of room) (n ∷ [])
written_says (Err (notWritten w)) = says (why_number w) []

-- "16 UNKNOWN when the writer, after 1 to 7 and before 13, meets an unknown state": the record t of a board whose state is e goes into a lent
-- slice that holds o, behind the tests ts; x is said, and where its number is 0 the slice then holds t and what stood beyond; "A refusal writes nothing"
pub record WritesRecord (ts : List Test) (e : EnPassantFlag) (t o : List ℕ) (x : Said) (after : List ℕ) : Type 0 where
  pub answer : x ≡ behind ts (cond (is_known e) (fitting (length t) (length o)) (says (why_number Unknown) []))
  pub holds : after ≡ cond (eqb (number_said x) 0) (t ++ drop (length t) o) o
