-- What the program prints of a line, document 01's "Text", and what its slots then hold.
use Rattle.std.specs.Prelude.{◌≡◌, cond, List, [], ◌∷◌, ◌++◌, map, ℕ, eqb, leb, length, drop}
use Rattle.io.specs.Counts.{IsPrefixLen}
use Rattle.laws.specs.declared.Edition.{Edition}
use Rattle.laws.specs.declared.ChessRetraction.{ChessRetraction}
use Rattle.laws.specs.Attacks.{checkers_of}
use Rattle.laws.specs.Retractions.{packed}
use Rattle.refusal.specs.declared.Refusal.TheVariants.{Room}
use Rattle.refusal.specs.Refusals.{verdict_number}
use Rattle.refusal.specs.Said.{Test, ◌else◌, first_failing}
use Rattle.board.specs.declared.RetractableBoard.{RetractableBoard}
use Rattle.board.specs.declared.Boarded.{Boarded}
use Rattle.board.specs.Gate.{men_on}
use Rattle.text.specs.Entries.{Reads, text_on}
use Rattle.retraction_gen.specs.Making.{list_tests}
use Rattle.retraction_gen.specs.Sequence.{sequence_on}
use Rattle.strict.specs.Demand.{IsStrictList}
use Rattle.rows.specs.Rows.{decimal_of, report_of}

-- the bytes of `refused ` and of a newline
abbrev pub word : List ℕ
word = 114 ∷ 101 ∷ 102 ∷ 117 ∷ 115 ∷ 101 ∷ 100 ∷ 32 ∷ []

abbrev pub newline : List ℕ
newline = 10 ∷ []

-- "A refused line prints `refused N` alone"
abbrev pub refused_text : ℕ → List ℕ
refused_text n = (word ++ decimal_of n) ++ newline

-- "Its slices have 8,192 slots": else 13
abbrev pub room_test : List ChessRetraction → List Test
room_test l = (leb (length l) 8192 else Room) ∷ []

-- "listing into slots 8, 13": the tests of a board's ported list, and behind them "strict list .. 13", the list being s
abbrev pub listed_tests : RetractableBoard → List Test
listed_tests b = list_tests b ++ room_test (sequence_on b)

abbrev pub both_tests : RetractableBoard → List ChessRetraction → List Test
both_tests b s = listed_tests b ++ room_test s

-- the number m of a line's reader or, where it is 0, of the first test that fails
abbrev pub number_then : ℕ → List Test → ℕ
number_then m ts = cond (eqb m 0) (first_failing ts) m

-- "prints it, then `listed A strict B` ..", under it the Laws' checkers, and the rows of the two lists
abbrev pub board_text : RetractableBoard → List ℕ → List ℕ → List ℕ
board_text b listed strict = text_on b ++ newline ++ report_of (checkers_of (men_on b) b.turn) listed strict

-- the board with its lists, the strict one being s; or the refusal n, where it is not 0
abbrev pub answer_text : ℕ → RetractableBoard → List ChessRetraction → List ℕ
answer_text n b s = cond (eqb n 0) (board_text b (map packed (sequence_on b)) (map packed s)) (refused_text n)

-- t, and beyond it what stood in o
abbrev pub over : List ℕ → List ℕ → List ℕ
over t o = t ++ drop (length t) o

-- "packed ..; slots beyond keep their numbers": slots that held o after the list l went into them; "A refusal writes nothing"
abbrev pub slots_then : ℕ → List ChessRetraction → List ℕ → List ℕ
slots_then n l o = cond (eqb n 0) (over (map packed l) o) o

-- the first n bytes of a buffer that held o are now t, and all others are as they were; `counts`, which follows, is for `&out[..n]`
pub record Shows (t : List ℕ) (n : ℕ) (o out : List ℕ) : Type 0 where
  pub size : n ≡ length t
  pub holds : out ≡ over t o
  pub counts : IsPrefixLen n out

-- the board b is answered, or the refusal m of its line: the moves are the strict list by demand 3, whose slots held q and then hold strict
pub record AnswersBoard (m : ℕ) (b : RetractableBoard) (n : ℕ) (o out q strict : List ℕ) : Type 0 where
  pub moves : List ChessRetraction
  pub exact : m ≡ 0 → IsStrictList b moves
  pub shows : Shows (answer_text (number_then m (both_tests b moves)) b moves) n o out
  pub slots : strict ≡ slots_then (number_then m (both_tests b moves)) moves q

-- what the ported list's slots then hold, having held p
abbrev pub listed_then : ℕ → RetractableBoard → List ℕ → List ℕ
listed_then m b p = slots_then (number_then m (listed_tests b)) (sequence_on b) p

-- the line t is answered, its text read in the edition v
pub record Replies (v : Edition) (t : List ℕ) (n : ℕ) (o out p listed q strict : List ℕ) : Type 0 where
  pub read : Boarded
  pub reads : Reads v t read
  pub answers : AnswersBoard (verdict_number read.verdict) read.board n o out q strict
  pub slots : listed ≡ listed_then (verdict_number read.verdict) read.board p
