-- What is answered to a line of a text and a depth.
use Rattle.std.specs.Prelude.{◌≡◌, cond, List, [], ◌∷◌, ◌++◌, ℕ, eqb, take, Result, Option, Ok, Some, None, Err}
use Rattle.laws.specs.declared.ChessRetraction.{ChessRetraction}
use Rattle.laws.specs.declared.Edition.TheVariants.{A}
use Rattle.refusal.specs.declared.Refusal.TheVariants.{Text}
use Rattle.refusal.specs.Refusals.{number_of, verdict_number}
use Rattle.board.specs.declared.RetractableBoard.{RetractableBoard}
use Rattle.board.specs.declared.Boarded.{Boarded}
use Rattle.text.specs.Entries.{Reads, text_on}
use Rattle.rows.specs.Rows.{decimal_of, fields_by}
use Rattle.reply.specs.Replies.{newline, refused_text, Shows}
use Rattle.history.specs.Histories.{plies_of, answer_number, Answers}
use Rattle.history.specs.declared.History.{History}
use Rattle.history.specs.declared.Why.{Why}

-- a ply "in our fields", to a line
abbrev pub ply_row : ChessRetraction → List ℕ
ply_row r = fields_by r ++ newline

abbrev pub plies_text : List ChessRetraction → List ℕ
plies_text [] = []
plies_text (r ∷ l) = ply_row r ++ plies_text l

-- `none`, to a line
abbrev pub none_text : List ℕ
none_text = 110 ∷ 111 ∷ 110 ∷ 101 ∷ 10 ∷ []

-- "latest first, under the text" the n plies of its first history, or "`none` where there is none"; "a refused line as `refused N`"
abbrev pub history_text : RetractableBoard → ℕ → Result (Option History) Why → List ℕ
history_text b n (Ok (Some h)) = text_on b ++ newline ++ plies_text (take n (plies_of h))
history_text b n (Ok None) = text_on b ++ newline ++ none_text
history_text b n (Err w) = refused_text (answer_number (Err w))

-- what is said of the board, or the refusal m of its text, where it is not 0
abbrev pub line_text : ℕ → RetractableBoard → ℕ → Result (Option History) Why → List ℕ
line_text m b n r = cond (eqb m 0) (history_text b n r) (refused_text m)

-- the text x, read in edition A, is answered for a past of n plies: 14 and 1 to 6 of the text, then what is told of its board
pub record AnswersText (x : List ℕ) (n k : ℕ) (o out : List ℕ) : Type 0 where
  pub read : Boarded
  pub reads : Reads A x read
  pub told : Result (Option History) Why
  pub tells : verdict_number read.verdict ≡ 0 → Answers read.board n told
  pub shows : Shows (line_text (verdict_number read.verdict) read.board n told) k o out

-- the line t is answered: "one text a line and a depth" x and n, single space between, the depth in decimal; 14 where it is none
pub data Replies (t : List ℕ) (k : ℕ) (o out : List ℕ) : Type 0 where
  asked : (x : List ℕ) (n : ℕ) → t ≡ x ++ (32 ∷ decimal_of n) → AnswersText x n k o out → Replies t k o out
  unasked : ((x : List ℕ) (n : ℕ) → t ≡ x ++ (32 ∷ decimal_of n) → ⊥) → Shows (refused_text (number_of Text)) k o out → Replies t k o out
