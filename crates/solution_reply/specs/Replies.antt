-- What is answered to a file of an entrant: "the position on the first line, then the lines, to the end of the file".
use Rattle.std.specs.Prelude.{Result, Ok, Err, List, [], ◌∷◌, ◌++◌, ℕ, suc, length, take, drop}
use Rattle.chunks.specs.Newlines.{stop_from}
use Rattle.laws.specs.declared.ChessRetraction.{ChessRetraction}
use Rattle.laws.specs.declared.Edition.TheVariants.{A}
use Rattle.rows.specs.Rows.{decimal_of, fields_by}
use Rattle.reply.specs.Replies.{word, newline, refused_text, Shows}
use Rattle.solution.specs.declared.Why.{Why}
use Rattle.solution.specs.declared.Why.TheVariants.{Position, Line, Many}
use Rattle.solution.specs.declared.Checked.{Checked}
use Rattle.solution.specs.declared.Checked.TheVariants.{Complete, Wrong, Incomplete}
use Rattle.solution.specs.Verdicts.{why_number, Checks}

-- the bytes of `complete`, `wrong ` and `incomplete `
abbrev pub complete_word : List ℕ
complete_word = 99 ∷ 111 ∷ 109 ∷ 112 ∷ 108 ∷ 101 ∷ 116 ∷ 101 ∷ []

abbrev pub wrong_word : List ℕ
wrong_word = 119 ∷ 114 ∷ 111 ∷ 110 ∷ 103 ∷ 32 ∷ []

abbrev pub incomplete_word : List ℕ
incomplete_word = 105 ∷ 110 ∷ complete_word ++ (32 ∷ [])

-- a word and a number, to a line
abbrev pub numbered_text : List ℕ → ℕ → List ℕ
numbered_text w x = (w ++ decimal_of x) ++ newline

-- "`incomplete ROW` (the first missing retraction in our fields)"
abbrev pub incomplete_text : ChessRetraction → List ℕ
incomplete_text r = (incomplete_word ++ fields_by r) ++ newline

-- "`refused N`, `refused 23 LINE`"
abbrev pub refusal_text : Why → List ℕ
refusal_text (Position why) = refused_text (why_number (Position why))
refusal_text (Line k) = numbered_text (word ++ decimal_of (why_number (Line k)) ++ (32 ∷ [])) k
refusal_text Many = refused_text (why_number Many)

-- "one of `complete`, `wrong N`, `incomplete ROW` .., `refused N`, `refused 23 LINE`"
abbrev pub verdict_text : Result Checked Why → List ℕ
verdict_text (Ok Complete) = complete_word ++ newline
verdict_text (Ok (Wrong k)) = numbered_text wrong_word k
verdict_text (Ok (Incomplete r)) = incomplete_text r
verdict_text (Err why) = refusal_text why

-- the place of the first newline of a file, or its end; what stands before it, and what stands below
abbrev pub stop_of : List ℕ → ℕ
stop_of f = stop_from f 0 (length f)

abbrev pub position_in : List ℕ → List ℕ
position_in f = take (stop_of f) f

abbrev pub solution_in : List ℕ → List ℕ
solution_in f = drop (suc (stop_of f)) f

-- the file f is answered, its position read in edition A
pub record Replies (f : List ℕ) (n : ℕ) (o out : List ℕ) : Type 0 where
  pub told : Result Checked Why
  pub checks : Checks A (position_in f) (solution_in f) told
  pub shows : Shows (verdict_text told) n o out
