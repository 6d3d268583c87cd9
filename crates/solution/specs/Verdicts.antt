-- What is answered to a solution, document 02's request 10.
use Rattle.std.specs.Prelude.{◌≡◌, ◌⊎◌, List, ℕ, ◌≤◌, length, Result, Ok, Err}
use Rattle.laws.specs.declared.ChessRetraction.{ChessRetraction}
use Rattle.laws.specs.declared.Edition.{Edition}
use Rattle.laws.specs.StrictLists.{place}
use Rattle.refusal.specs.Refusals.{number_of, Verdict}
use Rattle.board.specs.declared.RetractableBoard.{RetractableBoard}
use Rattle.board.specs.declared.Boarded.{Boarded}
use Rattle.text.specs.Entries.{Reads}
use Rattle.strict.specs.Demand.{Past}
use Rattle.rows.specs.Rows.{fields_by}
use Rattle.solution_lines.specs.declared.Unformed.{Unformed}
use Rattle.solution_lines.specs.declared.Unformed.TheVariants.{Line as formLine, Many as formMany}
use Rattle.solution_lines.specs.Lines.{lines_of, Says, line_at, Among, NoneOf, FirstOf, TellsForm}
use Rattle.solution.specs.declared.Why.{Why}
use Rattle.solution.specs.declared.Why.TheVariants.{Position, Line, Many}
use Rattle.solution.specs.declared.Checked.{Checked}
use Rattle.solution.specs.declared.Checked.TheVariants.{Complete, Wrong, Incomplete}

-- S tells which retractions the strict list has: those that have a past (`Checks`, below)
-- "A line is wrong if it isn't in the strict list or repeats an earlier one"
abbrev pub IsWrong : (ChessRetraction → Type 0) → List (List ℕ) → ℕ → Type 0
IsWrong S ls i = ((r : ChessRetraction) → Says r (line_at ls i) → S r → ⊥) ⊎ Among ls i (line_at ls i)

-- some line says r
abbrev pub IsSaid : List (List ℕ) → ChessRetraction → Type 0
IsSaid ls r = Among ls (length ls) (fields_by r)

-- "the first missing retraction in strict order"
pub record FirstMissing (S : ChessRetraction → Type 0) (ls : List (List ℕ)) (q : ChessRetraction) : Type 0 where
  pub strict : S q
  pub missing : IsSaid ls q → ⊥
  pub first : (r : ChessRetraction) → S r → (IsSaid ls r → ⊥) → place q ≤ place r

-- "Complete means that the lines are exactly the strict list": no line is wrong, and all of the list is said; or "the first wrong line"; or, of "a set that
-- has no wrong line but lacks some", the first missing. "Any refusal comes before a verdict": all lines are in form and not too many
abbrev pub Tells : (ChessRetraction → Type 0) → List (List ℕ) → Result Checked Why → Type 0
Tells S ls (Ok Complete) = TellsForm ls (Ok tt) × NoneOf (length ls) (IsWrong S ls) × ((r : ChessRetraction) → S r → IsSaid ls r)
Tells S ls (Ok (Wrong k)) = TellsForm ls (Ok tt) × FirstOf (length ls) (IsWrong S ls) k
Tells S ls (Ok (Incomplete q)) = TellsForm ls (Ok tt) × NoneOf (length ls) (IsWrong S ls) × FirstMissing S ls q
Tells S ls (Err (Line k)) = TellsForm ls (Err (formLine k))
Tells S ls (Err Many) = TellsForm ls (Err formMany)
Tells S ls (Err (Position why)) = ⊥

-- "14 and 1 to 6 for the position" come first
abbrev pub TellsOf : Verdict → RetractableBoard → List (List ℕ) → Result Checked Why → Type 0
TellsOf (Err why) b ls a = a ≡ Err (Position why)
TellsOf (Ok _) b ls a = Tells (Past b) ls a

-- the answer to the text t of a position, read in the edition e, and the bytes s of its solution
pub record Checks (e : Edition) (t s : List ℕ) (a : Result Checked Why) : Type 0 where
  pub read : Boarded
  pub reads : Reads e t read
  pub told : TellsOf read.verdict read.board (lines_of s) a

-- why lines that are not in form are not judged
abbrev pub why_of : Unformed → Why
why_of (formLine k) = Line k
why_of formMany = Many

-- "14 and 1 to 6 .., 23 LINE .., 24 MANY"
abbrev pub why_number : Why → ℕ
why_number (Position why) = number_of why
why_number (Line k) = 23
why_number Many = 24
