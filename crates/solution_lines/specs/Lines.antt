-- The lines of a solution, document 02's request 10: what a line says, and which line is refused.
use Rattle.std.specs.Prelude.{◌≡◌, cond, List, [], ◌∷◌, ℕ, ◌+◌, ◌≤◌, ◌<◌, eqb, length, get_or, Result, Ok, Err, ⊤}
use Rattle.laws.specs.declared.ChessRetraction.{ChessRetraction}
use Rattle.laws.specs.Retractions.{InRange}
use Rattle.rows.specs.Rows.{fields_by}
use Rattle.solution_lines.specs.declared.Unformed.{Unformed}
use Rattle.solution_lines.specs.declared.Unformed.TheVariants.{Line, Many}

-- a byte in front of the first line
abbrev pub onto : ℕ → List (List ℕ) → List (List ℕ)
onto b [] = (b ∷ []) ∷ []
onto b (l ∷ ls) = (b ∷ l) ∷ ls

-- the bytes cut at each newline; a last newline starts no further line, so no bytes are no lines
unfoldable pub lines_of : List ℕ → List (List ℕ)
lines_of [] = []
lines_of (b ∷ s) = cond (eqb b 10) ([] ∷ lines_of s) (onto b (lines_of s))

-- "in our printed fields, with no list marks": the line l says the retraction r
abbrev pub Says : ChessRetraction → List ℕ → Type 0
Says r l = InRange r × (fields_by r ≡ l)

-- the line that has i lines before it, and whether l is one of the first n lines
abbrev pub line_at : List (List ℕ) → ℕ → List ℕ
line_at ls i = get_or ls i []

abbrev pub Among : List (List ℕ) → ℕ → List ℕ → Type 0
Among ls n l = (j : ℕ) × (j < n) × (line_at ls j ≡ l)

-- none of the first n lines is P, which tells of a line by how many stand before it
abbrev pub NoneOf : ℕ → (ℕ → Type 0) → Type 0
NoneOf n P = (i : ℕ) → i < n → P i → ⊥

-- k is the number of the first of n lines that is P, counted from 1
pub record FirstOf (n : ℕ) (P : ℕ → Type 0) (k : ℕ) : Type 0 where
  pub before : ℕ
  pub number : k ≡ before + 1
  pub there : before < n
  pub so : P before
  pub none : NoneOf before P

-- "a line out of form": it says no retraction
abbrev pub OutOfForm : List (List ℕ) → ℕ → Type 0
OutOfForm ls i = (r : ChessRetraction) → Says r (line_at ls i) → ⊥

-- "At most 4,096 lines. .. 23 LINE for a line out of form, with its number, 24 MANY for a 4,097th line; 23 and 24 by whichever line comes first"; the
-- 4,097th line is 23 where it is out of form too
abbrev pub TellsForm : List (List ℕ) → Result ⊤ Unformed → Type 0
TellsForm ls (Ok _) = (length ls ≤ 4096) × NoneOf (length ls) (OutOfForm ls)
TellsForm ls (Err (Line k)) = FirstOf (length ls) (OutOfForm ls) k × (k ≤ 4097)
TellsForm ls (Err Many) = (4097 ≤ length ls) × NoneOf 4097 (OutOfForm ls)
