-- A set of numbers as bits of words of 64, and the rows by a set for the other list.
use Rattle.std.specs.Prelude.{◌≡◌, Bool, cond, List, [], ℕ, ◌/◌, ◌%◌, eqb, length, get_or}
use Rattle.squares.specs.Tests.{◌or◌}
use Rattle.squares.specs.Squares.{has}
use Rattle.rows.specs.Rows.{row_of, is_in, plus, minus, star}

-- the number i is in the set
unfoldable pub marked : List ℕ → ℕ → Bool
marked w i = has (get_or w (i / 64) 0) (i % 64)

-- the number i more, and no other
pub record Marks (before : List ℕ) (i : ℕ) (after : List ℕ) : Type 0 where
  pub each : (k : ℕ) → marked after k ≡ (eqb i k or marked before k)
  pub long : length after ≡ length before

-- a set of slots has those of the list, and no other
pub record MarksOf (slots w : List ℕ) : Type 0 where
  pub each : (slot : ℕ) → marked w slot ≡ is_in slot slots
  pub long : length w ≡ 1024

-- the row of a listed retraction by the set of the strict ones
abbrev pub listed_by : List ℕ → ℕ → List ℕ
listed_by strict slot = row_of slot (cond (marked strict slot) plus minus)

-- the row of a strict one by the set of the listed ones
abbrev pub strict_by : List ℕ → ℕ → List ℕ
strict_by listed slot = cond (marked listed slot) [] (row_of slot star)
