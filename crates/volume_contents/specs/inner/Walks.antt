-- Rows that stand in a slice from a place on, one by one.
use Rattle.std.specs.Prelude.{◌≡◌, Bool, cond, Result, Ok, Err, List, ℕ, zero, suc, ◌+◌, ◌*◌, ◌≤◌, ◌<◌, eqb}
use Rattle.laws.specs.declared.Edition.{Edition}
use Rattle.laws.specs.declared.Edition.TheVariants.{A, B}
use Rattle.volume_contents.specs.declared.Flaw.{Flaw}
use Rattle.volume_contents.specs.Layout.{entry_at}
use Rattle.volume_contents.specs.Contents.{Tested, row_tested}

-- the edition of a byte; A of all but B's
abbrev pub edition_of : ℕ → Edition
edition_of b = cond (eqb b 66) B A

-- the number of the row j of a slice, and that of the row before it
abbrev pub number_in : List ℕ → ℕ → ℕ → ℕ
number_in s at j = (entry_at s (at + 8 * j)).number

abbrev pub last_in : ℕ → List ℕ → ℕ → ℕ → ℕ
last_in last s at zero = last
last_in last s at (suc j) = number_in s at j

-- the row j of a slice is the row from + j of the table
abbrev pub tested_in : Bool → ℕ → ℕ → ℕ → List ℕ → ℕ → ℕ → Tested
tested_in back n from last s at j = row_tested back n (from + j) (last_in last s at j) (entry_at s (at + 8 * j))

-- the first j rows are sound
abbrev pub SoundTo : Bool → ℕ → ℕ → ℕ → List ℕ → ℕ → ℕ → Type 0
SoundTo back n from last s at j = (i : ℕ) → i < j → tested_in back n from last s at i ≡ Ok tt

-- all k rows are sound, and the last has a number; or the first that is not has a flaw and a place, and the row before it a number
abbrev pub WalksTo : Bool → ℕ → ℕ → ℕ → List ℕ → ℕ → ℕ → Result ℕ (Flaw × ℕ × ℕ) → Type 0
WalksTo back n from last s at k (Ok r) = SoundTo back n from last s at k × (r ≡ last_in last s at k)
WalksTo back n from last s at k (Err f) =
    SoundTo back n from last s at f.1 × (f.1 < k) × (tested_in back n from last s at f.1 ≡ Err f.0) × (f.2 ≡ last_in last s at f.1)

-- the numbers of k rows rise
abbrev pub Rising : List ℕ → ℕ → ℕ → Type 0
Rising s at k = (i j : ℕ) → i < j → j < k → number_in s at i < number_in s at j

-- the rows before r, and none behind, have a number below x
pub record Bound (s : List ℕ) (at k x r : ℕ) : Type 0 where
  pub inside : r ≤ k
  pub below : (j : ℕ) → j < r → number_in s at j < x
  pub above : (j : ℕ) → r ≤ j → j < k → x ≤ number_in s at j
