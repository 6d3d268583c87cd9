-- The part of a line that is on its way: how it begins, what a read makes of it, and the turn that reads and cuts.
use Rattle.std.specs.Prelude.{◌≡◌, Bool, true, false, List, ℕ, zero, suc, ◌≤◌, Option, None, Some, IfSome, length}
use Rattle.std.specs.Option.{unwrap_or}
use Rattle.chunks.specs.declared.Part.{Part}
use Rattle.chunks.specs.declared.Ending.{Ending}
use Rattle.chunks.specs.declared.Ending.TheVariants.{Open, Newline, Over, Failed}
use Rattle.chunks.specs.inner.Splitting.{cut_of, line_of}
use Rattle.input.specs.declared.Cursor.{Cursor}

-- the bytes of a line have not ended
abbrev pub is_open : Ending → Bool
is_open Open = true
is_open Newline = false
is_open Over = false
is_open Failed = false

abbrev pub cursor_of : Part → Cursor
cursor_of p = record { at = p.at; end = p.end }

-- a part of which nothing is in the line's buffer yet
abbrev pub opened_at : Cursor → Part
opened_at c = record { at = c.at; end = c.end; len = 0; long = false; ending = Open }

-- after a read that brought `got` bytes, or failed
abbrev pub ending_of : Option ℕ → Ending
ending_of (Some (suc n)) = Open
ending_of (Some zero) = Over
ending_of None = Failed

abbrev pub filled_of : Part → Option ℕ → Part
filled_of p got = record { at = 0; end = unwrap_or got 0; len = p.len; long = p.long; ending = ending_of got }

-- one read, and the cut of what came
pub record Turns (p : Part) (l : List ℕ) (r : Part) (s' l' : List ℕ) : Type 0 where
  pub got : Option ℕ
  pub answered : IfSome got (λ n. n ≤ 65536) × (length s' ≡ 65536)
  pub cut : r ≡ cut_of s' (filled_of p got)
  pub keeps : l' ≡ line_of s' (filled_of p got) l
