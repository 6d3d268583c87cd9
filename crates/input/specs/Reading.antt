-- The next line of the input, by what the system's reads bring.
use Rattle.std.specs.Prelude.{◌≡◌, Bool, cond, List, [], ◌∷◌, ◌++◌, ℕ, zero, suc, ◌+◌, ◌-◌, ◌<◌, ◌≤◌, min, leb, ltb, Option, None, Some, IfSome, length, take, drop}
use Rattle.std.proofs.Math.Seq.{slice}
use Rattle.squares.specs.Tests.{◌and◌}
use Rattle.chunks.specs.Newlines.{stop_from}
use Rattle.input.specs.declared.Cursor.{Cursor}
use Rattle.chunks.specs.declared.Ending.{Ending}
use Rattle.chunks.specs.declared.Ending.TheVariants.{Open, Newline, Over, Failed}
use Rattle.input.specs.declared.Step.{Step}
use Rattle.input.specs.declared.Step.TheVariants.{Line, End, Failed as failed}

-- a read as the system answers it: none where it failed, else how many bytes it put at the start of the chunk, 0 at the end of the input; and
-- what the chunk then holds
pub record Read : Type 0 where
  pub got : Option ℕ
  pub chunk : List ℕ

-- all that is known of reads: no more bytes came than the chunk has
abbrev pub Answered : List Read → Type 0
Answered [] = Unit {0}
Answered (r ∷ rs) = IfSome r.got (λ n. n ≤ 65536) × (length r.chunk ≡ 65536) × Answered rs

-- how far the search for a line is: the line's bytes and how they end, what the chunk holds, and that its bytes at..end are unread
pub record Found : Type 0 where
  pub bytes : List ℕ
  pub ending : Ending
  pub chunk : List ℕ
  pub at : ℕ
  pub end : ℕ

abbrev pub found_at : List ℕ → Ending → List ℕ → ℕ → ℕ → Found
found_at w e s at end = record { bytes = w; ending = e; chunk = s; at = at; end = end }

-- behind the bytes w stand those at..end of the chunk s: the line ends at the first newline among them, or else goes on behind them all
abbrev pub scanned : List ℕ → List ℕ → ℕ → ℕ → (List ℕ → Found) → Found
scanned w s at end later =
    let stop = stop_from s at (end - at) in
    cond (ltb stop end) (found_at (w ++ slice at stop s) Newline s (stop + 1) end) (later (w ++ slice at end s))

-- by the answer of a read
abbrev pub brought : List ℕ → List ℕ → Option ℕ → (List ℕ → Found) → Found
brought w s (Some (suc n)) later = scanned w s 0 (suc n) later
brought w s (Some zero) later = found_at w Over s 0 0
brought w s None later = found_at w Failed s 0 0

-- one read after the other, none of the chunk's bytes being unread before
unfoldable pub read_on : List ℕ → List ℕ → List Read → Found
read_on w s [] = found_at w Open s 0 0
read_on w s (r ∷ rs) = brought w r.chunk r.got (λ v. read_on v r.chunk rs)

-- a cursor that no chunk has says that nothing is unread
abbrev pub unread_at : Cursor → Cursor
unread_at c = cond (leb c.at c.end and leb c.end 65536) c (record { at = 0; end = 0 })

-- the search from the cursor c of the chunk s on
unfoldable pub searched : List ℕ → Cursor → List Read → Found
searched s c rs = scanned [] s (unread_at c).at (unread_at c).end (λ w. read_on w s rs)

-- "a line (ended by a newline or the end of input)", of which n bytes are in the line's buffer; no line where the input ends with no byte
-- of it, or where a read fails
abbrev pub step_for : Ending → ℕ → Bool → Cursor → Step
step_for Newline n long c = Line n long c
step_for Over n long c = cond (ltb 0 n) (Line n long c) End
step_for Failed n long c = failed
step_for Open n long c = failed

-- of a line longer than the line's buffer the first 65,536 bytes are kept, and `long` says so
abbrev pub step_of : Found → Step
step_of f = step_for f.ending (min 65536 (length f.bytes)) (ltb 65536 (length f.bytes)) (record { at = f.at; end = f.end })

abbrev pub kept_in : List ℕ → List ℕ → List ℕ
kept_in line w = take 65536 w ++ drop (min 65536 (length w)) line

-- The answer is that of the search by the reads that were made, each of them before the line had ended. Only they are left open. A line
-- that has not ended after 2 ^ 64 - 1 reads is given up.
pub record Gives (chunk line : List ℕ) (c : Cursor) (r : Step) (chunk' line' : List ℕ) : Type 0 where
  pub reads : List Read
  pub answered : Answered reads
  pub needed : (k : ℕ) → k < length reads → (searched chunk c (take k reads)).ending ≡ Open
  pub enough : (searched chunk c reads).ending ≡ Open → length reads ≡ 18446744073709551615
  pub step : r ≡ step_of (searched chunk c reads)
  pub holds : chunk' ≡ (searched chunk c reads).chunk
  pub keeps : line' ≡ kept_in line (searched chunk c reads).bytes
