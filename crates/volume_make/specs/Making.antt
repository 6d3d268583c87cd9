-- What old lines become.
use Rattle.std.specs.Prelude.{◌≡◌, Ok, Err, List, ◌++◌, ℕ, ◌+◌, ◌≤◌, ◌<◌, length, drop}
use Rattle.laws.specs.declared.Position.{Position}
use Rattle.refusal.specs.declared.Refusal.{Refusal}
use Rattle.volume_contents.specs.declared.Flaw.TheVariants.{Many}
use Rattle.volume_contents.specs.declared.Why.TheVariants.{Line, Contents, Board, Room}
use Rattle.volume_contents.specs.Refusing.{Written}
use Rattle.volume_lines.specs.Register.{Lines, Stops, first_refused}
use Rattle.volume_make.specs.Volumes.{bound}
use Rattle.refusal.specs.Refusals.{nothing_refused}

-- old lines t into a slice that holds o: the answer r, and what the slice then holds
pub data Makes (t o : List ℕ) (r : Written) (x : List ℕ) : Type 0 where
  -- 14, with the number of the first line that is out of form or has no newline
  unlined : (k : ℕ) → Stops t k → r ≡ Err (Line (k + 1)) → x ≡ o → Makes t o r x
  -- 17, "a 65,536th line"
  many : (ps : List Position) → Lines ps t → 65535 < length ps → r ≡ Err (Contents Many 65536) → x ≡ o → Makes t o r x
  -- 1 to 6, with the number of the first line whose board is refused
  refuses : (ps : List Position) → Lines ps t → length ps ≤ 65535 → (w : Refusal) → (first_refused ps).verdict ≡ Err w
      → r ≡ Err (Board w (first_refused ps).line) → x ≡ o → Makes t o r x
  -- 13, with the number of bytes needed
  room : (ps : List Position) → Lines ps t → length ps ≤ 65535 → (first_refused ps).verdict ≡ nothing_refused → length o < length (bound ps)
      → r ≡ Err (Room (length (bound ps))) → x ≡ o → Makes t o r x
  -- the volume, and what stood beyond
  written : (ps : List Position) → Lines ps t → length ps ≤ 65535 → (first_refused ps).verdict ≡ nothing_refused → length (bound ps) ≤ length o
      → r ≡ Ok (length (bound ps)) → x ≡ bound ps ++ drop (length (bound ps)) o → Makes t o r x
