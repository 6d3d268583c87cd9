-- A line cut out of what was read: where it ends, what of it is kept, and which bytes are then unread.
use Rattle.std.specs.Prelude.{◌≡◌, cond, List, ℕ, ◌+◌, ◌-◌, ◌≤◌, min, ltb, length, drop}
use Rattle.std.proofs.Math.Seq.{paste}
use Rattle.squares.specs.Tests.{◌or◌}
use Rattle.chunks.specs.declared.Part.{Part}
use Rattle.chunks.specs.declared.Ending.TheVariants.{Newline}
use Rattle.chunks.specs.Newlines.{stop_from}

-- where the line of a part ends among the unread bytes
abbrev pub stop_of : List ℕ → Part → ℕ
stop_of s p = stop_from s p.at (p.end - p.at)

-- how many of those bytes the line's buffer still takes
abbrev pub kept_of : List ℕ → Part → ℕ
kept_of s p = min (stop_of s p - p.at) (65536 - p.len)

-- the part after the cut: past the newline, if there was one, with the bytes that were kept
abbrev pub cut_of : List ℕ → Part → Part
cut_of s p = record {
  at = cond (ltb (stop_of s p) p.end) (stop_of s p + 1) p.end;
  end = p.end;
  len = p.len + kept_of s p;
  long = p.long or ltb (kept_of s p) (stop_of s p - p.at);
  ending = cond (ltb (stop_of s p) p.end) Newline p.ending;
}

-- the line's buffer after the cut
abbrev pub line_of : List ℕ → Part → List ℕ → List ℕ
line_of s p l = paste l p.len (drop p.at s) (kept_of s p)

-- unread bytes of a chunk of 65,536, and a line in a buffer of as many
pub record Fit (p : Part) : Type 0 where
  pub unread : p.at ≤ p.end
  pub inside : p.end ≤ 65536
  pub short : p.len ≤ 65536

-- the cut of a part p of the chunk s; that a chunk has 65,536 bytes no caller could tell otherwise
pub record Cuts (s l : List ℕ) (p r : Part) (l' : List ℕ) : Type 0 where
  pub cut : r ≡ cut_of s p
  pub keeps : l' ≡ line_of s p l
  pub fits : Fit r
  pub wide : length s ≡ 65536
