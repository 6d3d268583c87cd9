-- One problem more: "Problem numbers are 1 to 65,535 and rise strictly".
use Rattle.std.specs.Prelude.{◌≡◌, Ok, Err, false, List, [], ◌∷◌, ◌++◌, ℕ, ◌+◌, ◌≤◌, ◌<◌, leb, ltb, length, drop}
use Rattle.squares.specs.Tests.{◌and◌}
use Rattle.laws.specs.declared.Position.{Position}
use Rattle.refusal.specs.declared.Refusal.{Refusal}
use Rattle.accept.specs.Verdicts.{judged_of}
use Rattle.volume_contents.specs.declared.Flaw.{Flaw}
use Rattle.volume_contents.specs.declared.Flaw.TheVariants.{Number, Order}
use Rattle.volume_contents.specs.declared.Why.{Why}
use Rattle.volume_contents.specs.declared.Why.TheVariants.{Contents, Board, Room}
use Rattle.volume_contents.specs.Refusing.{Written}
use Rattle.volume_contents.specs.Contents.{Tested, unless, number_before}
use Rattle.volume_make.specs.Volumes.{volume_of}
use Rattle.volume_read.specs.Problems.{problems_of}
use Rattle.volume_read.specs.Reading.{Judged, Whole}
use Rattle.refusal.specs.Refusals.{nothing_refused}

-- a number behind a row with the number `last`
unfoldable pub number_tested : ℕ → ℕ → Tested
number_tested last k = unless (ltb 0 k and leb k 65535) Number (unless (ltb last k) Order (Ok tt))

-- the volume of the problems that v has, and of one more
abbrev pub with : List ℕ → List Position → ℕ → Position → List ℕ
with v ps k p = volume_of (problems_of v ps ++ (record { number = k; board = p } ∷ []))

-- the board p under the number k behind the problems of v, into a slice that holds o: the answer r, and what the slice then holds
pub data Adds (v : List ℕ) (k : ℕ) (p : Position) (o : List ℕ) (r : Written) (x : List ℕ) : Type 0 where
  -- 17, 18, and 1 to 6 of the volume as it is
  spoilt : (why : Why) → Judged false v why → r ≡ Err why → x ≡ o → Adds v k p o r x
  -- 17 for the number, with the new row
  misnumbered : (n : ℕ) (ps : List Position) (w : Flaw) → Whole false v n ps → number_tested (number_before v n) k ≡ Err w
      → r ≡ Err (Contents w (n + 1)) → x ≡ o → Adds v k p o r x
  -- 1 to 6 for the board
  unjudged : (n : ℕ) (ps : List Position) (w : Refusal) → Whole false v n ps → number_tested (number_before v n) k ≡ Ok tt → judged_of p ≡ Err w
      → r ≡ Err (Board w (n + 1)) → x ≡ o → Adds v k p o r x
  -- 13, with the number of bytes needed
  narrow : (n : ℕ) (ps : List Position) → Whole false v n ps → number_tested (number_before v n) k ≡ Ok tt → judged_of p ≡ nothing_refused
      → length o < length (with v ps k p) → r ≡ Err (Room (length (with v ps k p))) → x ≡ o → Adds v k p o r x
  -- the longer volume, and what stood beyond
  added : (n : ℕ) (ps : List Position) → Whole false v n ps → number_tested (number_before v n) k ≡ Ok tt → judged_of p ≡ nothing_refused
      → length (with v ps k p) ≤ length o → r ≡ Ok (length (with v ps k p)) → x ≡ with v ps k p ++ drop (length (with v ps k p)) o → Adds v k p o r x
