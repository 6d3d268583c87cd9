-- 17 CONTENTS: "a row with a bad number, edition or length, rows out of order, gaps, overlaps, outside the file, .. or, going back to lines, a number that
-- isn't its place or edition B". Each condition is a test with its name; the first that fails is told.
use Rattle.std.specs.Prelude.{◌≡◌, Bool, cond, not, Result, Ok, Err, List, ℕ, zero, suc, ◌+◌, ◌*◌, ◌<◌, eqb, leb, ltb, length, get_or}
use Rattle.squares.specs.Tests.{◌and◌, ◌or◌}
use Rattle.volume_contents.specs.declared.Entry.{Entry}
use Rattle.volume_contents.specs.declared.Flaw.{Flaw}
use Rattle.volume_contents.specs.declared.Flaw.TheVariants.{Mark, Version, Size, Number, Edition, Length, Order, Outside, Overlap, Gap, Place, EditionB}
use Rattle.volume_contents.specs.Layout.{two_at, entry_at, body_place, size_of}

-- whether a head or a row passes its tests, or the first that it fails
abbrev pub Tested : Type 0
Tested = Result (Unit {0}) Flaw

-- a test, what is told if it fails, and the tests behind it
abbrev pub unless : Bool → Flaw → Tested → Tested
unless passes flaw behind = cond passes behind (Err flaw)

-- the head: the mark `VOL`, the version 1, and a size that is that of so many rows and bodies
abbrev pub marked : List ℕ → Bool
marked v = eqb (get_or v 0 0) 86 and eqb (get_or v 1 0) 79 and eqb (get_or v 2 0) 76

abbrev pub problems : List ℕ → ℕ
problems v = two_at v 4

unfoldable pub head_tested : List ℕ → ℕ → Tested
head_tested v size = unless (marked v) Mark (unless (eqb (get_or v 3 0) 1) Version (unless (eqb size (size_of (problems v))) Size (Ok tt)))

-- "a bad number, edition or length": 0, neither A nor B, not 34
abbrev pub numbered : Entry → Bool
numbered e = ltb 0 e.number

abbrev pub editioned : Entry → Bool
editioned e = eqb e.edition 65 or eqb e.edition 66

abbrev pub long : Entry → Bool
long e = eqb e.length 34

-- "rows out of order": "Problem numbers are 1 to 65,535 and rise strictly"
abbrev pub rises : ℕ → Entry → Bool
rises last e = ltb last e.number

-- "outside the file"
abbrev pub inside : ℕ → Entry → Bool
inside n e = leb (e.place + e.length) (size_of n)

-- "overlaps": it begins before the one before it ends; "gaps": behind that
abbrev pub apart : ℕ → ℕ → Entry → Bool
apart n i e = leb (body_place n i) e.place

abbrev pub close : ℕ → ℕ → Entry → Bool
close n i e = leb e.place (body_place n i)

-- "going back to lines, a number that isn't its place or edition B"
abbrev pub its_place : Bool → ℕ → Entry → Bool
its_place back i e = not back or eqb e.number (i + 1)

abbrev pub of_a : Bool → Entry → Bool
of_a back e = not back or eqb e.edition 65

-- the row i of n, behind a row with the number `last`; `back` is whether it goes back to lines
unfoldable pub row_tested : Bool → ℕ → ℕ → ℕ → Entry → Tested
row_tested back n i last e =
    unless (numbered e) Number (unless (editioned e) Edition (unless (long e) Length (unless (rises last e) Order (unless (inside n e) Outside
    (unless (apart n i e) Overlap (unless (close n i e) Gap (unless (its_place back i e) Place (unless (of_a back e) EditionB (Ok tt)))))))))

-- the row i of a volume, and the number before it, 0 before the first
abbrev pub row_at : List ℕ → ℕ → Entry
row_at v i = entry_at v (6 + 8 * i)

abbrev pub number_before : List ℕ → ℕ → ℕ
number_before v zero = 0
number_before v (suc i) = (row_at v i).number

abbrev pub tested_at : Bool → List ℕ → ℕ → ℕ → Tested
tested_at back v n i = row_tested back n i (number_before v i) (row_at v i)

-- a volume of n problems whose head and rows are sound
pub record Table (back : Bool) (v : List ℕ) (n : ℕ) : Type 0 where
  pub head : head_tested v (length v) ≡ Ok tt
  pub count : problems v ≡ n
  pub rows : (i : ℕ) → i < n → tested_at back v n i ≡ Ok tt

-- 17 with its row, counted from 1, the first that is not sound; 0 is the head
pub data Spoilt (back : Bool) (v : List ℕ) : ℕ → Flaw → Type 0 where
  head : (w : Flaw) → head_tested v (length v) ≡ Err w → Spoilt back v 0 w
  row : (i : ℕ) (w : Flaw) → head_tested v (length v) ≡ Ok tt → i < problems v
      → ((j : ℕ) → j < i → tested_at back v (problems v) j ≡ Ok tt) → tested_at back v (problems v) i ≡ Err w → Spoilt back v (suc i) w
