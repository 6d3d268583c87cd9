-- A volume: "first a table of contents, one row a problem, with its number, edition, place and length in bytes, then the bodies". docs/VOLUME.md has it
-- in words.
use Rattle.std.specs.Prelude.{List, [], ◌∷◌, ℕ, ◌+◌, ◌*◌, ◌/◌, ◌%◌, get_or}
use Rattle.laws.specs.declared.Edition.{Edition}
use Rattle.laws.specs.declared.Edition.TheVariants.{A, B}
use Rattle.volume_contents.specs.declared.Entry.{Entry}

-- six bytes: `VOL`, the version 1, and the number of problems, high byte first
abbrev pub head_of : ℕ → List ℕ
head_of n = 86 ∷ 79 ∷ 76 ∷ 1 ∷ n / 256 % 256 ∷ n % 256 ∷ []

-- the letters A and B
abbrev pub edition_byte : Edition → ℕ
edition_byte A = 65
edition_byte B = 66

-- eight bytes: the number in two, the edition, the place in four, the length; high bytes first
abbrev pub row_of : ℕ → Edition → ℕ → List ℕ
row_of k v p = k / 256 % 256 ∷ k % 256 ∷ edition_byte v ∷ p / 16777216 % 256 ∷ p / 65536 % 256 ∷ p / 256 % 256 ∷ p % 256 ∷ 34 ∷ []

-- "then the bodies in the same order without gaps": the place of the body i of n, and of the end of the file behind the last
abbrev pub body_place : ℕ → ℕ → ℕ
body_place n i = 6 + 8 * n + 34 * i

abbrev pub size_of : ℕ → ℕ
size_of n = 6 + 42 * n

-- numbers in the bytes, high byte first; a byte that is not there is 0
abbrev pub two_at : List ℕ → ℕ → ℕ
two_at v i = 256 * get_or v i 0 + get_or v (i + 1) 0

-- the row that stands in v from a place on
abbrev pub entry_at : List ℕ → ℕ → Entry
entry_at v a = record { number = two_at v a; edition = get_or v (a + 2) 0; place = 65536 * two_at v (a + 3) + two_at v (a + 5); length = get_or v (a + 7) 0 }
