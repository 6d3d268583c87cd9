-- Parts of a volume that are written one behind the other.
use Rattle.std.specs.Prelude.{◌≡◌, List, [], ◌++◌, ℕ, zero, suc, ◌+◌, ◌*◌, ◌≤◌, length, take, drop}
use Rattle.laws.specs.declared.Edition.TheVariants.{A}
use Rattle.laws.specs.declared.Position.{Position}
use Rattle.volume_contents.specs.Layout.{row_of, body_place}
use Rattle.volume_lines.specs.Register.{Lines}
use Rattle.volume_make.specs.Volumes.{bodies_of, numbered_from, bound}

-- the first n of parts that are named by their place
unfoldable pub joined : (ℕ → List ℕ) → ℕ → List ℕ
joined f zero = []
joined f (suc n) = joined f n ++ f n

-- the row of the problem i + 1 of n lines
abbrev pub plain_row : ℕ → ℕ → List ℕ
plain_row n i = row_of (i + 1) A (body_place n i)

-- room for the bodies of lines from a place on
pub record Sized (t o : List ℕ) (start : ℕ) : Type 0 where
  pub boards : List Position
  pub lines : Lines boards t
  pub room : start + 34 * length boards ≤ length o

abbrev pub BodiesIn : List ℕ → List ℕ → ℕ → List ℕ → Type 0
BodiesIn t o start x =
    (ps : List Position) → Lines ps t → x ≡ take start o ++ bodies_of (numbered_from 1 ps) ++ drop (start + 34 * length ps) o

-- room for the volume of n lines
pub record Counted (t o : List ℕ) (n : ℕ) : Type 0 where
  pub boards : List Position
  pub lines : Lines boards t
  pub count : length boards ≡ n
  pub room : 6 + 42 * n ≤ length o

abbrev pub VolumeIn : List ℕ → List ℕ → List ℕ → Type 0
VolumeIn t o x = (ps : List Position) → Lines ps t → x ≡ bound ps ++ drop (length (bound ps)) o
