-- The lenient reader of a body. Nobody has to believe this file: the reader's contract speaks of Layout alone.
use Rattle.std.specs.Prelude.{◌≡◌, cond, List, ℕ, ◌/◌, ◌%◌, ◌<◌, eqb, ltb, get_or}
use Rattle.laws.specs.declared.Edition.{Edition}
use Rattle.laws.specs.Men.{Men, empty}
use Rattle.laws.specs.Positions.{terms_of}
use Rattle.laws.specs.Boards.{kind_sets, color_sets}
use Rattle.men_field.specs.inner.Letters.{place_of, man_by_number}
use Rattle.position.specs.inner.Edits.{color_by}
use Rattle.position_text.specs.declared.Form.TheVariants.{InForm}
use Rattle.position_text.specs.declared.Raw.{Raw}
use Rattle.position_text.specs.inner.Reading.{side_of, flag_of}

-- the half of a byte that a place has
unfoldable pub half_of : ℕ → ℕ → ℕ
half_of b p = cond (eqb (p % 2) 0) (b / 16) (b % 16)

-- the number at a place
abbrev pub half_at : List ℕ → ℕ → ℕ
half_at t p = half_of (get_or t (p / 2) 0) p

-- l has the numbers at the 64 places
abbrev pub NumbersOf : List ℕ → List ℕ → Type 0
NumbersOf t l = (p : ℕ) → p < 64 → get_or l p 0 ≡ half_at t p

-- the men of the first 32 bytes
unfoldable pub men_by : List ℕ → Men
men_by t k = cond (ltb k 64) (man_by_number (half_at t (place_of k))) empty

abbrev pub read_of : Edition → List ℕ → Raw
read_of v t =
    record {
      form = InForm;
      position = record {
        pieces = kind_sets (men_by t);
        colors = color_sets (men_by t);
        turn = color_by (get_or t 32 0);
        white = side_of (get_or t 32 0 / 2 % 4);
        black = side_of (get_or t 32 0 / 8 % 4);
        passant = flag_of (get_or t 33 0);
        terms = terms_of v;
      };
    }
