-- The lenient reader, as a walk over the bytes. Nobody has to believe this file: the reader's contract speaks of Form alone.
use Rattle.std.specs.Prelude.{cond, List, [], ◌∷◌, ℕ, ◌+◌, ◌-◌, ◌*◌, ◌/◌, ◌%◌, eqb, leb, ltb, set, replicate}
use Rattle.geometry.specs.declared.Color.{Color}
use Rattle.geometry.specs.declared.Color.TheVariants.{White, Black}
use Rattle.laws.specs.declared.CastleRights.{CastleRights}
use Rattle.laws.specs.declared.CastleRights.TheVariants.{NoRights, KingSide, QueenSide, Both}
use Rattle.laws.specs.declared.EnPassantFlag.{EnPassantFlag}
use Rattle.laws.specs.declared.Edition.{Edition}
use Rattle.laws.specs.declared.EnPassantFlag.TheVariants.{Any, Some, None}
use Rattle.laws.specs.Positions.{terms_of}
use Rattle.laws.specs.Boards.{kind_sets, color_sets}
use Rattle.position.specs.Answers.{no_position}
use Rattle.men_field.specs.inner.Letters.{number_by_letter, width_of, men_by_numbers}
use Rattle.position_text.specs.declared.Scan.{Scan}
use Rattle.position_text.specs.declared.Form.TheVariants.{InForm, OutOfForm}
use Rattle.position_text.specs.declared.Raw.{Raw}

unfoldable pub right_of : ℕ → ℕ
right_of b = cond (eqb b 75) 1 (cond (eqb b 81) 2 (cond (eqb b 107) 4 (cond (eqb b 113) 8 0)))

-- the state after one more byte of its field: 64 stands for none, 65 for unknown
unfoldable pub square_of : ℕ → ℕ → ℕ
square_of s b = cond (eqb b 45) 64 (cond (eqb b 63) 65 (cond (ltb b 97) (s % 8 + 8 * ((b + 7) % 8)) ((b - 97) % 8)))

abbrev pub with_turn : Scan → ℕ → Scan
with_turn s b = record { men = s.men; at = s.at; field = s.field; turn = b; rights = s.rights; square = s.square }

abbrev pub with_rights : Scan → ℕ → Scan
with_rights s n = record { men = s.men; at = s.at; field = s.field; turn = s.turn; rights = n; square = s.square }

abbrev pub with_square : Scan → ℕ → Scan
with_square s n = record { men = s.men; at = s.at; field = s.field; turn = s.turn; rights = s.rights; square = n }

abbrev pub with_field : Scan → ℕ → Scan
with_field s n = record { men = s.men; at = s.at; field = n; turn = s.turn; rights = s.rights; square = s.square }

abbrev pub with_man : Scan → ℕ → ℕ → Scan
with_man s m w = record { men = set s.men s.at m; at = s.at + w; field = s.field; turn = s.turn; rights = s.rights; square = s.square }

unfoldable pub step_men : Scan → ℕ → Scan
step_men s b = cond (leb 64 s.at) s (with_man s (number_by_letter b) (width_of b))

unfoldable pub step_tail : Scan → ℕ → Scan
step_tail s b =
    cond (eqb s.field 1) (with_turn s b)
    (cond (eqb s.field 2) (with_rights s ((s.rights % 16 + right_of b) % 16)) (with_square s (square_of s.square b)))

unfoldable pub step_of : Scan → ℕ → Scan
step_of s b = cond (eqb b 32) (with_field s (s.field % 4 + 1)) (cond (eqb s.field 0) (step_men s b) (step_tail s b))

abbrev pub start_of : Scan
start_of = record { men = replicate 64 0; at = 0; field = 0; turn = 0; rights = 0; square = 0 }

unfoldable pub run_of : Scan → List ℕ → Scan
run_of s [] = s
run_of s (b ∷ t) = run_of (step_of s b) t

abbrev pub turn_of : ℕ → Color
turn_of b = cond (eqb b 98) Black White

abbrev pub side_of : ℕ → CastleRights
side_of n = cond (eqb n 0) NoRights (cond (eqb n 1) KingSide (cond (eqb n 2) QueenSide Both))

abbrev pub flag_of : ℕ → EnPassantFlag
flag_of n = cond (eqb n 64) None (cond (eqb n 65) Any (Some (n % 64)))

abbrev pub raw_of : Edition → Scan → Raw
raw_of v s =
    record {
      form = InForm;
      position = record {
        pieces = kind_sets (men_by_numbers s.men);
        colors = color_sets (men_by_numbers s.men);
        turn = turn_of s.turn;
        white = side_of (s.rights % 4);
        black = side_of (s.rights / 4);
        passant = flag_of s.square;
        terms = terms_of v;
      };
    }

abbrev pub no_raw : Raw
no_raw = record { form = OutOfForm; position = no_position }
