-- What piece_type.rs asks of the crate `chess` beyond geometry/specs/Chess.antt. Ranks and files are counted from 0, so `File::H` is 7.
use Rattle.std.specs.Prelude.{ℕ, ◌+◌, ◌*◌, ◌%◌, if◌then◌else◌}
use Rattle.squares.specs.Squares.{file, rank, set_of}
use Rattle.squares.specs.Tests.{◌or◌}
use Rattle.geometry.specs.declared.Color.{Color}
use Rattle.geometry.specs.Colors.{opp, own_rank, back_of}
use Rattle.geometry.specs.Steps.{pawn_step, pawn_double}
use Rattle.geometry.specs.Chess.{pawn_attacks}
use Rattle.piece_type.specs.Bitboards.{◌&◌, !◌, ◌!=◌, EMPTY, from_square}

-- `color.to_my_backrank()`, `to_second_rank`, `to_fourth_rank`, `to_their_backrank`
abbrev pub to_my_backrank : Color → ℕ
to_my_backrank color = own_rank color 0

abbrev pub to_second_rank : Color → ℕ
to_second_rank color = own_rank color 1

abbrev pub to_fourth_rank : Color → ℕ
to_fourth_rank color = own_rank color 3

abbrev pub to_their_backrank : Color → ℕ
to_their_backrank color = own_rank color 7

-- `Square::make_square(rank, file)`
abbrev pub make_square : ℕ → ℕ → ℕ
make_square r f = r * 8 + f

-- `sq.uleft()` and `sq.uright()`: the next file of the rank, round the edge; `sq.ubackward(color)` and `sq.uforward(color)`
abbrev pub uleft : ℕ → ℕ
uleft sq = make_square (rank sq) ((file sq + 7) % 8)

abbrev pub uright : ℕ → ℕ
uright sq = make_square (rank sq) ((file sq + 1) % 8)

abbrev pub ubackward : Color → ℕ → ℕ
ubackward color sq = back_of color sq

abbrev pub uforward : Color → ℕ → ℕ
uforward color sq = back_of (opp color) sq

-- `get_pawn_attacks(sq, color, blockers)` and `get_pawn_quiets(sq, color, blockers)`
abbrev pub get_pawn_attacks : ℕ → Color → ℕ → ℕ
get_pawn_attacks sq color blockers = pawn_attacks color sq & blockers

abbrev pub get_pawn_quiets : ℕ → Color → ℕ → ℕ
get_pawn_quiets sq color blockers =
    if from_square (uforward color sq) & blockers != EMPTY then EMPTY else set_of (λ k. pawn_step color sq k or pawn_double color sq k) & ! blockers
