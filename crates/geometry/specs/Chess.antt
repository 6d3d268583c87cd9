-- What the Rust asks of the crate `chess`, in the words of squares and geometry. Sets of squares; everything here computes on numerals.
use Rattle.std.specs.Prelude.{ℕ, eqb}
use Rattle.squares.specs.Squares.{file, rank, set_of}
use Rattle.geometry.specs.declared.Color.{Color}
use Rattle.geometry.specs.Lines.{files, straight, diagonal, line, free}
use Rattle.geometry.specs.Steps.{knight_step, king_step, pawn_takes, reaches}

-- `get_rank(n)` and `get_file(n)`, counted from 0
abbrev pub rank_set : ℕ → ℕ
rank_set n = set_of (λ k. eqb (rank k) n)

abbrev pub file_set : ℕ → ℕ
file_set n = set_of (λ k. eqb (file k) n)

-- `get_adjacent_files(sq.get_file())`
unfoldable pub adjacent_files : ℕ → ℕ
adjacent_files sq = set_of (λ k. eqb (files sq k) 1)

-- `get_knight_moves(sq)`, `get_king_moves(sq)`, `get_bishop_moves(sq, occ)`, `get_rook_moves(sq, occ)`, `get_pawn_attacks(sq, color, !EMPTY)`
abbrev pub knight_moves : ℕ → ℕ
knight_moves sq = set_of (knight_step sq)

abbrev pub king_moves : ℕ → ℕ
king_moves sq = set_of (king_step sq)

abbrev pub bishop_moves : ℕ → ℕ → ℕ
bishop_moves sq occ = set_of (reaches diagonal (free occ) sq)

abbrev pub rook_moves : ℕ → ℕ → ℕ
rook_moves sq occ = set_of (reaches straight (free occ) sq)

abbrev pub pawn_attacks : Color → ℕ → ℕ
pawn_attacks c sq = set_of (pawn_takes c sq)

-- `line(a, b)`
abbrev pub line_of : ℕ → ℕ → ℕ
line_of a b = set_of (line a b)
