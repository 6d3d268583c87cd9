-- How many entries each section of the ported list can have.
use Rattle.std.specs.Prelude.{Bool, ℕ, ◌+◌, ◌*◌}
use Rattle.std.specs.Int.Bits.{bit_and}
use Rattle.squares.specs.Tests.{◌or◌}
use Rattle.squares.specs.Squares.{flag, size}
use Rattle.laws.specs.declared.Piece.TheVariants.{Knight, Bishop, Rook, Queen}
use Rattle.laws.specs.Men.{kind_place}
use Rattle.view.specs.declared.View.{View}
use Rattle.officers.specs.Officers.{kind_men, free_of}
use Rattle.un_en_passant.specs.UnEnPassants.{pawns_of}
use Rattle.pawns.specs.Pawns.{candidate_retractors}
use Rattle.kings.specs.Kings.{short_of, long_of}

-- the checkers of a kind, by its place among the six: `checkers & pieces & !castling_rooks`
abbrev pub checkers_of : View → ℕ → ℕ
checkers_of s k = bit_and s.checkers (free_of s k)

-- knights, bishops, rooks and queens: an entry for each, and a second for one that checks
abbrev pub officer_entries : View → ℕ → ℕ
officer_entries s k = size (kind_men s k) + size (checkers_of s k)

-- an un-castling passes its tests
abbrev pub castled : View → ℕ → Bool
castled s n = short_of s n or long_of s n

-- the most entries that the list can have with n checkers, section by section
abbrev pub entries_of : View → ℕ → ℕ
entries_of s n =
    -- an un-push and an uncapture for each pawn and each man on the last rank, but those that the checkers rule out
    2 * size (candidate_retractors s n)
    -- an un-en-passant for each pawn
    + size (pawns_of s)
    + officer_entries s (kind_place Knight) + officer_entries s (kind_place Bishop) + officer_entries s (kind_place Rook) + officer_entries s (kind_place Queen)
    -- two for the king's steps, where a capture is optional and where it is necessary, and one for its un-castling
    + (2 + flag (castled s n))
