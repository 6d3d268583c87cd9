-- The definitions at work: the report of the board that document 01 prints, a strict row, and a number.
use mathlib.Core.Path.{◌≡◌, refl}
use mathlib.Core.List.{List, [], ◌∷◌}
use Prim.Native.Nat.{ℕ, ◌+◌, ◌^◌}
use Rattle.squares.specs.Tests.{◌or◌}
use Rattle.squares.specs.Squares.{has}
use Rattle.squares.specs.Members.{list_to, members, concat}
use Rattle.square_names.specs.Names.{squares_text}
use Rattle.rows.specs.Rows.{decimal_in, decimal_of, uncaptured_letter, is_in, report_of}

-- the rook on e1 and the pawn on d6
abbrev pub checkers : ℕ
checkers = 2 ^ 4 + 2 ^ 43

-- d6e5 with P, N, B, R and Q, d6c5, d6e5
abbrev pub listed : List ℕ
listed = 6443 ∷ 10539 ∷ 14635 ∷ 18731 ∷ 22827 ∷ 2219 ∷ 2347 ∷ []

abbrev pub strict : List ℕ
strict = 2347 ∷ 6443 ∷ 10539 ∷ 14635 ∷ 18731 ∷ 22827 ∷ []

-- "listed 7 strict 6", "e1 d6" and its seven rows, byte for byte
abbrev pub printed : List ℕ
printed =
    108 ∷ 105 ∷ 115 ∷ 116 ∷ 101 ∷ 100 ∷ 32 ∷ 55 ∷ 32 ∷ 115 ∷ 116 ∷ 114 ∷ 105 ∷ 99 ∷ 116 ∷ 32 ∷ 54 ∷ 10
    ∷ 101 ∷ 49 ∷ 32 ∷ 100 ∷ 54 ∷ 10
    ∷ 100 ∷ 54 ∷ 101 ∷ 53 ∷ 32 ∷ 80 ∷ 32 ∷ 46 ∷ 32 ∷ 43 ∷ 10
    ∷ 100 ∷ 54 ∷ 101 ∷ 53 ∷ 32 ∷ 78 ∷ 32 ∷ 46 ∷ 32 ∷ 43 ∷ 10
    ∷ 100 ∷ 54 ∷ 101 ∷ 53 ∷ 32 ∷ 66 ∷ 32 ∷ 46 ∷ 32 ∷ 43 ∷ 10
    ∷ 100 ∷ 54 ∷ 101 ∷ 53 ∷ 32 ∷ 82 ∷ 32 ∷ 46 ∷ 32 ∷ 43 ∷ 10
    ∷ 100 ∷ 54 ∷ 101 ∷ 53 ∷ 32 ∷ 81 ∷ 32 ∷ 46 ∷ 32 ∷ 43 ∷ 10
    ∷ 100 ∷ 54 ∷ 99 ∷ 53 ∷ 32 ∷ 46 ∷ 32 ∷ 46 ∷ 32 ∷ 45 ∷ 10
    ∷ 100 ∷ 54 ∷ 101 ∷ 53 ∷ 32 ∷ 46 ∷ 32 ∷ 46 ∷ 32 ∷ 43 ∷ 10
    ∷ []

pub printed_is : report_of checkers listed strict ≡ printed
unfolding report_of squares_text decimal_in uncaptured_letter is_in members list_to has concat ◌or◌
printed_is = refl

-- an un-promotion, d8d7, that is strict only, and no checker: "listed 0 strict 1", "-" and "d8d7 . = *"
pub starred : report_of 0 [] (36091 ∷ [])
    ≡ 108 ∷ 105 ∷ 115 ∷ 116 ∷ 101 ∷ 100 ∷ 32 ∷ 48 ∷ 32 ∷ 115 ∷ 116 ∷ 114 ∷ 105 ∷ 99 ∷ 116 ∷ 32 ∷ 49 ∷ 10
    ∷ 45 ∷ 10
    ∷ 100 ∷ 56 ∷ 100 ∷ 55 ∷ 32 ∷ 46 ∷ 32 ∷ 61 ∷ 32 ∷ 42 ∷ 10 ∷ []
unfolding report_of squares_text decimal_in uncaptured_letter is_in members list_to has concat ◌or◌
starred = refl

pub decimals : decimal_of 298 ≡ 50 ∷ 57 ∷ 56 ∷ []
unfolding decimal_in
decimals = refl
