-- A body in the words of docs/VOLUME.md, beside what the writer writes: it has no board "exactly when a half byte is 1, E or F, byte 32 is above 1F, or byte 33
-- is above 41".
use Rattle.std.specs.Prelude.{Bool, List, ℕ, ◌/◌, ◌%◌, eqb, leb, length, get_or}
use Rattle.squares.specs.Tests.{◌and◌, ◌or◌}
use Rattle.squares.specs.Squares.{all_to}

-- a half byte that is 0 or a man's: not 1, E or F
unfoldable pub half_ok : ℕ → Bool
half_ok n = eqb n 0 or (leb 2 n and leb n 13)

-- 34 bytes: both halves of each of the first 32 say a man or none, bits 5 to 7 of the next are 0, and the last is a state
unfoldable pub body_ok : List ℕ → Bool
body_ok t =
    eqb (length t) 34 and all_to 32 (λ j. half_ok (get_or t j 0 / 16) and half_ok (get_or t j 0 % 16)) and leb (get_or t 32 0) 31 and leb (get_or t 33 0) 65
