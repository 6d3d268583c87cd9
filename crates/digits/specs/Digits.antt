-- What a hexadecimal digit stands for.
use Rattle.std.specs.Prelude.{cond, ℕ, ◌-◌, leb}
use Rattle.squares.specs.Tests.{◌and◌}

-- 0 to 9 and a to f; 16 for any other byte
unfoldable pub hex_digit : ℕ → ℕ
hex_digit b = cond (leb 48 b and leb b 57) (b - 48) (cond (leb 97 b and leb b 102) (b - 87) 16)
