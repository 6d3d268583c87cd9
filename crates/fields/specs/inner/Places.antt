-- Places of a line.
use Rattle.std.specs.Prelude.{List, ℕ, ◌+◌, ◌-◌, ◌≤◌, length}

-- from the place `at` of a line on one comes to r: no way back, and not past the line's end; a place past that stays
abbrev pub Onward : List ℕ → ℕ → ℕ → Type 0
Onward line at r = (at ≤ r) × (r ≤ at + (length line - at))
