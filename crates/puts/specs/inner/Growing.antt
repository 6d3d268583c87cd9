-- How long an answer may become.
use Rattle.std.specs.Prelude.{ℕ, ◌+◌, ◌-◌, ◌≤◌}

-- behind the first `len` bytes of an answer something was put, and r are in use then: none is given up, and none is counted that the 65,536 have not
abbrev pub Grows : ℕ → ℕ → Type 0
Grows len r = (len ≤ r) × (r ≤ len + (65536 - len))
