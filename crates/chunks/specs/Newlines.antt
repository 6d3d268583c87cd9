-- Where the next newline stands.
use Rattle.std.specs.Prelude.{cond, List, ℕ, zero, suc, eqb, get_or}

-- the place of the first newline among the n bytes from `at` on, or the place past them
unfoldable pub stop_from : List ℕ → ℕ → ℕ → ℕ
stop_from s at zero = at
stop_from s at (suc n) = cond (eqb (get_or s at 0) 10) at (stop_from s (suc at) n)
