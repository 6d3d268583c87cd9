-- Packing: every retraction that a list holds fits 16 bits, and is read back from them.
use mathlib.Core.Path.{◌≡◌, ap, ◌∙◌}
use mathlib.Core.Bool.{Bool, true, false}
use Prim.Native.Nat.{ℕ, ◌+◌, ◌*◌, ◌/◌, ◌%◌, ◌≤◌, ◌<◌}
use native.Mathlib.Omega.{arith}
use lib.Dec.{eqb}
use Rattle.squares.specs.Squares.{flag}
use Rattle.laws.specs.declared.ChessRetraction.{ChessRetraction}
use Rattle.laws.specs.Retractions.{packed, unpacked, InRange}
use mir.Val.{bool_byte}
use Rattle.squares.proofs.Comprehension.{flag_lt, flag_back}

-- the parts of a packed number: source, target, uncaptured and mark
digits : (s t u x : ℕ) → s < 64 → t < 64 → u ≤ 5 → x < 2
    → ((s + 64 * t + 4096 * u + 32768 * x) % 64 ≡ s) × ((s + 64 * t + 4096 * u + 32768 * x) / 64 % 64 ≡ t)
    × ((s + 64 * t + 4096 * u + 32768 * x) / 4096 % 8 ≡ u) × ((s + 64 * t + 4096 * u + 32768 * x) / 32768 ≡ x)
digits s t u x hs ht hu hx = omega arith

pub unpacked_packed : (r : ChessRetraction) → InRange r → unpacked (packed r) ≡ r
unpacked_packed r h = λ i. record { source = d.0 i; target = d.1 i; uncaptured = d.2 i; unpromotion = mark i }
  where
    d : (packed r % 64 ≡ r.source) × (packed r / 64 % 64 ≡ r.target) × (packed r / 4096 % 8 ≡ r.uncaptured) × (packed r / 32768 ≡ flag r.unpromotion)
    d = digits r.source r.target r.uncaptured (flag r.unpromotion) h.source_in h.target_in h.uncaptured_in (flag_lt r.unpromotion)

    mark : eqb (packed r / 32768) 1 ≡ r.unpromotion
    mark = ap (λ (q : ℕ). eqb q 1) d.3 ∙ flag_back r.unpromotion

-- `b as u16` is the mark
pub byte_lt : (b : Bool) → bool_byte b < 2
byte_lt true = omega arith
byte_lt false = omega arith
