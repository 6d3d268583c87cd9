-- What the Rust's search for checkers and pins comes to, in the words of the men.
use mathlib.Core.Bool.{Bool, not, cond}
use Prim.Native.Nat.{ℕ, zero, suc}
use lib.Dec.{eqb}
use lib.Bits.{bit_and, bit_xor}
use Rattle.squares.specs.Tests.{◌and◌}
use Rattle.squares.specs.Squares.{has, set_of, only, size}
use Rattle.geometry.specs.declared.Color.{Color}
use Rattle.geometry.specs.Colors.{opp}
use Rattle.geometry.specs.Lines.{between_of}
use Rattle.geometry.specs.Steps.{knight_step, pawn_takes}
use Rattle.laws.specs.declared.Piece.TheVariants.{Pawn, Knight}
use Rattle.laws.specs.Men.{man, Men, same_man}
use Rattle.laws.specs.Attacks.{union_of}
use Rattle.pins.specs.inner.Kings.{snipers_of}

-- the set x with the sets f a of the squares a below n, one after the other
unfoldable pub xor_from : ℕ → ℕ → (ℕ → ℕ) → ℕ
xor_from x zero f = x
xor_from x (suc n) f = bit_xor (xor_from x n f) (f n)

-- the knights and pawns that check c's king on q, and what stands between a and q
abbrev pub knights_at : Men → Color → ℕ → ℕ → Bool
knights_at m c q a = knight_step q a and same_man (m a) (man (opp c) Knight)

abbrev pub pawns_at : Men → Color → ℕ → ℕ → Bool
pawns_at m c q a = pawn_takes c q a and same_man (m a) (man (opp c) Pawn)

abbrev pub mid : Men → ℕ → ℕ → ℕ
mid m q a = bit_and (between_of a q) (union_of m)

-- what the square a of the sliding attackers brings
abbrev pub slider_check : Men → Color → ℕ → ℕ → ℕ
slider_check m c q a = cond (has (snipers_of m (opp c) q) a and eqb (mid m q a) 0) (only a) 0

abbrev pub slider_pin : Men → Color → ℕ → ℕ → ℕ
slider_pin m c q a = cond (has (snipers_of m (opp c) q) a and not (eqb (mid m q a) 0) and eqb (size (mid m q a)) 1) (mid m q a) 0

-- knights and pawns where they are asked for
unfoldable pub near_at : Men → Color → (knights pawns : Bool) → ℕ → ℕ
near_at m c knights pawns q = bit_xor (cond knights (set_of (knights_at m c q)) 0) (cond pawns (set_of (pawns_at m c q)) 0)

unfoldable pub checkers_at : Men → Color → (knights pawns : Bool) → ℕ → ℕ
checkers_at m c knights pawns q = xor_from (near_at m c knights pawns q) 64 (slider_check m c q)

unfoldable pub pins_at : Men → Color → ℕ → ℕ
pins_at m c q = xor_from 0 64 (slider_pin m c q)
