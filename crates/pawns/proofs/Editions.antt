-- What parts the pawn's list in edition B from the Rust's: a dash lists no double step, and nothing else.
use mathlib.Core.Path.{◌≡◌, refl}
use mathlib.Core.Bool.{Bool, true, false, cond}
use Prim.Native.Nat.{ℕ}
use Rattle.squares.specs.Tests.{◌and◌}
use Rattle.squares.specs.Squares.{only}
use Rattle.laws.specs.declared.EnPassantFlag.{EnPassantFlag}
use Rattle.laws.specs.declared.EnPassantFlag.TheVariants.{Any, Some, None}
use Rattle.laws.specs.declared.Edition.TheVariants.{A, B}
use Rattle.view.specs.declared.View.{View}
use Rattle.pawns.specs.Pawns.{allows_of, doubled_of, crossed_of}

never : (a b : Bool) → ((a and false) and b) ≡ false
unfolding ◌and◌
never true b = refl
never false b = refl

-- "in B a dash lists no double step": a push came from the square behind alone
pub single_step : (v : View) → v.edition ≡ B → v.passant ≡ None → (src crossed : ℕ) → crossed_of v src crossed ≡ only crossed
unfolding crossed_of doubled_of
single_step v e n src crossed = rw (e, n, never _ _)

-- unless the state is a dash, the editions ask the same
pub same_unless_dash : (e : EnPassantFlag) (lonely : Bool) → (e ≡ None → ⊥) → allows_of B e lonely ≡ allows_of A e lonely
same_unless_dash Any lonely h = refl
same_unless_dash (Some sq) lonely h = refl
same_unless_dash None lonely h = absurd (h refl)
