-- The two editions side by side: all that parts them is what a double step must have beside it to be named.
use mathlib.Core.Path.{◌≡◌, refl}
use mathlib.Core.Bool.{Bool, true, false, cond}
use Prim.Native.Nat.{ℕ}
use lib.Dec.{eqb}
use Rattle.squares.specs.Tests.{◌and◌}
use Rattle.geometry.specs.declared.Color.{Color}
use Rattle.geometry.specs.Colors.{opp}
use Rattle.geometry.specs.Lines.{ranks}
use Rattle.laws.specs.declared.Piece.TheVariants.{Pawn}
use Rattle.laws.specs.declared.EnPassantFlag.TheVariants.{Some, None}
use Rattle.laws.specs.declared.Edition.TheVariants.{A, B}
use Rattle.laws.specs.Men.{man, Men, same_man, is_empty}
use Rattle.laws.specs.Acceptance.{beside, state_ok}
use Rattle.laws.specs.Moves.{state_after}

and_true : (a b : Bool) → (a and b) ≡ (a and true and b)
unfolding ◌and◌
and_true true b = refl
and_true false b = refl

then_true : (a : Bool) → (a and true) ≡ a
unfolding ◌and◌
then_true true = refl
then_true false = refl

-- "in B, 5 loses its neighbour clause", and nothing else of 5 changes
pub five_in_a : (m : Men) (c : Color) (q : ℕ) → state_ok A m c (Some q) ≡ (state_ok B m c (Some q) and beside m (man c Pawn) q)
five_in_a m c q = and_true _ (beside m (man c Pawn) q)

-- in A the state after a pawn's move is its square exactly if it was a double step beside an enemy pawn, in B exactly if it was a double step
pub after_in_a : (m : Men) (c : Color) (t s : ℕ) → state_after A m (man c Pawn) t s ≡ cond (eqb (ranks t s) 2 and beside m (man (opp c) Pawn) s) (Some s) None
after_in_a m c t s = refl

pub after_in_b : (m : Men) (c : Color) (t s : ℕ) → state_after B m (man c Pawn) t s ≡ cond (eqb (ranks t s) 2) (Some s) None
after_in_b m c t s = rw (then_true (eqb (ranks t s) 2))
