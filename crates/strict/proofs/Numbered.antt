-- 13, exactly when: of whatever answer the promise of `strict_into` allows.
use mathlib.Core.Path.{◌≡◌, ap, ◌∙◌}
use mathlib.Core.Bool.{not}
use mathlib.Core.List.{List}
use Prim.Native.Nat.{ℕ}
use lib.Dec.{eqb, leb}
use lib.ListN.{length, length-map}
use Rattle.squares.specs.Tests.{◌and◌}
use Rattle.laws.specs.Retractions.{packed}
use Rattle.refusal.specs.Said.{first_failing, Said, number_said, fitting, behind}
use Rattle.board.specs.declared.RetractableBoard.{RetractableBoard}
use Rattle.board.specs.Gate.{board_tests}
use Rattle.slots.specs.declared.Unlisted.{Unlisted}
use Rattle.slots.specs.Slots.{listed_says}
use Rattle.strict.specs.Demand.{Lists}
use Rattle.board.proofs.Numbers.{room_seven}
use Rattle.std.specs.Prelude.{Result}

-- 1 to 7 pass, and the lent slice is shorter than the strict list
pub room_exactly : (b : RetractableBoard) (s after : List ℕ) (r : Result ℕ Unlisted) (x : Lists b s r after)
    → eqb (number_said (listed_says r)) 13 ≡ (eqb (first_failing (board_tests b)) 0 and not (leb (length x.moves) (length s)))
room_exactly b s after r x =
    ap (λ (y : Said). eqb (number_said y) 13) (x.into.answer ∙ ap (λ (n : ℕ). behind (board_tests b) (fitting n (length s))) (length-map x.moves packed))
    ∙ room_seven b (length x.moves) (length s)
