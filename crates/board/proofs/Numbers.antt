-- The gate by the number of the first test that fails, and what stands behind it.
use mathlib.Core.Path.{◌≡◌, refl, sym, ap, ◌∙◌}
use mathlib.Core.Bool.{Bool, true, false, not, cond}
use mathlib.Core.List.{[], ◌∷◌}
use Prim.Native.Nat.{ℕ, ◌≤◌, ◌<◌}
use native.Mathlib.Omega.{arith}
use lib.Dec.{eqb, leb, ltb}
use borrow.Author.Tests.{ltb-true, ne_eqb}
use Rattle.squares.specs.Tests.{◌and◌}
use Rattle.laws.specs.Acceptance.{kings_ok, pawns_ok, rights_ok, state_ok, quiet}
use Rattle.laws.specs.Boards.{men_ok}
use Rattle.refusal.specs.declared.Refusal.{Refusal}
use Rattle.refusal.specs.declared.Refusal.TheVariants.{Men as men, Kings as kings, Pawn as pawn, Rights as rights, Passant as passant, Check as check, Stale}
use Rattle.refusal.specs.Refusals.{number_of, verdict_number, Verdict, nothing_refused}
use Rattle.refusal.specs.Said.{◌else◌, first_failing, Said, says, number_said, told, fitting, behind}
use Rattle.board.specs.declared.RetractableBoard.{RetractableBoard}
use Rattle.board.specs.Gate.{men_on, pos_on, fresh_on, gate_of, board_tests}
use Rattle.laws.proofs.Cases.{by_cases}
use Rattle.refusal.proofs.Saying.{verdict_one}
use Rattle.board.proofs.Passing.{gate_number}
use Rattle.std.specs.Prelude.{Err}

-- what the gate refuses, and where it passes
module _ (b : RetractableBoard) (v : Verdict) (e : v ≡ gate_of b) where
  pub gate_refuses : (r : Refusal) → v ≡ Err r → number_of r ≡ first_failing (board_tests b)
  gate_refuses r h = ap verdict_number (sym h ∙ e) ∙ gate_number b

  pub gate_passes : v ≡ nothing_refused → first_failing (board_tests b) ≡ 0
  gate_passes h = sym (ap verdict_number (sym h ∙ e) ∙ gate_number b)

-- and back: the gate by the number
pub passed_gate : (b : RetractableBoard) → first_failing (board_tests b) ≡ 0 → gate_of b ≡ nothing_refused
passed_gate b h = verdict_one (gate_of b) nothing_refused (gate_number b ∙ h)

-- 1 to 7 are numbers below 8
board_number : (b : RetractableBoard) → first_failing (board_tests b) < 8
unfolding first_failing ◌and◌
board_number b =
    ltb-true _ 8 (by_cases 7
    (λ m k p r s q f. ltb (first_failing ((m else men) ∷ (k else kings) ∷ (p else pawn) ∷ (r else rights) ∷ (s else passant) ∷ (q else check) ∷ (f else Stale) ∷ [])) 8) refl
    (men_ok b.pieces b.colors) (kings_ok (men_on b)) (pawns_ok (men_on b)) (rights_ok (men_on b) (pos_on b).rights) (state_ok b.terms.edition (men_on b) b.turn b.passant) (quiet (men_on b) b.turn) (fresh_on b))

-- a number above 7 is given exactly when 1 to 7 pass and what stands behind them has it
pub above_seven : (b : RetractableBoard) (x : Said) (n : ℕ) → 8 ≤ n → eqb (number_said (behind (board_tests b) x)) n ≡ (eqb (first_failing (board_tests b)) 0 and eqb (number_said x) n)
unfolding behind ◌and◌
above_seven b x n h = go (eqb (first_failing (board_tests b)) 0)
  where
    other : first_failing (board_tests b) ≡ n → ⊥
    other e = omega (arith, board_number b)

    go : (t : Bool) → eqb (number_said (cond t x (says (first_failing (board_tests b)) []))) n ≡ (t and eqb (number_said x) n)
    go true = refl
    go false = ne_eqb (first_failing (board_tests b)) n other

-- 13 behind 1 to 7: the slice has m places, the answer n
pub room_seven : (b : RetractableBoard) (n m : ℕ) → eqb (number_said (behind (board_tests b) (fitting n m))) 13 ≡ (eqb (first_failing (board_tests b)) 0 and not (leb n m))
room_seven b n m = above_seven b (fitting n m) 13 (omega arith) ∙ ap (λ (t : Bool). eqb (first_failing (board_tests b)) 0 and t) (go (leb n m))
  where
    go : (t : Bool) → eqb (number_said (cond t (told (n ∷ [])) (says 13 (n ∷ [])))) 13 ≡ not t
    go true = refl
    go false = refl
