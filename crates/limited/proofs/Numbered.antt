-- 8, exactly when: of whatever answer the promise of `is_limited_in_retractions` allows; and any two answers agree.
use mathlib.Core.Path.{◌≡◌, refl, sym, ap, ◌∙◌}
use mathlib.Core.Bool.{Bool, not, cond}
use mathlib.Core.List.{[], ◌∷◌}
use native.Mathlib.Omega.{arith}
use lib.Dec.{eqb, leb}
use lib.ListN.{length}
use Rattle.squares.specs.Tests.{◌and◌, ◌or◌}
use Rattle.refusal.specs.declared.Refusal.TheVariants.{Full}
use Rattle.refusal.specs.Said.{◌else◌, first_failing, Said, number_said, told, behind}
use Rattle.board.specs.declared.RetractableBoard.{RetractableBoard}
use Rattle.board.specs.Gate.{board_tests}
use Rattle.limited.specs.Limiting.{limited_says, names_square, flipped, pawnless_on, nothing_on, side_of, sides_of, limited_from, limited_of}
use Rattle.squares.proofs.Testing.{agree, agree_eq}
use Rattle.laws.proofs.Cases.{by_cases}
use Rattle.refusal.proofs.Saying.{number_one}
use Rattle.refusal.proofs.Writing.{no_value, no_both}
use Rattle.board.proofs.Numbers.{above_seven}
use Rattle.std.specs.Prelude.{Result, Ok, true, false, Err}
use Rattle.refusal.specs.declared.Refusal.{Refusal}

-- what is said behind 1 to 7: at once; the first list fits, and has nothing; the second fits, and has nothing
abbrev said_by : Bool → Bool → Bool → Bool → Bool → Said
said_by at_once fits none fits' none' =
    cond at_once (told (1 ∷ [])) (behind ((fits else Full) ∷ []) (cond none (told (1 ∷ [])) (behind ((fits' else Full) ∷ []) (cond none' (told (1 ∷ [])) (told (0 ∷ []))))))

module _ (b : RetractableBoard) (r : Result Bool Refusal) (h : limited_says r ≡ limited_of b) where
  abbrev accepted : Bool
  accepted = eqb (first_failing (board_tests b)) 0

  -- answered before any list
  abbrev at_once : Bool
  at_once = not (eqb b.checkers 0) or names_square b.passant

  -- the first list, and the second
  abbrev fits : Bool
  fits = leb (length (pawnless_on b)) 47

  abbrev none : Bool
  none = nothing_on b

  abbrev fits' : Bool
  fits' = leb (length (pawnless_on (flipped b))) 47

  -- 8: 1 to 7 pass, a list is built, and the first would need a 48th entry, or it does not and gives something, and the second would
  pub full_exactly : eqb (number_said (limited_says r)) 8 ≡ (accepted and not at_once and (not fits or (fits and not none and not fits')))
  unfolding limited_from sides_of side_of behind first_failing ◌and◌ ◌or◌
  full_exactly =
      ap (λ (x : Said). eqb (number_said x) 8) h ∙ above_seven b (limited_from b) 8 (omega arith)
      ∙ agree_eq _ _ (by_cases 6 (λ a q f n g m. agree (a and eqb (number_said (said_by q f n g m)) 8) (a and not q and (not f or (f and not n and not g)))) refl
      accepted at_once fits none fits' (nothing_on (flipped b)))

-- what is said settles the answer
limited_one : (r q : Result Bool Refusal) → limited_says r ≡ limited_says q → r ≡ q
limited_one (Ok true) (Ok true) e = refl
limited_one (Ok true) (Ok false) e = no_both e
limited_one (Ok true) (Err w) e = no_value e
limited_one (Ok false) (Ok true) e = no_both (sym e)
limited_one (Ok false) (Ok false) e = refl
limited_one (Ok false) (Err w) e = no_value e
limited_one (Err v) (Ok true) e = no_value (sym e)
limited_one (Err v) (Ok false) e = no_value (sym e)
limited_one (Err v) (Err w) e = ap Err (number_one v w (ap number_said e))

pub one_limited : (b : RetractableBoard) (r q : Result Bool Refusal) → limited_says r ≡ limited_of b → limited_says q ≡ limited_of b → r ≡ q
one_limited b r q x y = limited_one r q (x ∙ sym y)
