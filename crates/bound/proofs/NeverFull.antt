-- On an accepted board whose retractor has at most sixteen men no list is FULL: of every answer that the promises of `new_legal`, `retractions_into`
-- and `is_limited_in_retractions` allow.
use mathlib.Core.Path.{◌≡◌, refl, sym, ap, ◌∙◌, subst}
use mathlib.Core.Bool.{Bool, true, false, not, cond}
use mathlib.Core.List.{List, [], ◌∷◌, map}
use Prim.Native.Nat.{ℕ, ◌≤◌}
use native.Mathlib.Omega.{arith}
use lib.Dec.{eqb}
use lib.ListN.{length}
use borrow.Author.Tests.{le-leb}
use Rattle.squares.specs.Tests.{◌or◌}
use Rattle.geometry.specs.declared.Color.{Color}
use Rattle.geometry.specs.Colors.{opp}
use Rattle.laws.specs.Retractions.{packed}
use Rattle.laws.specs.Boards.{Shaped}
use Rattle.refusal.specs.Refusals.{nothing_refused}
use Rattle.refusal.specs.Said.{first_failing, Said, number_said, told, fitting, Writes}
use Rattle.board.specs.declared.RetractableBoard.{RetractableBoard}
use Rattle.board.specs.Gate.{position_on, to_laws, board_tests}
use Rattle.board.specs.inner.Gates.{Sound}
use Rattle.retraction_list.specs.declared.SourceAndTargets.{SourceAndTargets}
use Rattle.retraction_gen.specs.declared.RetractionGen.{RetractionGen}
use Rattle.retraction_gen.specs.Making.{list_on, full_test, list_tests, cursor_on, Makes}
use Rattle.retraction_gen.specs.Sequence.{sequence_on}
use Rattle.slots.specs.declared.Unlisted.{Unlisted}
use Rattle.slots.specs.Slots.{listed_says}
use Rattle.limited.specs.Limiting.{limited_says, names_square, flipped, pawnless_on, nothing_on, side_of, sides_of, limited_from, limited_of}
use Rattle.bound.specs.Limits.{men, limit, Enough}
use Rattle.laws.proofs.Mans.{opp_opp}
use Rattle.laws.proofs.Cleaning.{shaped_clean}
use Rattle.accept.proofs.Numbered.{judged_passes}
use Rattle.refusal.proofs.Saying.{behind_by}
use Rattle.refusal.proofs.Tested.{pass_on}
use Rattle.board.proofs.Passing.{gate_judged}
use Rattle.board.proofs.Numbers.{passed_gate}
use Rattle.bound.proofs.Sixteen.{list_fits, pawnless_fits}
use Rattle.std.specs.Prelude.{Result, Ok}
use Rattle.retraction_gen.proofs.Gated.{made_is}
use Rattle.refusal.specs.declared.Refusal.{Refusal}

-- 8 passes where the list fits
fits_passes : (es : List SourceAndTargets) → length es ≤ 47 → first_failing (full_test es) ≡ 0
unfolding first_failing
fits_passes es h = ap (λ (t : Bool). cond t 0 8) (le-leb (length es) 47 h)

-- clean men with a king each, sixteen of the retractor's at most: neither list is FULL
module _ (b : RetractableBoard) (sound : Sound (position_on b)) (few : men b (opp b.turn) ≤ limit) where
  list_enough : length (list_on b) ≤ 47
  unfolding list_on
  list_enough = list_fits (position_on b) sound.clean sound.kings b.combined b.pinned b.checkers few

  pub pawnless_enough : length (pawnless_on b) ≤ 18
  pawnless_enough = pawnless_fits (position_on b) sound.clean sound.kings b.combined b.pinned b.checkers few

  side_is : (x : Said) → cond (nothing_on b) (told (1 ∷ [])) x ≡ side_of b x
  unfolding side_of
  side_is x = behind_by nothing_refused (full_test (pawnless_on b)) _ (sym (fits_passes (pawnless_on b) (omega (arith, pawnless_enough))))

module _ (b : RetractableBoard) (shape : Shaped (to_laws b)) (accepted : first_failing (board_tests b) ≡ 0) where
  sound : Sound (position_on b)
  sound =
      let five = (judged_passes (position_on b) (gate_judged b (passed_gate b accepted))).0 in
      record { clean = shaped_clean (to_laws b) shape five.men_pass; kings = five.passes.kings }

  -- the flipped board's new retractor is the side that has the turn
  sound_flipped : Sound (position_on (flipped b))
  sound_flipped = record { clean = sound.clean; kings = sound.kings }

  module _ (few : men b b.turn ≤ limit) where
    back : men b (opp (opp b.turn)) ≤ limit
    back = subst (λ (c : Color). men b c ≤ limit) (sym (opp_opp b.turn)) few

    pub flipped_enough : length (list_on (flipped b)) ≤ 47
    flipped_enough = list_enough (flipped b) sound_flipped back

  module _ (few : men b (opp b.turn) ≤ limit) where
    fits : length (list_on b) ≤ 47
    fits = list_enough b sound few

    -- 1 to 8 pass
    pub passes : first_failing (list_tests b) ≡ 0
    passes = sym (pass_on (board_tests b) (full_test (list_on b)) accepted) ∙ fits_passes (list_on b) fits

    -- the cursor is made
    pub makes : (r : Result RetractionGen Refusal) → Makes (list_tests b) (cursor_on b) r → r ≡ Ok (cursor_on b)
    makes r k = made_is r passes k

    -- the list is written, or 13 is given
    pub lists : (o after : List ℕ) (r : Result ℕ Unlisted) → Writes (list_tests b) (map packed (sequence_on b)) o (listed_says r) after
        → listed_says r ≡ fitting (length (map packed (sequence_on b))) (length o)
    lists o after r k = k.answer ∙ sym (behind_by nothing_refused (list_tests b) _ (sym passes))

    -- the limited test answers, where the other side has no more men either
    pub limits : men b b.turn ≤ limit → (r : Result Bool Refusal) → limited_says r ≡ limited_of b → number_said (limited_says r) ≡ 0
    unfolding limited_from sides_of
    limits fewer r k =
        ap number_said (k ∙ sym (behind_by nothing_refused (board_tests b) _ (sym accepted)))
        ∙ ap (λ (x : Said). number_said (cond (not (eqb b.checkers 0) or names_square b.passant) (told (1 ∷ [])) x))
        (sym (side_is b sound few _)
        ∙ ap (λ (x : Said). cond (nothing_on b) (told (1 ∷ [])) x) (sym (side_is (flipped b) sound_flipped (back fewer) _)))
        ∙ said (not (eqb b.checkers 0) or names_square b.passant) (nothing_on b) (nothing_on (flipped b))
      where
        said : (p q t : Bool) → number_said (cond p (told (1 ∷ [])) (cond q (told (1 ∷ [])) (cond t (told (1 ∷ [])) (told (0 ∷ []))))) ≡ 0
        said true q t = refl
        said false true t = refl
        said false false true = refl
        said false false false = refl

pub enough : Enough limit
enough b shape accepted few = fits b shape accepted few
