-- Sixteen is the last number of men for which 47 entries are enough: there are sixteen men that need all 47, and seventeen that need 49. Document
-- 01's board needs 48, and 47 "without the knight on h1".
use mathlib.Core.Path.{◌≡◌, refl, ap, ap₂, ◌∙◌}
use mathlib.Core.Logic.{⊎_elim, ◌↔◌}
use mathlib.Core.Bool.{Bool, true, not}
use Prim.Native.Nat.{ℕ, ◌≤◌}
use Prim.Native.String.{String}
use native.Mathlib.Nat.{le_trans}
use native.Mathlib.Omega.{arith}
use lib.ListN.{length}
use borrow.Author.Tests.{eqb-true, eq-eqb, lt-leb}
use Rattle.squares.specs.Tests.{◌and◌, ◌or◌}
use Rattle.squares.specs.Squares.{has, up_to, count_to, all_to, any_to}
use Rattle.squares.specs.Members.{list_to, members, lowest_of, first_of, for_each, concat}
use Rattle.geometry.specs.Colors.{opp, back_of}
use Rattle.geometry.specs.Lines.{same_rank, same_file, same_diagonal, straight, diagonal, between, between_of, line, clear}
use Rattle.geometry.specs.Steps.{knight_step, king_step, pawn_takes}
use Rattle.laws.specs.Acceptance.{accepted}
use Rattle.laws.specs.Boards.{men_at, kind_sets, color_sets, Shaped}
use Rattle.refusal.specs.Said.{first_failing}
use Rattle.board.specs.Gate.{pos_on, to_laws, gate_of, board_tests}
use Rattle.retraction_list.specs.Entries.{offered, capture_kind}
use Rattle.geometry.specs.Chess.{adjacent_files}
use Rattle.view.specs.Views.{castling_rooks, within, view_of}
use Rattle.enumerate.specs.Lists.{lesser_of, kinds_of, by_checkers, named_of, list_of}
use Rattle.retraction_gen.specs.Making.{list_on}
use Rattle.men_field.specs.inner.Letters.{number_by_letter, width_of, place_of, man_by_number, men_by_numbers}
use Rattle.men_field.specs.Placement.{run_text, squares_from, ranks_text, men_text}
use Rattle.position_text.specs.Form.{print_of, printed}
use Rattle.position_text.specs.inner.Reading.{right_of, square_of, step_men, step_tail, step_of, run_of}
use Rattle.daggers.specs.Names.{bytes}
use Rattle.bound.specs.Limits.{men, limit, Enough, Needs, Full, sixteen, seventeen, twenty_four, twenty_three}
use Rattle.squares.proofs.Testing.{order}
use Rattle.laws.proofs.ManSets.{kind_lt, colour_lt}
use Rattle.board.proofs.Numbers.{gate_passes}
use Rattle.retraction_gen.proofs.Numbered.{full_exactly}
use Rattle.daggers.proofs.Texts.{fields_in, board_in, says, gate, on_text}
use Rattle.bound.proofs.NeverFull.{enough}
use Rattle.officers.specs.Officers as officers
use Rattle.pawns.specs.Pawns as pawns
use Rattle.un_en_passant.specs.UnEnPassants as passants
use Rattle.kings.specs.Kings as kings

-- what is computed of a text
abbrev Computed : String → ℕ → ℕ → Type 0
Computed t n m =
    (printed (fields_in t) ≡ bytes t) × (accepted (pos_on (board_in t)) ≡ true) × (men (board_in t) (opp (board_in t).turn) ≡ n) × (length (list_on (board_in t)) ≡ m)

computed : Computed sixteen 16 47 × Computed seventeen 17 49 × Computed twenty_four 24 48 × Computed twenty_three 23 47
unfolding number_by_letter width_of place_of man_by_number men_by_numbers run_text squares_from ranks_text men_text print_of right_of square_of step_men step_tail step_of run_of list_on men_at kind_sets color_sets has up_to count_to all_to any_to list_to members lowest_of first_of for_each concat same_rank same_file same_diagonal straight diagonal between between_of line clear knight_step king_step pawn_takes offered capture_kind adjacent_files back_of castling_rooks within view_of officers.moves_of officers.steps_of officers.quiet_of officers.free_of officers.from_of officers.each_of officers.calm_of officers.alone_at officers.alone_of officers.onto_of officers.both_at officers.both_of officers.officer_of pawns.candidate_retractors pawns.other_ray_of pawns.doubled_of pawns.crossed_of pawns.home_of pawns.unpush_of pawns.uncapture_of pawns.from_of pawns.steps_of passants.vacant_of passants.beside_reborn passants.under_one passants.rays_of passants.one_of_two passants.two_others passants.under_two passants.under_of passants.passant_at passants.passant_of passants.un_en_passants_of pawns.pawn_of kings.far_of kings.near_of kings.attacked_of kings.steps_of kings.stepped_of kings.safe_of kings.castled_of kings.short_of kings.long_of kings.uncastled_of kings.king_of lesser_of kinds_of by_checkers named_of list_of ◌and◌ ◌or◌
computed = ((refl, refl, refl, refl), (refl, refl, refl, refl), (refl, refl, refl, refl), (refl, refl, refl, refl))

module _ (t : String) (n m : ℕ) (c : Computed t n m) where
  needs : Needs t n m
  needs = on_text t c.0 c.1 (λ b. (men b (opp b.turn) ≡ n) × (length (list_on b) ≡ m)) (c.2, c.3)

  passes : first_failing (board_tests (board_in t)) ≡ 0
  passes = gate_passes (board_in t) (gate_of (board_in t)) refl (gate t c.0 c.1)

  shaped : Shaped (to_laws (board_in t))
  unfolding kind_sets color_sets
  shaped =
      let ok = (says t c.0 c.1).clean in
      record { six = ap length ok.kinds; two = ap length ok.colours; kinds_fit = kind_lt _ _ ok; colors_fit = colour_lt _ _ ok }

  -- a list above 47
  module _ (h : 48 ≤ m) where
    full : Full t
    unfolding ◌and◌
    full =
        on_text t c.0 c.1 _
        (λ r k. eqb-true _ 8 (full_exactly (board_in t) r k ∙ ap₂ (λ (p q : Bool). p and not q) (eq-eqb _ 0 passes) (lt-leb (length (list_on (board_in t))) 47 (omega (arith, c.3)))))

    too_few : Enough n → ⊥
    too_few f = omega (arith, f (board_in t) shaped passes (omega (arith, c.2)), c.3)

pub sharp : Needs sixteen 16 47 × Needs seventeen 17 49 × Needs twenty_four 24 48 × Needs twenty_three 23 47
sharp = (needs _ _ _ computed.0, needs _ _ _ computed.1, needs _ _ _ computed.2, needs _ _ _ computed.3)

pub full_boards : Full seventeen × Full twenty_four
full_boards = (full _ _ _ computed.1 (omega arith), full _ _ _ computed.2 (omega arith))

-- 47 entries are enough for n men exactly when n is at most the limit
pub exactly : (n : ℕ) → Enough n ↔ (n ≤ limit)
exactly n = ((λ f. ⊎_elim (λ l. absurd (too_few seventeen 17 49 computed.1 (omega arith) (λ b s a few. f b s a (le_trans few l)))) (λ l. l) (order limit n)), (λ l b s a few. enough b s a (le_trans few l)))
