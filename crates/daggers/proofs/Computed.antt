-- The ported list on boards of document 01, computed.
use mathlib.Core.Path.{◌≡◌, refl}
use mathlib.Core.Bool.{false}
use mathlib.Core.List.{[], ◌∷◌}
use Rattle.squares.specs.Tests.{◌and◌, ◌or◌}
use Rattle.squares.specs.Squares.{has, up_to, count_to, all_to, any_to}
use Rattle.squares.specs.Members.{list_to, members, lowest_of, first_of, for_each, concat}
use Rattle.geometry.specs.Lines.{same_rank, same_file, same_diagonal, straight, diagonal, between, between_of, line, clear}
use Rattle.geometry.specs.Steps.{knight_step, king_step, pawn_takes}
use Rattle.laws.specs.Boards.{men_at, kind_sets, color_sets}
use Rattle.retraction_list.specs.declared.UnCaptureKind.TheVariants.{Optional, Necessary, Forbidden, UnEnPassant}
use Rattle.retraction_list.specs.Entries.{entry_of, offered, capture_kind}
use Rattle.geometry.specs.Chess.{adjacent_files}
use Rattle.geometry.specs.Colors.{back_of}
use Rattle.view.specs.Views.{castling_rooks, within, view_of}
use Rattle.enumerate.specs.Lists.{lesser_of, kinds_of, by_checkers, named_of, list_of}
use Rattle.men_field.specs.inner.Letters.{number_by_letter, width_of, place_of, man_by_number, men_by_numbers}
use Rattle.men_field.specs.Placement.{run_text, squares_from, ranks_text, men_text}
use Rattle.position_text.specs.Form.{print_of}
use Rattle.position_text.specs.inner.Reading.{right_of, square_of, step_men, step_tail, step_of, run_of}
use Rattle.retraction_gen.specs.Making.{list_on}
use Rattle.daggers.specs.Names.{square}
use Rattle.daggers.specs.Table.{OnText}
use Rattle.daggers.proofs.Texts.{on_text}
use Rattle.officers.specs.Officers as officers
use Rattle.pawns.specs.Pawns as pawns
use Rattle.un_en_passant.specs.UnEnPassants as passants
use Rattle.kings.specs.Kings as kings

pub computed :
    OnText "4k3/8/8/8/4K3/8/8/4R3 b - -"
    (λ b. list_on b ≡ entry_of (square "e1") 0x1010ef Optional false ∷ entry_of (square "e4") 0x1000000000 Optional false ∷ entry_of (square "e4") 0x2828380000 Necessary false ∷ [])
    × OnText "8/4k3/3P4/8/8/8/8/4R2K b - -" (λ b. list_on b ≡ entry_of (square "d6") 0x1000000000 Necessary false ∷ entry_of (square "d6") 0x1400000000 UnEnPassant false ∷ [])
    × OnText "4k3/8/8/8/3pP3/8/8/4K3 b - e4" (λ b. list_on b ≡ entry_of (square "e4") 0x1000 Forbidden false ∷ [])
unfolding number_by_letter width_of place_of man_by_number men_by_numbers run_text squares_from ranks_text men_text print_of right_of square_of step_men step_tail step_of run_of list_on men_at kind_sets color_sets has up_to count_to all_to any_to list_to members lowest_of first_of for_each concat same_rank same_file same_diagonal straight diagonal between between_of line clear knight_step king_step pawn_takes offered capture_kind adjacent_files back_of castling_rooks within view_of officers.moves_of officers.steps_of officers.quiet_of officers.free_of officers.from_of officers.each_of officers.calm_of officers.alone_at officers.alone_of officers.onto_of officers.both_at officers.both_of officers.officer_of pawns.candidate_retractors pawns.other_ray_of pawns.doubled_of pawns.crossed_of pawns.home_of pawns.unpush_of pawns.uncapture_of pawns.from_of pawns.steps_of passants.vacant_of passants.beside_reborn passants.under_one passants.rays_of passants.one_of_two passants.two_others passants.under_two passants.under_of passants.passant_at passants.passant_of passants.un_en_passants_of pawns.pawn_of kings.far_of kings.near_of kings.attacked_of kings.steps_of kings.stepped_of kings.safe_of kings.castled_of kings.short_of kings.long_of kings.uncastled_of kings.king_of lesser_of kinds_of by_checkers named_of list_of ◌and◌ ◌or◌
computed = (on_text _ refl refl _ refl, on_text _ refl refl _ refl, on_text _ refl refl _ refl)
