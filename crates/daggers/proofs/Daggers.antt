-- Every line of the table holds.
use mathlib.Core.Path.{◌≡◌, refl, ◌∙◌}
use mathlib.Core.Bool.{true, not}
use mathlib.Core.List.{List, [], ◌∷◌}
use Prim.Native.Nat.{◌+◌, ◌*◌}
use Prim.Native.String.{String}
use lib.Dec.{eqb, leb, ltb}
use borrow.Author.Tests.{eqb-true, ltb-true, leb-true}
use Rattle.squares.specs.Tests.{◌and◌, ◌or◌}
use Rattle.squares.specs.Squares.{has, up_to, set_of, count_to, all_to, any_to}
use Rattle.geometry.specs.declared.Color.TheVariants.{White}
use Rattle.geometry.specs.Lines.{same_rank, same_file, same_diagonal, straight, diagonal, between, between_of, clear}
use Rattle.geometry.specs.Steps.{knight_step, king_step, pawn_step, pawn_double, pawn_takes}
use Rattle.laws.specs.declared.Piece.TheVariants.{Bishop}
use Rattle.laws.specs.Souls.{number}
use Rattle.laws.specs.Retractions.{packed, unpacked}
use Rattle.laws.specs.Acceptance.{accepted}
use Rattle.laws.specs.Strictness.{strict}
use Rattle.laws.specs.StrictLists.{retraction_at}
use Rattle.laws.specs.Boards.{men_at, kind_sets, color_sets}
use Rattle.board.specs.Gate.{men_on, pos_on}
use Rattle.men_field.specs.inner.Letters.{number_by_letter, width_of, place_of, man_by_number, men_by_numbers}
use Rattle.men_field.specs.Placement.{run_text, squares_from, ranks_text, men_text}
use Rattle.position_text.specs.Form.{print_of, printed}
use Rattle.position_text.specs.inner.Reading.{right_of, square_of, step_men, step_tail, step_of, run_of}
use Rattle.daggers.specs.Names.{bytes, square, named}
use Rattle.daggers.specs.Table.{Line, is_strict, not_strict, has_between, has_souls, packs, Says, Say, table}
use Rattle.squares.proofs.Testing.{left, right}
use Rattle.laws.proofs.Cases.{every_kind, by_kinds}
use Rattle.daggers.proofs.Texts.{fields_in, board_in, is_strict_lem, not_strict_lem}
use Rattle.daggers.proofs.Alone.{souls_by, souls_by_lem}

-- what is computed of a line; of men, a text that has them
abbrev Holds : Line → Type 0
Holds (is_strict t r) = (printed (fields_in t) ≡ bytes t) × (accepted (pos_on (board_in t)) ≡ true) × (strict (pos_on (board_in t)) r ≡ true)
Holds (not_strict t s e) =
    (printed (fields_in t) ≡ bytes t) × (accepted (pos_on (board_in t)) ≡ true)
    × (all_to 12 (λ j. not (strict (pos_on (board_in t)) (retraction_at (square s * 768 + (square e * 12 + j))))) ≡ true)
Holds (has_between a b ks) = (ltb (square a) 64 ≡ true) × (ltb (square b) 64 ≡ true) × (between_of (square a) (square b) ≡ set_of (named ks))
Holds (has_souls w n) = (t : String) × (every_kind (λ k. eqb (number (men_on (board_in t)) White k) (w k)) ≡ true) × (w Bishop ≡ 0) × (souls_by w ≡ n)
Holds (packs r n) =
    ((ltb r.source 64 and ltb r.target 64 and leb r.uncaptured 5) ≡ true) × (packed r ≡ n) × (unpacked n ≡ r)

says : (l : Line) → Holds l → Says l
says (is_strict t r) (p, a, s) = is_strict_lem t p a r s
says (not_strict t s e) (p, a, n) = not_strict_lem t p a (square s) (square e) n
says (has_between a b ks) (p, q, e) = λ t h. h.entry (square a) (square b) (ltb-true _ _ p) (ltb-true _ _ q) ∙ e
says (has_souls w n) (t, e, b, q) = (
  (men_on (board_in t), λ k. eqb-true _ _ (by_kinds (λ k. eqb (number (men_on (board_in t)) White k) (w k)) e k)),
  λ m c h. souls_by_lem m c w h b ∙ q,
)
says (packs r n) (i, p, u) = (
  record { source_in = ltb-true _ _ (left _ _ (left _ _ i)); target_in = ltb-true _ _ (right _ _ (left _ _ i)); uncaptured_in = leb-true _ _ (right _ _ i) },
  p,
  u,
)

abbrev Hold : List Line → Type 0
Hold [] = Unit {0}
Hold (l ∷ ls) = Holds l × Hold ls

say : (ls : List Line) → Hold ls → Say ls
say [] h = tt
say (l ∷ ls) h = (says l h.0, say ls h.1)

-- a pair, so that a longer tuple needs no nested parentheses
infixr 30 ◌&◌
abbrev ◌&◌ : {A B : Type 0} → A → B → A × B
a & b = (a, b)

-- the reader, the printer, the Laws and the geometry, computed on each line
table_holds : Hold table
unfolding table has up_to count_to all_to any_to same_rank same_file same_diagonal straight diagonal between between_of clear knight_step king_step pawn_step pawn_double pawn_takes ◌and◌ ◌or◌ men_at kind_sets color_sets number_by_letter width_of place_of man_by_number men_by_numbers run_text squares_from ranks_text men_text print_of right_of square_of step_men step_tail step_of run_of
table_holds =
    (refl, refl, refl) & (refl, refl, refl) & (refl, refl, refl) & (refl, refl, refl) & (refl, refl, refl)
    & (refl, refl, refl) & (refl, refl, refl)
    & ("8/PPPPPPPP/8/8/8/8/8/8 w - -", refl, refl, refl)
    & ("8/NNNNNNNN/N7/8/8/8/8/8 w - -", refl, refl, refl)
    & ("8/PPPPPPP1/8/8/8/8/8/QQQ5 w - -", refl, refl, refl)
    & (refl, refl, refl)
    & tt

pub daggers : Say table
daggers = say table table_holds
