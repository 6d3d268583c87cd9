-- The double step put back on arrays: the men are the Laws', clean and with their kings.
use mathlib.Core.Path.{◌≡◌, sym, ap, ap₂, ◌∙◌, subst}
use mathlib.Core.Bool.{Bool, true, not, not-not}
use Prim.Native.Nat.{ℕ, ◌<◌}
use Rattle.geometry.specs.declared.Color.{Color}
use Rattle.geometry.specs.Colors.{opp, rank_for, behind}
use Rattle.laws.specs.declared.Piece.TheVariants.{Pawn}
use Rattle.laws.specs.declared.EnPassantFlag.TheVariants.{Some}
use Rattle.laws.specs.declared.Position.{Position}
use Rattle.laws.specs.Men.{Man, empty, man, Men, man_number, man_of, put}
use Rattle.laws.specs.Acceptance.{kings_ok, state_ok, quiet}
use Rattle.laws.specs.Strictness.{unstepped}
use Rattle.laws.specs.Boards.{Clean, men_in}
use Rattle.position.specs.inner.Edits.{with_men}
use Rattle.double_step.specs.inner.Parts.{step_for}
use Rattle.laws.proofs.Facts.{Named, names}
use Rattle.laws.proofs.Boundaries.{twice_behind_in}
use Rattle.laws.proofs.DoubleSteps.{kings_unstepped}
use Rattle.laws.proofs.ManSets.{OnBoard, men_on}
use Rattle.position.proofs.Editing.{is_man}
use Rattle.position.proofs.Composing.{put_on, then_clean, then_men, then_do}

-- the two edits
module _ (e : Position) (c : Color) (q : ℕ) (in_board : q < 64) (fourth : rank_for c q ≡ 3) where
  on_lifted : OnBoard (put q empty (men_in e))
  on_lifted = put_on q empty (men_in e) in_board (men_on e.pieces e.colors)

  pub on_before : OnBoard (unstepped c q (men_in e))
  on_before = put_on (behind c (behind c q)) (man c Pawn) (put q empty (men_in e)) (twice_behind_in c q in_board fourth) on_lifted

  module _ {lifted : Position} (first : lifted ≡ with_men e (put q empty (men_in e))) where
    pub lifted_clean : Clean lifted.pieces lifted.colors
    lifted_clean = then_clean e lifted (put q empty (men_in e)) first on_lifted

    pub put_back : {crossed home pawn : ℕ} {before : Position} → before ≡ with_men lifted (put home (man_of pawn) (men_in lifted)) → crossed ≡ behind c q
        → home ≡ behind c crossed → pawn ≡ man_number (man c Pawn) → before ≡ with_men e (unstepped c q (men_in e))
    put_back second crossed_is home_is pawn_is =
        then_do e lifted (put q empty (men_in e)) first on_lifted (put (behind c (behind c q)) (man c Pawn))
        (second ∙ ap₂ (λ (k : ℕ) (z : Man). with_men lifted (put k z (men_in lifted))) (home_is ∙ ap (behind c) crossed_is) (is_man (man c Pawn) pawn_is))

-- e names q, and c stepped there
module _ (e : Position) (q : ℕ) {c : Color} (kings : kings_ok (men_in e) ≡ true) (ok : state_ok e.terms.edition (men_in e) e.turn (Some q) ≡ true) (is : c ≡ opp e.turn) where
  named : Named e.terms.edition (men_in e) e.turn q
  named = names e.terms.edition (men_in e) e.turn q ok

  pub on_board : q < 64
  on_board = named.on_board

  pub on_fourth : rank_for c q ≡ 3
  on_fourth = ap (λ (z : Color). rank_for z q) is ∙ named.on_fourth

  module _ {before : Position} (back : before ≡ with_men e (unstepped c q (men_in e))) where
    on : OnBoard (unstepped c q (men_in e))
    on = on_before e c q on_board on_fourth

    men_are : men_in before ≡ unstepped (opp e.turn) q (men_in e)
    men_are = then_men e before (unstepped c q (men_in e)) back on ∙ ap (λ (z : Color). unstepped z q (men_in e)) is

    pub before_clean : Clean before.pieces before.colors
    before_clean = then_clean e before (unstepped c q (men_in e)) back on

    pub before_kings : kings_ok (men_in before) ≡ true
    before_kings = subst (λ (m : Men). kings_ok m ≡ true) (sym men_are) (kings_unstepped e.terms.edition (men_in e) e.turn q kings ok)

    pub step_told : {z : Bool} → z ≡ not (quiet (men_in before) c) → not z ≡ step_for (men_in e) e.turn (Some q)
    unfolding step_for
    step_told f = ap not f ∙ not-not (quiet (men_in before) c) ∙ ap₂ (λ (m : Men) (d : Color). quiet m d) men_are is
