-- What the answer of un-make says: each number exactly under its condition, the earlier tests having passed; and the un-made position
-- is clean, is that of the Laws, and passes 1 to 5.
use mathlib.Core.Path.{◌≡◌, refl, sym, ap, ◌∙◌, subst}
use mathlib.Core.Bool.{Bool, true, not, cond}
use Prim.Native.Nat.{ℕ}
use lib.Dec.{eqb}
use Rattle.squares.specs.Tests.{◌and◌}
use Rattle.laws.specs.declared.Position.{Position}
use Rattle.laws.specs.declared.ChessRetraction.{ChessRetraction}
use Rattle.laws.specs.Positions.{Pos}
use Rattle.laws.specs.Acceptance.{accepted}
use Rattle.laws.specs.Unmaking.{unmade}
use Rattle.laws.specs.Boards.{men_ok, Clean, pos_at}
use Rattle.refusal.specs.declared.Refusal.TheVariants.{Source, Target, Held, Step}
use Rattle.refusal.specs.Refusals.{verdict_number, Verdict, nothing_refused}
use Rattle.position.specs.declared.Positioned.{Positioned}
use Rattle.position.specs.Answers.{position_of, answered, refused}
use Rattle.unmake.specs.Retracted.{source_for, target_for, held_for, step_for, unmade_for, stepped_to, unmade_to}
use Rattle.squares.proofs.Testing.{left, right, agree, agree_eq, denied}
use Rattle.laws.proofs.Cases.{by_cases}
use Rattle.laws.proofs.ManSets.{men_on, men_ok_lem}
use Rattle.laws.proofs.Retracting.{can_retract}
use Rattle.laws.proofs.Passes.{Passes, unmade_passes}
use Rattle.laws.proofs.BoardPasts.{unmade_on}
use Rattle.position.proofs.Composing.{position_shown, position_clean}

-- the answer of four tests
abbrev answer_by : Position → (a b d e : Bool) → Positioned
answer_by q a b d e = cond a (cond b (cond d (refused Held) (cond e (answered q) (refused Step))) (refused Target)) (refused Source)

-- exactly when each number is given: 9 and 10 pass where a and b say so, 11 is given where d does, 12 passes where e does
pub record Exactly (n : ℕ) (a b d e : Bool) : Type 0 where
  pub given0 : eqb n 0 ≡ (a and b and not d and e)
  pub given9 : eqb n 9 ≡ not a
  pub given10 : eqb n 10 ≡ (a and not b)
  pub given11 : eqb n 11 ≡ (a and b and d)
  pub given12 : eqb n 12 ≡ (a and b and not d and not e)

exactly : (q : Position) (a b d e : Bool) → Exactly (verdict_number (answer_by q a b d e).verdict) a b d e
unfolding ◌and◌
exactly q a b d e = record {
  given0 = agree_eq _ _ (by_cases 4 (λ a b d e. agree (eqb (verdict_number (answer_by q a b d e).verdict) 0) (a and b and not d and e)) refl a b d e);
  given9 = agree_eq _ _ (by_cases 4 (λ a b d e. agree (eqb (verdict_number (answer_by q a b d e).verdict) 9) (not a)) refl a b d e);
  given10 = agree_eq _ _ (by_cases 4 (λ a b d e. agree (eqb (verdict_number (answer_by q a b d e).verdict) 10) (a and not b)) refl a b d e);
  given11 = agree_eq _ _ (by_cases 4 (λ a b d e. agree (eqb (verdict_number (answer_by q a b d e).verdict) 11) (a and b and d)) refl a b d e);
  given12 = agree_eq _ _ (by_cases 4 (λ a b d e. agree (eqb (verdict_number (answer_by q a b d e).verdict) 12) (a and b and not d and not e)) refl a b d e);
}

module _ (p : Pos) (r : ChessRetraction) where
  pub unmade_exactly : Exactly (verdict_number (unmade_to p r).verdict) (source_for p r) (target_for p r) (held_for p r) (step_for p r)
  unfolding unmade_to stepped_to
  unmade_exactly = exactly (unmade_for p r) (source_for p r) (target_for p r) (held_for p r) (step_for p r)

  tests : can_retract p r ≡ (source_for p r and target_for p r and not (held_for p r) and step_for p r)
  unfolding source_for target_for held_for step_for
  tests = refl

  -- no refusal is what the Laws ask of a retraction, and then the answer is the un-made position
  pub accepted_can : (unmade_to p r).verdict ≡ nothing_refused → can_retract p r ≡ true
  accepted_can h = tests ∙ sym unmade_exactly.given0 ∙ ap (λ (v : Verdict). eqb (verdict_number v) 0) h

  pub answer_is : can_retract p r ≡ true → unmade_to p r ≡ answered (unmade_for p r)
  unfolding unmade_to stepped_to
  answer_is h =
      let all : (source_for p r and target_for p r and not (held_for p r) and step_for p r) ≡ true = sym tests ∙ h in
      rw (left _ _ (left _ _ (left _ _ all)), right _ _ (left _ _ (left _ _ all)), denied (held_for p r) (right _ _ (left _ _ all)), right _ _ all)

module _ (p : Position) (r : ChessRetraction) (h : can_retract (pos_at p) r ≡ true) where
  abbrev q : Position
  q = unmade_for (pos_at p) r

  -- the un-made arrays show the Laws' un-made position, and are clean
  pub unmade_shown : pos_at q ≡ unmade (pos_at p) r
  unfolding unmade_for
  unmade_shown = position_shown (unmade (pos_at p) r) (unmade_on (pos_at p) r (men_on p.pieces p.colors) h)

  pub unmade_clean : Clean q.pieces q.colors
  unfolding unmade_for
  unmade_clean = position_clean (unmade (pos_at p) r) (unmade_on (pos_at p) r (men_on p.pieces p.colors) h)

  -- replay's tests 1 to 5 pass on what un-make gives
  pub unmade_men : men_ok q.pieces q.colors ≡ true
  unfolding unmade_for position_of
  unmade_men = men_ok_lem (unmade (pos_at p) r).men

  pub unmade_lawful : accepted (pos_at p) ≡ true → Passes (pos_at q)
  unmade_lawful ok = subst Passes (sym unmade_shown) (unmade_passes (pos_at p) r ok h)
