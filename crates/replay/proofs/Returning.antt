-- "Replay after un-make gives back every square, the rights and the turn", on the arrays and fields; and replayed arrays are clean.
use mathlib.Core.Path.{◌≡◌, refl, sym, ap, ◌∙◌}
use mathlib.Core.Bool.{true}
use Prim.Native.Nat.{ℕ}
use Rattle.geometry.specs.declared.Color.TheVariants.{White, Black}
use Rattle.laws.specs.declared.CastleRights.{CastleRights}
use Rattle.laws.specs.declared.CastleRights.TheVariants.{NoRights, KingSide, QueenSide, Both}
use Rattle.laws.specs.declared.ChessRetraction.{ChessRetraction}
use Rattle.laws.specs.Positions.{Pos, Rights, holds, rights_of, rights_for}
use Rattle.laws.specs.declared.Side.TheVariants.{Short as short, Long as long}
use Rattle.laws.specs.Acceptance.{rights_ok}
use Rattle.laws.specs.Moves.{replayed}
use Rattle.laws.specs.Unmaking.{unmade}
use Rattle.laws.specs.Boards.{kind_sets, color_sets, Clean, men_in, pos_at}
use Rattle.laws.specs.declared.Position.{Position}
use Rattle.position.specs.Answers.{position_of, answered}
use Rattle.moves.specs.Stepping.{possible_for}
use Rattle.position.specs.declared.Positioned.{Positioned}
use Rattle.unmake.specs.Retracted.{unmade_to}
use Rattle.replay.specs.Replayed.{replayed_for, replay_to}
use Rattle.laws.proofs.Retracting.{can_retract, kind_today}
use Rattle.laws.proofs.Replays.{Replays, replay_unmake}
use Rattle.position.proofs.Composing.{position_shown, position_clean}
use Rattle.unmake.proofs.Returned.{accepted_can, answer_is, unmade_shown}
use Rattle.replay.proofs.Forwards.{goes_of, later_on}
use Rattle.refusal.specs.Refusals.{nothing_refused}

module _ (p : Position) (r : ChessRetraction) (k : ℕ) (ok : Clean p.pieces p.colors) (h : possible_for (pos_at p) r k ≡ true) where
  pub replayed_shown : pos_at (replayed_for (pos_at p) r k) ≡ replayed (pos_at p) r k
  unfolding replayed_for
  replayed_shown = position_shown (replayed (pos_at p) r k) (later_on p r k (goes_of p r k ok h))

  pub replayed_clean : Clean (replayed_for (pos_at p) r k).pieces (replayed_for (pos_at p) r k).colors
  unfolding replayed_for
  replayed_clean = position_clean (replayed (pos_at p) r k) (later_on p r k (goes_of p r k ok h))

-- replay answers with the move made
pub answer_forward : (p : Pos) (r : ChessRetraction) (k : ℕ) → possible_for p r k ≡ true → replay_to p r k ≡ answered (replayed_for p r k)
unfolding replay_to
answer_forward p r k h = rw h

-- a field says its own rights
field_back : (x : CastleRights) → rights_for (holds x short) (holds x long) ≡ x
field_back NoRights = refl
field_back KingSide = refl
field_back QueenSide = refl
field_back Both = refl

-- an answer that gives back the arrays, the turn, the rights and the terms of p
pub record Returns (p : Position) (z : Positioned) : Type 0 where
  pub verdict_back : z.verdict ≡ nothing_refused
  pub pieces_back : z.position.pieces ≡ p.pieces
  pub colors_back : z.position.colors ≡ p.colors
  pub turn_back : z.position.turn ≡ p.turn
  pub white_back : z.position.white ≡ p.white
  pub black_back : z.position.black ≡ p.black
  pub terms_back : z.position.terms ≡ p.terms

module _ (p : Position) (r : ChessRetraction) (ok : Clean p.pieces p.colors) (rights : rights_ok (men_in p) (rights_of p.white p.black) ≡ true)
    (done : (unmade_to (pos_at p) r).verdict ≡ nothing_refused) where
  can : can_retract (pos_at p) r ≡ true
  can = accepted_can (pos_at p) r done

  back : Replays (pos_at p) r
  back = replay_unmake (pos_at p) r rights can

  again : replay_to (pos_at (unmade_to (pos_at p) r).position) r (kind_today (pos_at p) r) ≡ answered (replayed_for (unmade (pos_at p) r) r (kind_today (pos_at p) r))
  unfolding possible_for
  again =
      ap (λ (z : Positioned). replay_to (pos_at z.position) r (kind_today (pos_at p) r)) (answer_is (pos_at p) r can)
      ∙ ap (λ (q : Pos). replay_to q r (kind_today (pos_at p) r)) (unmade_shown p r can)
      ∙ answer_forward (unmade (pos_at p) r) r (kind_today (pos_at p) r) back.possible_again

  pub unmake_replay : Returns p (replay_to (pos_at (unmade_to (pos_at p) r).position) r (kind_today (pos_at p) r))
  unfolding replayed_for position_of
  unmake_replay = record {
    verdict_back = ap (λ (z : Positioned). z.verdict) again;
    pieces_back = ap (λ (z : Positioned). z.position.pieces) again ∙ ap kind_sets back.men_back ∙ sym ok.kinds;
    colors_back = ap (λ (z : Positioned). z.position.colors) again ∙ ap color_sets back.men_back ∙ sym ok.colours;
    turn_back = ap (λ (z : Positioned). z.position.turn) again ∙ back.turn_back;
    white_back = ap (λ (z : Positioned). z.position.white) again ∙ ap (λ (ρ : Rights). rights_for (ρ White short) (ρ White long)) back.rights_back ∙ field_back p.white;
    black_back = ap (λ (z : Positioned). z.position.black) again ∙ ap (λ (ρ : Rights). rights_for (ρ Black short) (ρ Black long)) back.rights_back ∙ field_back p.black;
    terms_back = ap (λ (z : Positioned). z.position.terms) again;
  }
