-- The same of boards: a chain to a board is a retraction of it that has a past, and a chain to the board that un-make answers.
use mathlib.Core.Path.{◌≡◌, refl, sym, ap, ◌∙◌, subst}
use mathlib.Core.Logic.{◌↔◌}
use mathlib.Core.Bool.{true}
use mathlib.Core.List.{List, [], ◌∷◌, ◌++◌}
use Prim.Native.Nat.{ℕ}
use Rattle.geometry.specs.Colors.{opp}
use Rattle.laws.specs.declared.ChessRetraction.{ChessRetraction}
use Rattle.laws.specs.Positions.{Pos}
use Rattle.laws.specs.Acceptance.{accepted}
use Rattle.laws.specs.Unmaking.{unmade}
use Rattle.laws.specs.Strictness.{Gives}
use Rattle.laws.specs.Boards.{Shaped, fresh_ok}
use Rattle.refusal.specs.Refusals.{verdict_number, and_then, Verdict, nothing_refused}
use Rattle.refusal.specs.Said.{first_failing}
use Rattle.position.specs.declared.Positioned.{Positioned}
use Rattle.position.specs.Answers.{position_of}
use Rattle.unmake.specs.Retracted.{unmade_for, unmade_to}
use Rattle.board.specs.declared.RetractableBoard.{RetractableBoard}
use Rattle.board.specs.Gate.{position_on, pos_on, to_laws, fresh_on, gate_of, board_tests, no_board}
use Rattle.board.specs.Said.{kept_behind}
use Rattle.board.specs.Moving.{unmake_tests, unmade_on}
use Rattle.board.specs.inner.Gates.{unmake_gate}
use Rattle.strict.specs.Demand.{Past}
use Rattle.chains.specs.Chains.{Chain}
use Rattle.chains.specs.inner.Walks.{PosChain}
use Rattle.squares.proofs.Testing.{both}
use Rattle.laws.proofs.Retracting.{kind_today, can_retract}
use Rattle.laws.proofs.BoardPasts.{shaped}
use Rattle.refusal.proofs.Tested.{beside_none, pass_on}
use Rattle.unmake.proofs.Returned.{answer_is, unmade_shown, unmade_men}
use Rattle.board.proofs.Passing.{gate_passed, gate_by}
use Rattle.board.proofs.Numbers.{gate_passes}
use Rattle.board.proofs.Moving.{fresh_worked, answer_number}
use Rattle.chains.proofs.Walking.{chain_under, unmade_under, unmade_gives, can_retract_lem}

-- an accepted board b, and a move from the position e that gives it
module _ (b : RetractableBoard) (h : gate_of b ≡ nothing_refused) (r : ChessRetraction) (e : Pos) (k : ℕ) (g : Gives e (pos_on b) r k) where
  lawful : accepted (pos_on b) ≡ true
  lawful = (gate_passed b h).lawful

  can : can_retract (pos_on b) r ≡ true
  can = can_retract_lem e (pos_on b) r k g

  pos_earlier : pos_on (unmade_on b r) ≡ unmade (pos_on b) r
  pos_earlier = unmade_shown (position_on b) r can

  given : Gives (pos_on (unmade_on b r)) (pos_on b) r (kind_today (pos_on b) r)
  given = subst (λ (q : Pos). Gives q (pos_on b) r (kind_today (pos_on b) r)) (sym pos_earlier) (unmade_gives e (pos_on b) r k lawful g)

  shaped_earlier : Shaped (to_laws (unmade_on b r))
  unfolding unmade_for position_of
  shaped_earlier = let z = shaped (unmade (pos_on b) r) in record { six = z.six; two = z.two; kinds_fit = z.kinds_fit; colors_fit = z.colors_fit }

  fresh : fresh_ok (to_laws (unmade_on b r)) ≡ true
  unfolding fresh_on
  fresh = fresh_worked (unmade_for (pos_on b) r)

  gate_earlier : gate_of (unmade_on b r) ≡ nothing_refused
  gate_earlier = gate_by (unmade_on b r) (both (both (unmade_men (position_on b) r can) given.is_accepted) fresh)

  -- the moves before it end in the un-made board too
  sooner : (l : List ChessRetraction) → PosChain l e → PosChain l (pos_on (unmade_on b r))
  sooner l c = subst (PosChain l) (sym pos_earlier) (chain_under l e (unmade (pos_on b) r) (unmade_under e (pos_on b) r k g) c)

  later : (l : List ChessRetraction) → Chain l (unmade_on b r) → Chain (r ∷ l) b
  later l c = (unmade_on b r, kind_today (pos_on b) r, shaped_earlier, gate_earlier, given, c)

  tests_pass : first_failing (board_tests b ++ unmake_tests (pos_on b) r) ≡ 0
  tests_pass =
      sym (pass_on (board_tests b) (unmake_tests (pos_on b) r) (gate_passes b (gate_of b) refl h)) ∙ sym (answer_number (pos_on b) r)
      ∙ ap (λ (u : Positioned). verdict_number u.verdict) (answer_is (pos_on b) r can)

  passes : unmake_gate b r ≡ nothing_refused
  passes = ap (λ (v : Verdict). and_then v (unmade_to (pos_on b) r).verdict) h ∙ ap (λ (u : Positioned). u.verdict) (answer_is (pos_on b) r can)

-- chains of boards and of their positions
positions : (l : List ChessRetraction) (b : RetractableBoard) → Chain l b → PosChain l (pos_on b)
positions [] b c = tt
positions (r ∷ l) b c = (pos_on c.0, c.1, c.4, positions l c.0 c.5)

boards : (l : List ChessRetraction) (b : RetractableBoard) → gate_of b ≡ nothing_refused → PosChain l (pos_on b) → Chain l b
boards [] b h c = tt
boards (r ∷ l) b h c =
    later b h r c.0 c.1 c.2 l (boards l (unmade_on b r) (gate_earlier b h r c.0 c.1 c.2) (sooner b h r c.0 c.1 c.2 l c.3))

module _ (b : RetractableBoard) (h : gate_of b ≡ nothing_refused) (r : ChessRetraction) where
  -- what un-make answers to a retraction that has a past
  module _ (q : Past b r) where
    pub past_gate : gate_of (unmade_on b r) ≡ nothing_refused
    past_gate = gate_earlier b h r (pos_on q.0) q.1 q.4

    pub past_turn : (unmade_on b r).turn ≡ opp b.turn
    past_turn = ap (λ (p : Pos). p.turn) (pos_earlier b h r (pos_on q.0) q.1 q.4)

    pub past_board : kept_behind (board_tests b ++ unmake_tests (pos_on b) r) (unmade_on b r) ≡ unmade_on b r
    past_board = sym (beside_none (board_tests b ++ unmake_tests (pos_on b) r) (unmade_on b r) no_board (tests_pass b h r (pos_on q.0) q.1 q.4))

    pub past_passes : unmake_gate b r ≡ nothing_refused
    past_passes = passes b h r (pos_on q.0) q.1 q.4

  -- "Each ply is a strict retraction of the board it starts from": walking un-made boards loses no chain, and adds none
  pub chain_on : (l : List ChessRetraction) → Chain (r ∷ l) b ↔ (Past b r × Chain l (unmade_on b r))
  chain_on l = (
    (λ c. let q : Past b r = (c.0, c.1, c.2, c.3, c.4) in
        (q, boards l (unmade_on b r) (past_gate q) (sooner b h r (pos_on c.0) c.1 c.4 l (positions l c.0 c.5)))),
    (λ z. let q = z.0 in later b h r (pos_on q.0) q.1 q.4 l z.1),
  )
