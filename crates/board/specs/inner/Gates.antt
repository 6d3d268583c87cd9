-- The verdicts by which the code comes to what the tests say, and what it rests on.
use Rattle.std.specs.Prelude.{◌≡◌, Bool, true, false, not, cond, ℕ, eqb, ltb, Result, Option, Ok, None, Some, Err}
use Rattle.squares.specs.Squares.{has}
use Rattle.laws.specs.declared.EnPassantFlag.{EnPassantFlag}
use Rattle.laws.specs.declared.Position.{Position}
use Rattle.laws.specs.declared.ChessRetraction.{ChessRetraction}
use Rattle.laws.specs.Acceptance.{kings_ok, state_ok}
use Rattle.laws.specs.Boards.{men_in, Clean}
use Rattle.refusal.specs.declared.Refusal.TheVariants.{Source, Passant, Step}
use Rattle.refusal.specs.Refusals.{unless, and_then, Verdict, nothing_refused}
use Rattle.accept.specs.Verdicts.{five_of, judged_of}
use Rattle.position.specs.declared.Positioned.{Positioned}
use Rattle.moves.specs.Stepping.{possible_for}
use Rattle.unmake.specs.Retracted.{unmade_to}
use Rattle.incremental.specs.Moved.{piece_on}
use Rattle.board.specs.declared.RetractableBoard.{RetractableBoard}
use Rattle.board.specs.declared.Boarded.{Boarded}
use Rattle.board.specs.Gate.{men_on, pos_on, to_laws, position_on, stale_after, gate_of, boarded_by}
use Rattle.board.specs.Answers.{worked_of}
use Rattle.board.specs.Moving.{replayed_on}
use Rattle.refusal.specs.declared.Refusal.{Refusal}
use Rattle.laws.specs.declared.Piece.{Piece}

-- clean men with a king each: what is worked out of them rests on it
pub record Sound (p : Position) : Type 0 where
  pub clean : Clean p.pieces p.colors
  pub kings : kings_ok (men_in p) ≡ true

-- what a verdict accepts is sound
abbrev pub Kept : Verdict → Position → Type 0
Kept v p = v ≡ nothing_refused → Sound p

-- "raw men come in through 1 to 6"
abbrev pub new_of : Position → Boarded
new_of p = boarded_by (judged_of p) (worked_of p)

abbrev pub ask_gate : RetractableBoard → ℕ → Verdict
ask_gate b sq = and_then (gate_of b) (unless (ltb sq 64) Source nothing_refused)

-- the same as board.rs's `piece_on` (195 to 220) reads it from the sets, by which the code has it
abbrev pub kind_read : RetractableBoard → ℕ → Option Piece
kind_read b sq = cond (has b.combined sq) (Some (piece_on (to_laws b) sq)) None

-- whether a set of attackers has one
abbrev pub told_of : Result ℕ Refusal → Result Bool Refusal
told_of (Ok s) = Ok (not (eqb s 0))
told_of (Err r) = Err r

abbrev pub state_gate : RetractableBoard → EnPassantFlag → Verdict
state_gate b st = and_then (gate_of b) (unless (state_ok b.terms.edition (men_on b) b.turn st) Passant nothing_refused)

-- the board of an answer, or its refusal: "Checkers and pins of the result equal those worked afresh"
unfoldable pub boarded_of : Positioned → Boarded
boarded_of u = boarded_by u.verdict (worked_of u.position)

abbrev pub unmake_gate : RetractableBoard → ChessRetraction → Verdict
unmake_gate b r = and_then (gate_of b) (unmade_to (pos_on b) r).verdict

unfoldable pub replay_gate : RetractableBoard → Verdict
replay_gate b = stale_after (five_of (position_on b)) b

abbrev pub replayed_board : RetractableBoard → ChessRetraction → ℕ → Boarded
replayed_board b r k = boarded_by (and_then (replay_gate b) (unless (possible_for (pos_on b) r k) Step nothing_refused)) (replayed_on b r k)

-- raw men of a board that replay takes, through 1 to 5
abbrev pub earlier_of : Position → Boarded
earlier_of p = boarded_by (five_of p) (worked_of p)
