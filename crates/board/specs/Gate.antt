-- The gate: refusals 1 to 7 of a board.
use Rattle.std.specs.Prelude.{Bool, List, [], ◌∷◌, ◌++◌, ℕ, Ok, Err}
use Rattle.geometry.specs.declared.Color.{Color}
use Rattle.geometry.specs.declared.Color.TheVariants.{White}
use Rattle.laws.specs.declared.CastleRights.{CastleRights}
use Rattle.laws.specs.declared.CastleRights.TheVariants.{NoRights}
use Rattle.laws.specs.declared.EnPassantFlag.{EnPassantFlag}
use Rattle.laws.specs.declared.EnPassantFlag.TheVariants.{Any}
use Rattle.laws.specs.declared.Edition.{Edition}
use Rattle.laws.specs.declared.Edition.TheVariants.{A}
use Rattle.laws.specs.declared.Position.{Position}
use Rattle.laws.specs.declared.Board.{Board}
use Rattle.laws.specs.Men.{Men}
use Rattle.laws.specs.Positions.{Pos, terms_of}
use Rattle.laws.specs.Boards.{men_in, pos_at, fields_of, fresh_ok}
use Rattle.refusal.specs.declared.Refusal.TheVariants.{Stale}
use Rattle.refusal.specs.Refusals.{unless, and_then, Verdict, nothing_refused}
use Rattle.refusal.specs.Said.{Test, ◌else◌}
use Rattle.accept.specs.Verdicts.{judged_of, raw_tests}
use Rattle.board.specs.declared.RetractableBoard.{RetractableBoard}
use Rattle.board.specs.declared.Boarded.{Boarded}

-- the board as the Laws' record of the same fields
abbrev pub to_laws : RetractableBoard → Board
to_laws b = record {
  pieces = b.pieces;
  colors = b.colors;
  combined = b.combined;
  turn = b.turn;
  white = b.white;
  black = b.black;
  pinned = b.pinned;
  checkers = b.checkers;
  passant = b.passant;
  terms = b.terms;
}

-- its fields without the worked-out ones, its men, and the Laws' position that it shows
abbrev pub position_on : RetractableBoard → Position
position_on b = fields_of (to_laws b)

abbrev pub men_on : RetractableBoard → Men
men_on b = men_in (position_on b)

abbrev pub pos_on : RetractableBoard → Pos
pos_on b = pos_at (position_on b)

-- 7 STALE
unfoldable pub fresh_on : RetractableBoard → Bool
fresh_on b = fresh_ok (to_laws b)

-- what v refuses, or 7
abbrev pub stale_after : Verdict → RetractableBoard → Verdict
stale_after v b = and_then v (unless (fresh_on b) Stale nothing_refused)

-- the first of 1 to 7 that is given
unfoldable pub gate_of : RetractableBoard → Verdict
gate_of b = stale_after (judged_of (position_on b)) b

-- "A board passing 1 to 7 is accepted": the tests in their order, with their numbers
abbrev pub board_tests : RetractableBoard → List Test
board_tests b = raw_tests (position_on b) ++ ((fresh_on b else Stale) ∷ [])

-- the position of raw fields
abbrev pub position_from : List ℕ → List ℕ → Color → CastleRights → CastleRights → EnPassantFlag → Edition → Position
position_from pieces colors turn white black passant edition = record {
  pieces = pieces;
  colors = colors;
  turn = turn;
  white = white;
  black = black;
  passant = passant;
  terms = terms_of edition;
}

-- "A refusal writes nothing and returns no board": no men, White to move, no rights, unknown state, edition A
abbrev pub no_board : RetractableBoard
no_board = record {
  pieces = 0 ∷ 0 ∷ 0 ∷ 0 ∷ 0 ∷ 0 ∷ [];
  colors = 0 ∷ 0 ∷ [];
  combined = 0;
  turn = White;
  white = NoRights;
  black = NoRights;
  pinned = 0;
  checkers = 0;
  passant = Any;
  terms = terms_of A;
}

-- b where nothing is refused, else the empty board
abbrev pub kept_by : Verdict → RetractableBoard → RetractableBoard
kept_by (Ok _) b = b
kept_by (Err r) b = no_board

abbrev pub boarded_by : Verdict → RetractableBoard → Boarded
boarded_by v b = record { verdict = v; board = kept_by v b }
