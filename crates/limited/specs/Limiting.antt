-- `is_limited_in_retractions` (retraction_gen.rs, 280 to 333).
use Rattle.std.specs.Prelude.{Bool, true, false, not, cond, List, [], ◌∷◌, eqb, Result, Ok, Err}
use Rattle.squares.specs.Tests.{◌or◌}
use Rattle.geometry.specs.Colors.{opp}
use Rattle.laws.specs.declared.EnPassantFlag.{EnPassantFlag}
use Rattle.laws.specs.declared.EnPassantFlag.TheVariants.{Any, Some, None}
use Rattle.refusal.specs.Said.{Said, says, told, refusal, behind}
use Rattle.board.specs.declared.RetractableBoard.{RetractableBoard}
use Rattle.board.specs.Gate.{board_tests}
use Rattle.retraction_list.specs.declared.SourceAndTargets.{SourceAndTargets}
use Rattle.retraction_list.specs.Entries.{holding}
use Rattle.enumerate.specs.Lists.{all_but_pawns}
use Rattle.retraction_gen.specs.Making.{view_on, masks_on, start_of, full_test}
use Rattle.retraction_gen.specs.Cursors.{next_of}
use Rattle.refusal.specs.declared.Refusal.{Refusal}

-- `true` and `false` are 1 and 0
abbrev pub limited_says : Result Bool Refusal → Said
limited_says (Ok true) = told (1 ∷ [])
limited_says (Ok false) = told (0 ∷ [])
limited_says (Err why) = refusal why

-- `if let EnPassantFlag::Some(_) = board.en_passant()` (285)
abbrev pub names_square : EnPassantFlag → Bool
names_square Any = false
names_square (Some sq) = true
names_square None = false

-- `iterator.next().is_none()` (305, 328): nothing is told beside 0
abbrev pub is_none : Said → Bool
is_none (says n []) = true
is_none (says n (v ∷ vs)) = false

-- "a turned board": `flip` (board.rs, 306 to 313) "flips the turn but leaves checkers and pins stale"; the state becomes unknown
abbrev pub flipped : RetractableBoard → RetractableBoard
flipped b = record {
  pieces = b.pieces;
  colors = b.colors;
  combined = b.combined;
  turn = opp b.turn;
  white = b.white;
  black = b.black;
  pinned = b.pinned;
  checkers = b.checkers;
  passant = Any;
  terms = b.terms;
}

-- the list (289 to 295), and the iterator over it has nothing to give (297 to 305)
abbrev pub pawnless_on : RetractableBoard → List SourceAndTargets
pawnless_on b = all_but_pawns (view_on b)

unfoldable pub nothing_on : RetractableBoard → Bool
nothing_on b = is_none (next_of (start_of (holding (pawnless_on b)) (masks_on b))).said

-- "a list beyond 47 that it would build is FULL"; `if iterator.next().is_none() { return true; }`, else x
unfoldable pub side_of : RetractableBoard → Said → Said
side_of b x = behind (full_test (pawnless_on b)) (cond (nothing_on b) (told (1 ∷ [])) x)

-- the board, then `flipped.flip()` (309 to 328)
unfoldable pub sides_of : RetractableBoard → Said
sides_of b = side_of b (side_of (flipped b) (told (0 ∷ [])))

-- `if board.checkers() != &EMPTY { return true; }` (281), and the named square
unfoldable pub limited_from : RetractableBoard → Said
limited_from b = cond (not (eqb b.checkers 0) or names_square b.passant) (told (1 ∷ [])) (sides_of b)

-- 1 to 7 first
abbrev pub limited_of : RetractableBoard → Said
limited_of b = behind (board_tests b) (limited_from b)
