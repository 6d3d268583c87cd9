-- What a board's methods answer, by document 01's numbers.
use Rattle.std.specs.Prelude.{◌≡◌, cond, List, [], ◌∷◌, eqb, Result, Option, Ok, None, Some, Err, ℕ, Bool, true, false}
use Rattle.laws.specs.Men.{kind_number}
use Rattle.refusal.specs.Refusals.{verdict_number}
use Rattle.refusal.specs.Said.{Test, first_failing, Said, told, refusal, behind}
use Rattle.board.specs.declared.RetractableBoard.{RetractableBoard}
use Rattle.board.specs.declared.Boarded.{Boarded}
use Rattle.board.specs.Gate.{no_board}
use Rattle.refusal.specs.declared.Refusal.{Refusal}
use Rattle.laws.specs.declared.Piece.{Piece}

-- "A refusal writes nothing and returns no board": b where all tests pass, else the empty board
abbrev pub kept_behind : List Test → RetractableBoard → RetractableBoard
kept_behind ts b = cond (eqb (first_failing ts) 0) b no_board

-- the number of the first test that fails beside the empty board, or 0 beside b
pub record Boards (ts : List Test) (b : RetractableBoard) (r : Boarded) : Type 0 where
  pub number : verdict_number r.verdict ≡ first_failing ts
  pub board : r.board ≡ kept_behind ts b

-- the number of the first test that fails beside the empty board, or what x says beside b, the board as it was
pub record Tells (ts : List Test) (x : Said) (b : RetractableBoard) (answer : Said) (left : RetractableBoard) : Type 0 where
  pub said : answer ≡ behind ts x
  pub board : left ≡ kept_behind ts b

-- nobody is 0, a kind has its number (1 P .. 6 K)
abbrev pub piece_says : Result (Option Piece) Refusal → Said
piece_says (Ok None) = told (0 ∷ [])
piece_says (Ok (Some k)) = told (kind_number k ∷ [])
piece_says (Err r) = refusal r

-- the men's squares as a set
abbrev pub attackers_says : Result ℕ Refusal → Said
attackers_says (Ok s) = told (s ∷ [])
attackers_says (Err r) = refusal r

-- 1 where the square is attacked, else 0
abbrev pub attacked_says : Result Bool Refusal → Said
attacked_says (Ok true) = told (1 ∷ [])
attacked_says (Ok false) = told (0 ∷ [])
attacked_says (Err r) = refusal r
