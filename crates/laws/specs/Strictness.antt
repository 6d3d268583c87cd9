-- Demand 3: what a strict retraction is, by its past, and the test that decides it.
use Rattle.std.specs.Prelude.{◌≡◌, Bool, true, false, ℕ, eqb}
use Rattle.squares.specs.Tests.{◌and◌}
use Rattle.geometry.specs.declared.Color.{Color}
use Rattle.geometry.specs.Colors.{opp, behind}
use Rattle.laws.specs.declared.Piece.TheVariants.{Pawn}
use Rattle.laws.specs.declared.EnPassantFlag.{EnPassantFlag}
use Rattle.laws.specs.declared.EnPassantFlag.TheVariants.{Any, Some, None}
use Rattle.laws.specs.declared.ChessRetraction.{ChessRetraction}
use Rattle.laws.specs.Men.{empty, man, Men, put}
use Rattle.laws.specs.Souls.{souls_ok}
use Rattle.laws.specs.Positions.{Pos, retractor}
use Rattle.laws.specs.Acceptance.{quiet, accepted}
use Rattle.laws.specs.declared.Way.{Way}
use Rattle.laws.specs.Moves.{state_after, replayed, safe, legal}
use Rattle.laws.specs.Unmaking.{unmade_by, way_back, retractable}

-- today's state, unless unknown, is the one after the move
abbrev pub agrees : EnPassantFlag → EnPassantFlag → Bool
agrees Any st = true
agrees None Any = false
agrees None None = true
agrees None (Some q) = false
agrees (Some q) Any = false
agrees (Some q) None = false
agrees (Some q) (Some q') = eqb q q'

-- the men before the double step of c's pawn to q: "with that pawn put back on its home square", and so gone from q
abbrev pub unstepped : Color → ℕ → Men → Men
unstepped c q m = put (behind c (behind c q)) (man c Pawn) (put q empty m)

-- "an earlier board that names a pawn's square counts only if, with that pawn put back on its home square, the king of the side that would be
-- waiting is unattacked": c is to move on that board, so the pawn is of the other side, which then was to move while c waited
abbrev pub step_ok : Men → Color → EnPassantFlag → Bool
step_ok m c Any = true
step_ok m c None = true
step_ok m c (Some q) = quiet (unstepped (opp c) q m) (opp c)

-- "some accepted earlier board with souls at most 8 a side has that move as a legal one, and the move gives today's men, turn, castling
-- rights and, unless unknown, today's en passant state", by today's terms: e is that board, p today's, k the kind promoted to. The double step
-- that e names must itself have been possible
pub record Gives (e p : Pos) (r : ChessRetraction) (k : ℕ) : Type 0 where
  pub is_accepted : accepted e ≡ true
  pub few_souls : souls_ok e.men ≡ true
  pub could_step : step_ok e.men e.turn e.state ≡ true
  pub is_legal : legal e r k ≡ true
  pub same_men : (replayed e r k).men ≡ p.men
  pub same_turn : (replayed e r k).turn ≡ p.turn
  pub same_rights : (replayed e r k).rights ≡ p.rights
  pub same_terms : e.terms ≡ p.terms
  pub same_state : agrees p.state (replayed e r k).state ≡ true

abbrev pub Past : Pos → ChessRetraction → Type 0
Past p r = (e : Pos) × (k : ℕ) × Gives e p r k

-- what an earlier board must have to count, beside acceptance
abbrev pub counts : Pos → Bool
counts e = souls_ok e.men and step_ok e.men e.turn e.state

-- the test: un-make succeeds (9 to 12), the un-made board is accepted and counts, castling is safe, and the state agrees
abbrev pub strict_by : Way → Color → Pos → Pos → ChessRetraction → Bool
strict_by w c e p r =
    retractable w c e p r and accepted e and counts e and safe e.men w c
    and agrees p.state (state_after e.terms.edition e.men (e.men r.target) r.target r.source)

abbrev pub strict : Pos → ChessRetraction → Bool
strict p r =
    let c = retractor p in
    let w = way_back c p r in
    strict_by w c (unmade_by w c p r) p r
