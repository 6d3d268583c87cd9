-- The Laws' strict test and its parts under names that no function has, shut, as contracts cite them.
use Rattle.std.specs.Prelude.{◌≡◌, Bool, true, false, ◌<◌}
use Rattle.squares.specs.Tests.{◌and◌}
use Rattle.geometry.specs.declared.Color.{Color}
use Rattle.laws.specs.declared.EnPassantFlag.{EnPassantFlag}
use Rattle.laws.specs.declared.EnPassantFlag.TheVariants.{Any, Some, None}
use Rattle.laws.specs.declared.ChessRetraction.{ChessRetraction}
use Rattle.laws.specs.Men.{Men}
use Rattle.laws.specs.Positions.{Pos}
use Rattle.laws.specs.Acceptance.{kings_ok, state_ok, quiet, accepted}
use Rattle.laws.specs.declared.Way.{Way}
use Rattle.laws.specs.Moves.{safe}
use Rattle.laws.specs.Strictness.{agrees, counts, strict}
use Rattle.laws.specs.Boards.{Clean, men_in, pos_at}
use Rattle.laws.specs.declared.Position.{Position}
use Rattle.moves.specs.inner.Parts.{way_for}
use Rattle.replay.specs.inner.Parts.{state_for}

-- souls and the double step; "castling out of or through attack excluded"; "unless unknown, today's en passant state"
unfoldable pub counts_for : Pos → Bool
counts_for e = counts e

unfoldable pub safe_for : Men → Way → Color → Bool
safe_for m w c = safe m w c

unfoldable pub agrees_for : EnPassantFlag → EnPassantFlag → Bool
agrees_for today after = agrees today after

abbrev pub none_for : EnPassantFlag → Bool
none_for Any = false
none_for (Some q) = false
none_for None = true

-- what is asked of the earlier position e beside 9 to 12 and 2 to 5
unfoldable pub earlier_for : Pos → ChessRetraction → EnPassantFlag → Bool
earlier_for e r today =
    counts_for e and agrees_for today (state_for e.terms.edition e.men (e.men r.target) r.target r.source)
    and safe_for e.men (way_for (e.men r.target) r.target r.source r.uncaptured) e.turn and quiet e.men e.turn

unfoldable pub strict_for : Pos → ChessRetraction → Bool
strict_for p r = strict p r

-- today's position: clean men that pass 2 to 6
pub record Today (p : Position) : Type 0 where
  pub sound : Clean p.pieces p.colors
  pub lawful : accepted (pos_at p) ≡ true

-- the un-made position of a retraction
pub record Earlier (e : Position) (r : ChessRetraction) : Type 0 where
  pub sound : Clean e.pieces e.colors
  pub kings : kings_ok (men_in e) ≡ true
  pub state : state_ok e.terms.edition (men_in e) e.turn e.passant ≡ true
  pub source_in : r.source < 64
  pub target_in : r.target < 64
