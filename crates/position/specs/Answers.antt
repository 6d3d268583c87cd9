-- The one value of a position, and what un-make and replay answer.
use Rattle.std.specs.Prelude.{replicate, Err}
use Rattle.geometry.specs.declared.Color.TheVariants.{White, Black}
use Rattle.laws.specs.declared.CastleRights.TheVariants.{NoRights}
use Rattle.laws.specs.declared.EnPassantFlag.TheVariants.{Any}
use Rattle.laws.specs.declared.Edition.TheVariants.{A}
use Rattle.laws.specs.declared.Side.TheVariants.{Short as short, Long as long}
use Rattle.laws.specs.declared.Position.{Position}
use Rattle.laws.specs.Positions.{Pos, rights_for, terms_of}
use Rattle.laws.specs.Boards.{kind_sets, color_sets}
use Rattle.refusal.specs.declared.Refusal.{Refusal}
use Rattle.position.specs.declared.Positioned.{Positioned}
use Rattle.refusal.specs.Refusals.{nothing_refused}

-- the one value of a position of the Laws
unfoldable pub position_of : Pos → Position
position_of p = record {
  pieces = kind_sets p.men;
  colors = color_sets p.men;
  turn = p.turn;
  white = rights_for (p.rights White short) (p.rights White long);
  black = rights_for (p.rights Black short) (p.rights Black long);
  passant = p.state;
  terms = p.terms;
}

-- "A refusal writes nothing and returns no board": no men, White, no rights, Any, edition A
unfoldable pub no_position : Position
no_position = record { pieces = replicate 6 0; colors = replicate 2 0; turn = White; white = NoRights; black = NoRights; passant = Any; terms = terms_of A }

-- an answer, and a refusal with the empty position
abbrev pub answered : Position → Positioned
answered q = record { verdict = nothing_refused; position = q }

abbrev pub refused : Refusal → Positioned
refused why = record { verdict = Err why; position = no_position }
