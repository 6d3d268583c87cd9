-- Turning a position into the other edition: what its state says there.
use Rattle.std.specs.Prelude.{cond}
use Rattle.geometry.specs.declared.Color.{Color}
use Rattle.laws.specs.declared.EnPassantFlag.{EnPassantFlag}
use Rattle.laws.specs.declared.EnPassantFlag.TheVariants.{Any, Some, None}
use Rattle.laws.specs.declared.Edition.{Edition}
use Rattle.laws.specs.declared.Edition.TheVariants.{A, B}
use Rattle.laws.specs.Men.{Men}
use Rattle.laws.specs.Positions.{Pos, terms_of}
use Rattle.laws.specs.Acceptance.{noted}

abbrev pub other_edition : Edition → Edition
other_edition A = B
other_edition B = A

-- "Turning A into B makes a dash unknown; B into A drops a square without a neighbour to a dash. Unknown never becomes a dash." The edition
-- is the one turned from, c is to move
abbrev pub turned_state : Edition → Men → Color → EnPassantFlag → EnPassantFlag
turned_state A m c Any = Any
turned_state A m c None = Any
turned_state A m c (Some q) = Some q
turned_state B m c Any = Any
turned_state B m c None = None
turned_state B m c (Some q) = cond (noted A m c q) (Some q) None

-- all else stays
abbrev pub turned : Pos → Pos
turned p = record {
  men = p.men;
  turn = p.turn;
  rights = p.rights;
  state = turned_state p.terms.edition p.men p.turn p.state;
  terms = terms_of (other_edition p.terms.edition);
}
