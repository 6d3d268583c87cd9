-- A position: the men, the turn, the castling rights and the en passant state, which is read by an edition.
use Rattle.std.specs.Prelude.{Bool, true, false, ℕ}
use Rattle.geometry.specs.declared.Color.{Color}
use Rattle.geometry.specs.declared.Color.TheVariants.{White, Black}
use Rattle.geometry.specs.Colors.{opp, home_square}
use Rattle.laws.specs.declared.Side.{Side}
use Rattle.laws.specs.declared.Side.TheVariants.{Short as short, Long as long}
use Rattle.laws.specs.declared.CastleRights.{CastleRights}
use Rattle.laws.specs.declared.CastleRights.TheVariants.{NoRights, KingSide, QueenSide, Both}
use Rattle.laws.specs.declared.EnPassantFlag.{EnPassantFlag}
use Rattle.laws.specs.declared.EnPassantFlag.TheVariants.{Any, Some, None}
use Rattle.laws.specs.declared.Edition.{Edition}
use Rattle.laws.specs.declared.Terms.{Terms}
use Rattle.laws.specs.Men.{Men}

-- the right of a colour to castle on a side
abbrev pub Rights : Type 0
Rights = Color → Side → Bool

abbrev pub holds : CastleRights → Side → Bool
holds NoRights d = false
holds KingSide short = true
holds KingSide long = false
holds QueenSide short = false
holds QueenSide long = true
holds Both d = true

-- the rights that White's field and Black's say
abbrev pub rights_of : CastleRights → CastleRights → Rights
rights_of w b White d = holds w d
rights_of w b Black d = holds b d

-- a field that says two given rights
abbrev pub rights_for : Bool → Bool → CastleRights
rights_for true true = Both
rights_for true false = KingSide
rights_for false true = QueenSide
rights_for false false = NoRights

-- the terms of an edition
abbrev pub terms_of : Edition → Terms
terms_of v = record { edition = v }

-- `set_uncertain_ep`: none becomes unknown, all else stays
abbrev pub uncertain : EnPassantFlag → EnPassantFlag
uncertain Any = Any
uncertain (Some q) = Some q
uncertain None = Any

pub record Pos : Type 0 where
  pub men : Men
  pub turn : Color
  pub rights : Rights
  pub state : EnPassantFlag
  pub terms : Terms

-- "The retractor is the side not to move"
abbrev pub retractor : Pos → Color
retractor p = opp p.turn

-- castling: the king's home, the corner of a side, and where king and rook go
abbrev pub king_home : Color → ℕ
king_home c = home_square c 4

abbrev pub corner : Color → Side → ℕ
corner c short = home_square c 7
corner c long = home_square c 0

abbrev pub king_to : Color → Side → ℕ
king_to c short = home_square c 6
king_to c long = home_square c 2

abbrev pub rook_to : Color → Side → ℕ
rook_to c short = home_square c 5
rook_to c long = home_square c 3
