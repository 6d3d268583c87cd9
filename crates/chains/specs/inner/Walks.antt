-- Chains over positions, and positions of which one says no more than the other.
use Rattle.std.specs.Prelude.{◌≡◌, ◌⊎◌, true, List, [], ◌∷◌, ℕ}
use Rattle.geometry.specs.declared.Color.{Color}
use Rattle.laws.specs.declared.EnPassantFlag.TheVariants.{Any}
use Rattle.laws.specs.declared.ChessRetraction.{ChessRetraction}
use Rattle.laws.specs.declared.Side.{Side}
use Rattle.laws.specs.Positions.{Pos}
use Rattle.laws.specs.Strictness.{Gives}

-- the latest move is from e to p, and the moves before it end in e
abbrev pub PosChain : List ChessRetraction → Pos → Type 0
PosChain [] p = Unit {0}
PosChain (r ∷ l) p = (e : Pos) × (k : ℕ) × Gives e p r k × PosChain l e

-- q says no more than p: the same men, turn and terms, no right that p has not, and a state that is unknown or p's
pub record Under (q p : Pos) : Type 0 where
  pub men : q.men ≡ p.men
  pub turn : q.turn ≡ p.turn
  pub terms : q.terms ≡ p.terms
  pub rights : (c : Color) (d : Side) → q.rights c d ≡ true → p.rights c d ≡ true
  pub state : (q.state ≡ Any) ⊎ (q.state ≡ p.state)
