-- The strict list. "Order: source, target, uncaptured, un-promotion (unmarked first)."
use Rattle.std.specs.Prelude.{List, [], ◌∷◌, ℕ, ◌+◌, ◌*◌, ◌/◌, ◌%◌, ◌<◌, eqb}
use Rattle.squares.specs.Squares.{flag}
use Rattle.squares.specs.Members.{numbers_from}
use Rattle.laws.specs.declared.ChessRetraction.{ChessRetraction}
use Rattle.laws.specs.Positions.{Pos}
use Rattle.laws.specs.Strictness.{strict}

-- the place of a retraction in the stated order of all 64 × 64 × 6 × 2, and the retraction at a place
abbrev pub place : ChessRetraction → ℕ
place r = r.source * 768 + (r.target * 12 + (r.uncaptured * 2 + flag r.unpromotion))

abbrev pub retraction_at : ℕ → ChessRetraction
retraction_at i = record { source = i / 768; target = i / 12 % 64; uncaptured = i / 2 % 6; unpromotion = eqb (i % 2) 1 }

abbrev pub strict_places : Pos → List ℕ
strict_places p = numbers_from (λ i. strict p (retraction_at i)) 0 49152

-- each number is below all that follow: in order, and once
abbrev pub Below : ℕ → List ℕ → Type 0
Below i [] = Unit {0}
Below i (j ∷ js) = (i < j) × Below i js

abbrev pub Ascending : List ℕ → Type 0
Ascending [] = Unit {0}
Ascending (i ∷ is) = Below i is × Ascending is

-- x is in the list
pub data In {A : Type 0} (x : A) : List A → Type 0 where
  here : {l : List A} → In x (x ∷ l)
  there : {y : A} {l : List A} → In x l → In x (y ∷ l)
