-- The souls of men without bishops, by their numbers.
use mathlib.Core.Path.{◌≡◌, ◌∙◌, ap}
use mathlib.Core.Bool.{Bool, not}
use Prim.Native.Nat.{ℕ, ◌+◌, ◌-◌}
use native.Mathlib.Omega.{arith}
use Rattle.squares.specs.Tests.{◌and◌}
use Rattle.squares.specs.Squares.{how_many}
use Rattle.geometry.specs.declared.Color.{Color}
use Rattle.laws.specs.declared.Piece.{Piece}
use Rattle.laws.specs.declared.Piece.TheVariants.{Pawn, Knight, Bishop, Rook, Queen}
use Rattle.laws.specs.Men.{man, Men, same_man}
use Rattle.laws.specs.Souls.{dark, souls}
use Rattle.daggers.specs.Table.{Alone}
use Rattle.squares.proofs.Counting.{count_none, count_empty}

-- the souls of so many men, bishops left out
abbrev pub souls_by : (Piece → ℕ) → ℕ
souls_by w = w Pawn + (w Knight - 2) + (w Rook - 2) + (w Queen - 1)

module _ (m : Men) (c : Color) (w : Piece → ℕ) (alone : Alone m c w) (none : w Bishop ≡ 0) where
  no_bishops : (f : ℕ → Bool) → how_many (λ a. same_man (m a) (man c Bishop) and f a) ≡ 0
  unfolding ◌and◌
  no_bishops f =
      count_empty 64 _ λ k h. ap (λ (t : Bool). t and f k) (count_none 64 (λ a. same_man (m a) (man c Bishop)) (alone Bishop ∙ none) k h)

  pub souls_by_lem : souls m c ≡ souls_by w
  souls_by_lem = rw (alone Pawn, alone Knight, alone Rook, alone Queen, no_bishops (λ a. not (dark a)), no_bishops dark) (omega arith)
