-- What the lists ask of the table that they are lent and of a view.
use Rattle.std.specs.Prelude.{◌≡◌, List, ℕ, ◌<◌}
use Rattle.geometry.specs.Colors.{opp}
use Rattle.geometry.specs.Lines.{IsBetween}
use Rattle.laws.specs.Attacks.{union_of}
use Rattle.laws.specs.Boards.{color_set, men_at, Clean}
use Rattle.view.specs.declared.View.{View}
use Rattle.view.specs.Views.{within}

-- the view of clean men: `combined` is their union, and `foes` are those of the side to move
pub record Whole (v : View) : Type 0 where
  pub clean : Clean v.pieces v.colors
  pub union : v.combined ≡ union_of (men_at v.pieces v.colors)
  pub foes : v.foes ≡ within v.pieces (color_set v.colors (opp v.color))

-- the lent table of the squares between, and a view of clean men with its kings on the board
pub record Ready (t : List ℕ) (v : View) : Type 0 where
  pub table : IsBetween t
  pub king : v.king < 64
  pub oppking : v.oppking < 64
  pub whole : Whole v
