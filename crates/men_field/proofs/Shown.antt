-- The letter of a square, by the sets that it is in.
use mathlib.Core.Path.{◌≡◌, ◌∙◌, ap}
use mathlib.Core.Bool.{true, false}
use mathlib.Core.List.{List}
use Prim.Native.Nat.{ℕ, ◌+◌, ◌<◌}
use borrow.Author.Tests.{lt-ltb}
use Rattle.squares.specs.Squares.{has}
use Rattle.geometry.specs.declared.Color.TheVariants.{White, Black}
use Rattle.laws.specs.Boards.{color_set, man_by, men_at}
use Rattle.men_field.specs.Placement.{kind_letter, byte_of}
use Rattle.men_field.specs.inner.Lines.{kind_shown}

module _ (p c : List ℕ) (k : ℕ) (h : k < 64) where
  shown : men_at p c k ≡ man_by (has (color_set c White) k) (has (color_set c Black) k) (kind_shown p k)
  unfolding men_at
  shown = rw (men_at, lt-ltb k 64 h)

  pub white_letter : has (color_set c White) k ≡ true → byte_of (men_at p c k) ≡ kind_letter (kind_shown p k)
  white_letter e = ap byte_of shown ∙ (rw e)

  pub black_letter : has (color_set c White) k ≡ false → has (color_set c Black) k ≡ true → byte_of (men_at p c k) ≡ 32 + kind_letter (kind_shown p k)
  black_letter e f = ap byte_of shown ∙ (rw (e, f))

  pub no_letter : has (color_set c White) k ≡ false → has (color_set c Black) k ≡ false → byte_of (men_at p c k) ≡ 0
  no_letter e f = ap byte_of shown ∙ (rw (e, f))
