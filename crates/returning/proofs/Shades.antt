-- The squares of one shade, and the bishops on them.
use mathlib.Core.Path.{◌≡◌, refl, ap, ap₂, ◌∙◌}
use mathlib.Core.Bool.{Bool, true, false, not, cond}
use Prim.Native.Nat.{ℕ, ◌<◌}
use lib.Bits.{bit_and}
use Rattle.squares.specs.Tests.{◌and◌}
use Rattle.squares.specs.Squares.{has, set_of, size}
use Rattle.geometry.specs.declared.Color.{Color}
use Rattle.laws.specs.declared.Piece.TheVariants.{Bishop}
use Rattle.laws.specs.Men.{man, Men, same_man}
use Rattle.laws.specs.Souls.{dark}
use Rattle.men.specs.inner.Standing.{men_of}
use Rattle.souls.specs.Sets.{light_squares, dark_squares}
use Rattle.returning.specs.inner.Back.{like_shade, bishops_like}
use Rattle.squares.proofs.Digits.{has_and}
use Rattle.squares.proofs.Comprehension.{has_set_of}
use Rattle.squares.proofs.Counting.{count_cong}
use Rattle.men.proofs.Having.{has_men_of}

pub shade_is : (s : ℕ) → s < 64 → cond (has dark_squares s) dark_squares light_squares ≡ set_of (like_shade s)
unfolding dark_squares light_squares
shade_is s h = ap (λ (b : Bool). cond b dark_squares light_squares) (has_set_of dark s h) ∙ either (dark s)
  where
    either : (b : Bool) → cond b dark_squares light_squares ≡ set_of (λ a. cond b (dark a) (not (dark a)))
    either true = refl
    either false = refl

pub bishops_like_is : (m : Men) (c : Color) (s : ℕ) → size (bit_and (men_of m c Bishop) (set_of (like_shade s))) ≡ bishops_like m c s
unfolding bishops_like
bishops_like_is m c s =
    count_cong 64 (has (bit_and (men_of m c Bishop) (set_of (like_shade s)))) (λ a. same_man (m a) (man c Bishop) and like_shade s a)
    (λ a h. has_and (men_of m c Bishop) (set_of (like_shade s)) a ∙ ap₂ ◌and◌ (has_men_of m c Bishop a h) (has_set_of (like_shade s) a h))
