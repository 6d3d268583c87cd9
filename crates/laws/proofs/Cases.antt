-- A test over both colours, the six kinds or all men, computed at every case: `by-kinds (λ k. ..) refl k`.
use mathlib.Core.Path.{◌≡◌}
use mathlib.Core.Bool.{Bool, true, false, false≢true}
use Prim.Native.Nat.{ℕ, zero, suc}
use Rattle.squares.specs.Tests.{◌and◌}
use Rattle.geometry.specs.declared.Color.{Color}
use Rattle.geometry.specs.declared.Color.TheVariants.{White, Black}
use Rattle.laws.specs.declared.Piece.{Piece}
use Rattle.laws.specs.declared.Piece.TheVariants.{Pawn, Knight, Bishop, Rook, Queen, King}
use Rattle.laws.specs.Men.{Man, empty, man}
use Rattle.squares.proofs.Testing.{left, right}

-- where a holds, b does
abbrev pub implies : Bool → Bool → Bool
implies true b = b
implies false b = true

pub given : (a b : Bool) → implies a b ≡ true → a ≡ true → b ≡ true
given true b e h = e
given false b e h = absurd (false≢true h)

abbrev pub every_color : (Color → Bool) → Bool
every_color f = f White and f Black

abbrev pub every_kind : (Piece → Bool) → Bool
every_kind f = f Pawn and f Knight and f Bishop and f Rook and f Queen and f King

abbrev pub every_man : (Man → Bool) → Bool
every_man f = f empty and every_color (λ c. every_kind (λ k. f (man c k)))

pub by_colors : (f : Color → Bool) → every_color f ≡ true → (c : Color) → f c ≡ true
by_colors f e White = left _ _ e
by_colors f e Black = right _ _ e

pub by_kinds : (f : Piece → Bool) → every_kind f ≡ true → (k : Piece) → f k ≡ true
by_kinds f e Pawn = left _ _ (left _ _ (left _ _ (left _ _ (left _ _ e))))
by_kinds f e Knight = right _ _ (left _ _ (left _ _ (left _ _ (left _ _ e))))
by_kinds f e Bishop = right _ _ (left _ _ (left _ _ (left _ _ e)))
by_kinds f e Rook = right _ _ (left _ _ (left _ _ e))
by_kinds f e Queen = right _ _ (left _ _ e)
by_kinds f e King = right _ _ e

pub by_men : (f : Man → Bool) → every_man f ≡ true → (x : Man) → f x ≡ true
by_men f e empty = left _ _ e
by_men f e (man c k) = by_kinds (λ j. f (man c j)) (by_colors (λ d. every_kind (λ j. f (man d j))) (right _ _ e) c) k

-- a test of n tests, that it passes in all cases, and the law that it is: `by_cases 3 (λ a b c. ..) refl a b c`
abbrev pub Test : ℕ → Type 0
Test zero = Bool
Test (suc n) = Bool → Test n

abbrev pub every : (n : ℕ) → Test n → Bool
every zero t = t
every (suc n) f = every n (f true) and every n (f false)

abbrev pub Law : (n : ℕ) → Test n → Type 0
Law zero t = t ≡ true
Law (suc n) f = (b : Bool) → Law n (f b)

pub by_cases : (n : ℕ) (f : Test n) → every n f ≡ true → Law n f
by_cases zero t e = e
by_cases (suc n) f e = λ b. by_cases n (f b) (at b)
  where
    at : (b : Bool) → every n (f b) ≡ true
    at true = left _ _ e
    at false = right _ _ e
