-- On clean men the souls counted on a side's sets are those of the Laws.
use mathlib.Core.Path.{◌≡◌, ap, ◌∙◌}
use mathlib.Core.Bool.{Bool, not}
use mathlib.Core.List.{List, [], ◌∷◌}
use Prim.Native.Nat.{ℕ, ◌+◌}
use native.Mathlib.Omega.{arith}
use lib.Bits.{bit_and}
use Rattle.squares.specs.Tests.{◌and◌}
use Rattle.squares.specs.Squares.{has, set_of, size, how_many}
use Rattle.geometry.specs.declared.Color.{Color}
use Rattle.laws.specs.declared.Piece.{Piece}
use Rattle.laws.specs.declared.Piece.TheVariants.{Pawn, Knight, Bishop, Rook, Queen, King}
use Rattle.laws.specs.Men.{man, same_man}
use Rattle.laws.specs.Souls.{dark, number, souls}
use Rattle.laws.specs.Boards.{kind_set, color_set, men_at, Clean}
use Rattle.men.specs.inner.Standing.{men_of}
use Rattle.souls.specs.Sets.{light_squares, dark_squares, souls_of}
use Rattle.squares.proofs.Digits.{has_and}
use Rattle.squares.proofs.Comprehension.{has_set_of}
use Rattle.squares.proofs.Counting.{count_cong}
use Rattle.men.proofs.Having.{has_men_of, size_men_of, men_of_is}

-- the sets of the men that stand in a set, by kind
abbrev pub kinds_in : List ℕ → ℕ → List ℕ
kinds_in pieces s =
    bit_and (kind_set pieces Pawn) s ∷ bit_and (kind_set pieces Knight) s ∷ bit_and (kind_set pieces Bishop) s ∷ bit_and (kind_set pieces Rook) s
    ∷ bit_and (kind_set pieces Queen) s ∷ bit_and (kind_set pieces King) s ∷ []

module _ (pieces colors : List ℕ) (ok : Clean pieces colors) (c : Color) where
  abbrev set : Piece → ℕ
  set k = bit_and (kind_set pieces k) (color_set colors c)

  all_of : (k : Piece) → size (set k) ≡ number (men_at pieces colors) c k
  all_of k = ap size (men_of_is pieces colors ok c k) ∙ size_men_of (men_at pieces colors) c k

  -- those of them on the squares that pass a test
  some_of : (k : Piece) (p : ℕ → Bool) → size (bit_and (set k) (set_of p)) ≡ how_many (λ a. same_man (men_at pieces colors a) (man c k) and p a)
  some_of k p =
      rw (men_of_is pieces colors ok c k)
      (count_cong 64 (has (bit_and (men_of (men_at pieces colors) c k) (set_of p))) (λ a. same_man (men_at pieces colors a) (man c k) and p a)
      (λ a h. has_and (men_of (men_at pieces colors) c k) (set_of p) a ∙ rw (has_men_of (men_at pieces colors) c k a h, has_set_of p a h)))

  pub souls_are : souls_of (kinds_in pieces (color_set colors c)) ≡ souls (men_at pieces colors) c
  unfolding souls_of light_squares dark_squares
  souls_are =
      let p = all_of Pawn in
      let n = all_of Knight in
      let l = some_of Bishop (λ k. not (dark k)) in
      let d = some_of Bishop dark in
      let r = all_of Rook in
      let q = all_of Queen in
      rw (p, n, l, d, r, q) (regroup _ _ _ _ _ _)
    where
      regroup : (p n l d r q : ℕ) → p + (n + l + d + r + q) ≡ p + n + l + d + r + q
      regroup p n l d r q = omega arith
