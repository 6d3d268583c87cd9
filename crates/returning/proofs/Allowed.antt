-- The set of the men that may come back to a square, by the souls that there are: all where there are fewer than eight, none where there are more,
-- and at eight those that cost none.
use mathlib.Core.Path.{◌≡◌, refl, sym, ap, ◌∙◌}
use mathlib.Core.Bool.{Bool, true, false, not, cond}
use Prim.Native.Nat.{ℕ, ◌+◌, ◌*◌, ◌≤◌, ◌<◌}
use native.Mathlib.Omega.{arith}
use lib.Bits.{bit_or}
use lib.Dec.{eqb, leb, ltb}
use borrow.Author.Tests.{eqb-true, leb-true, le-leb, lt-leb, lt-ltb}
use Rattle.squares.specs.Tests.{◌and◌}
use Rattle.squares.specs.Squares.{flag, up_to, set_of}
use Rattle.geometry.specs.declared.Color.{Color}
use Rattle.laws.specs.declared.Piece.{Piece}
use Rattle.laws.specs.declared.Piece.TheVariants.{Pawn, Knight, Bishop, Rook, Queen}
use Rattle.laws.specs.Men.{man, Men, is_of, put}
use Rattle.laws.specs.Souls.{souls}
use Rattle.laws.specs.Acceptance.{edge}
use Rattle.returning.specs.inner.Back.{comes_back}
use Rattle.squares.proofs.Testing.{left, right, and_swap, absorbs}
use Rattle.squares.proofs.Comprehension.{flag_lt, up_to_lt, has_up_to, is_up_to}
use Rattle.laws.proofs.Cases.{by_cases}
use Rattle.returning.proofs.Gained.{costs, souls_gained}

-- the set of those of the numbers 1 to 5 whose test passes
abbrev five_of : (p n b r q : Bool) → ℕ
five_of p n b r q = flag q * 32 + (flag r * 16 + (flag b * 8 + (flag n * 4 + (flag p * 2 + 0))))

module _ (m : Men) (c : Color) (s : ℕ) where
  -- no number above 5 comes back
  low : set_of (comes_back m c s) ≡ up_to 6 (comes_back m c s)
  unfolding comes_back
  low = sym (is_up_to 64 (up_to 6 back) back (omega (arith, up_to_lt 6 back)) (λ k l. has_up_to 6 back k ∙ and_swap (ltb k 6) (back k) ∙ absorbs (back k) (ltb k 6) (below k)))
    where
      back : ℕ → Bool
      back = comes_back m c s

      below : (k : ℕ) → back k ≡ true → ltb k 6 ≡ true
      below k e = lt-ltb k 6 (omega (arith, leb-true k 5 (right _ _ (left _ _ (left _ _ e)))))

  -- with the man of the kind j on s there are at most eight souls
  abbrev few : Piece → Bool
  few j = leb (souls (put s (man c j) m) c) 8

  back_is : (p n b r q : Bool) → few Pawn ≡ p → few Knight ≡ n → few Bishop ≡ b → few Rook ≡ r → few Queen ≡ q → five_of (not (edge s) and p) n b r q ≡ set_of (comes_back m c s)
  unfolding up_to comes_back ◌and◌
  back_is p n b r q hp hn hb hr hq = sym (low ∙ (λ i. five_of (not (edge s) and hp i) (hn i) (hb i) (hr i) (hq i)))

  module _ (h : s < 64) (free : is_of c (m s) ≡ false) where
    gained : (j : Piece) → few j ≡ leb (souls m c + flag (costs m c s j)) 8
    gained j = ap (λ (n : ℕ). leb n 8) (souls_gained m c s h free j)

    pub all_back : souls m c ≤ 7 → cond (edge s) 60 62 ≡ set_of (comes_back m c s)
    unfolding ◌and◌
    all_back l = edges (edge s) ∙ back_is true true true true true (yes Pawn) (yes Knight) (yes Bishop) (yes Rook) (yes Queen)
      where
        room : (n : ℕ) (t : Bool) → n ≤ 7 → leb (n + flag t) 8 ≡ true
        room n t l = le-leb (n + flag t) 8 (omega (arith, flag_lt t))

        yes : (j : Piece) → few j ≡ true
        yes j = gained j ∙ room (souls m c) (costs m c s j) l

        edges : (b : Bool) → cond b 60 62 ≡ five_of (not b and true) true true true true
        edges true = refl
        edges false = refl

    pub none_back : 8 < souls m c → 0 ≡ set_of (comes_back m c s)
    unfolding ◌and◌
    none_back l = edges (edge s) ∙ back_is false false false false false (no Pawn) (no Knight) (no Bishop) (no Rook) (no Queen)
      where
        over : (n : ℕ) (t : Bool) → 8 < n → leb (n + flag t) 8 ≡ false
        over n t l = lt-leb (n + flag t) 8 (omega arith)

        no : (j : Piece) → few j ≡ false
        no j = gained j ∙ over (souls m c) (costs m c s j) l

        edges : (b : Bool) → 0 ≡ five_of (not b and false) false false false false
        edges true = refl
        edges false = refl

    pub eight_back : souls m c ≡ 8
        → bit_or (bit_or (bit_or (cond (costs m c s Knight) 0 4) (cond (costs m c s Bishop) 0 8)) (cond (costs m c s Rook) 0 16)) (cond (costs m c s Queen) 0 32) ≡ set_of (comes_back m c s)
    unfolding ◌and◌
    eight_back e =
        joined (edge s) (costs m c s Knight) (costs m c s Bishop) (costs m c s Rook) (costs m c s Queen)
        ∙ back_is false (not (costs m c s Knight)) (not (costs m c s Bishop)) (not (costs m c s Rook)) (not (costs m c s Queen)) (at Pawn) (at Knight) (at Bishop) (at Rook) (at Queen)
      where
        full : (t : Bool) → leb (8 + flag t) 8 ≡ not t
        full true = refl
        full false = refl

        at : (j : Piece) → few j ≡ not (costs m c s j)
        at j = gained j ∙ ap (λ (n : ℕ). leb (n + flag (costs m c s j)) 8) e ∙ full (costs m c s j)

        joined : (t n b r q : Bool) → bit_or (bit_or (bit_or (cond n 0 4) (cond b 0 8)) (cond r 0 16)) (cond q 0 32) ≡ five_of (not t and false) (not n) (not b) (not r) (not q)
        joined t n b r q =
            eqb-true _ _
            (by_cases 5 (λ t n b r q. eqb (bit_or (bit_or (bit_or (cond n 0 4) (cond b 0 8)) (cond r 0 16)) (cond q 0 32)) (five_of (not t and false) (not n) (not b) (not r) (not q))) refl t n b r q)
