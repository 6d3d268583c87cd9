-- A counter in the request's words is the digits of a number; how many they are; and what is out of range may be read as 10,000.
use mathlib.Core.Path.{◌≡◌, refl, sym, ◌∙◌, ap, subst}
use mathlib.Core.Bool.{Bool, true, false}
use mathlib.Core.List.{List, [], ◌∷◌, ◌++◌, append_assoc, append-nil}
use Prim.Native.Nat.{ℕ, suc, ◌+◌, ◌-◌, ◌*◌, ◌≤◌, ◌<◌, min}
use native.Mathlib.Omega.{arith}
use lib.Dec.{leb}
use lib.ListN.{length}
use borrow.Author.Tests.{le-leb, lt-leb, leb-true, leb-false, lt-ltb, ltb-true}
use Rattle.squares.proofs.Testing.{both, left, right}
use Rattle.rows.specs.Rows.{decimal_of}
use Rattle.rows.proofs.Decimals.{few_digits}
use Rattle.record_fields.specs.Counters.{all_digits, is_counter, in_range}
use Rattle.record_fields.proofs.Decimals.{dec_one, dec_snoc, dec_digits, Digits, First, dec_first}

-- the digits of some number
pub record Number (t : List ℕ) : Type 0 where
  pub value : ℕ
  pub digits : decimal_of value ≡ t

-- a number's digits are the digits behind it, as they stand
behind : (u : List ℕ) (v : ℕ) → 0 < v → all_digits u ≡ true → Number (decimal_of v ++ u)
unfolding all_digits
behind [] v h d = record { value = v; digits = sym (append-nil (decimal_of v)) }
behind (b ∷ u) v h d =
    let p = leb-true 48 b (left _ _ (left _ _ d)) in
    let q = leb-true b 57 (right _ _ (left _ _ d)) in
    let y : 48 + (b - 48) ≡ b = omega arith in
    let x : decimal_of (10 * v + (b - 48)) ++ u ≡ decimal_of v ++ (b ∷ u) =
    ap (λ (l : List ℕ). l ++ u) (dec_snoc v (b - 48) h (omega arith) ∙ ap (λ (a : ℕ). decimal_of v ++ (a ∷ [])) y) ∙ append_assoc (decimal_of v) (b ∷ []) u in
    subst Number x (behind u (10 * v + (b - 48)) (omega arith) (right _ _ d))

-- what the words call a counter is the digits of a number
pub words_number : (t : List ℕ) → is_counter t ≡ true → Number t
unfolding is_counter
words_number [] d = let z : ◌≡◌ {A = ℕ} 0 1 = cc in absurd (omega arith)
words_number (b ∷ []) d =
    let p = leb-true 48 b (left _ _ d) in
    let q = leb-true b 57 (right _ _ d) in
    let y : 48 + (b - 48) ≡ b = omega arith in
    record { value = b - 48; digits = dec_one (b - 48) (omega arith) ∙ ap (λ (a : ℕ). a ∷ []) y }
words_number (b ∷ c ∷ t) d =
    let p = ltb-true 48 b (left _ _ (left _ _ d)) in
    let q = leb-true b 57 (right _ _ (left _ _ d)) in
    let y : 48 + (b - 48) ≡ b = omega arith in
    let x : decimal_of (b - 48) ++ (c ∷ t) ≡ b ∷ c ∷ t = ap (λ (l : List ℕ). l ++ (c ∷ t)) (dec_one (b - 48) (omega arith)) ∙ ap (λ (a : ℕ). a ∷ c ∷ t) y in
    subst Number x (behind (c ∷ t) (b - 48) (omega arith) (right _ _ d))

all_digits_lem : (t : List ℕ) → Digits t → all_digits t ≡ true
unfolding Digits all_digits
all_digits_lem [] d = refl
all_digits_lem (b ∷ t) d = both (both (le-leb 48 b d.0) (le-leb b 57 d.1)) (all_digits_lem t d.2)

-- and the digits of a number are such a counter
pub number_words : (n : ℕ) → is_counter (decimal_of n) ≡ true
unfolding is_counter Digits First
number_words n = go (decimal_of n) (dec_digits n) (dec_first n)
  where
    go : (t : List ℕ) → Digits t → First t → is_counter t ≡ true
    go [] d f = absurd f
    go (b ∷ []) d f = both (le-leb 48 b d.0) (le-leb b 57 d.1)
    go (b ∷ c ∷ t) d f = both (both (lt-ltb 48 b f) (le-leb b 57 d.1)) (all_digits_lem (c ∷ t) d.2)

-- a counter in range has at most four digits, and any at most five
pub four_long : (x : ℕ) → x ≤ 9999 → length (decimal_of x) ≤ 4
four_long x h = few_digits 3 (suc x) x (omega arith)

pub five_long : (x : ℕ) → x < 65536 → length (decimal_of x) ≤ 5
five_long x h = few_digits 4 (suc x) x (omega arith)

-- values above the range may be read as 10,000
min_high : (h : ℕ) → leb (min h 10000) 9999 ≡ leb h 9999
min_high h = go (leb h 9999) refl
  where
    go : (x : Bool) → leb h 9999 ≡ x → leb (min h 10000) 9999 ≡ x
    go true e = le-leb (min h 10000) 9999 (omega (arith, leb-true h 9999 e))
    go false e = lt-leb (min h 10000) 9999 (omega (arith, leb-false h 9999 e))

min_low : (h : ℕ) → leb 1 (min h 10000) ≡ leb 1 h
min_low h = go (leb 1 h) refl
  where
    go : (x : Bool) → leb 1 h ≡ x → leb 1 (min h 10000) ≡ x
    go true e = le-leb 1 (min h 10000) (omega (arith, leb-true 1 h e))
    go false e = lt-leb 1 (min h 10000) (omega (arith, leb-false 1 h e))

pub min_range : (h n : ℕ) → in_range (min h 10000) (min n 10000) ≡ in_range h n
min_range h n = rw (min_high h, min_low n, min_high n)
