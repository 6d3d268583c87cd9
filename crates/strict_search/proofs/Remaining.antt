-- What remains of the strict list from a place on.
use mathlib.Core.Path.{◌≡◌, refl, sym, ap, ◌∙◌, subst}
use mathlib.Core.Bool.{Bool, true, false}
use mathlib.Core.List.{List, [], ◌∷◌, map}
use Prim.Native.Nat.{ℕ, zero, suc, ◌+◌, ◌-◌, ◌≤◌, ◌<◌}
use native.Mathlib.Nat.{add-zero, zero-add}
use native.Mathlib.Numerals.{one-add}
use native.Mathlib.Omega.{arith}
use lib.ListN.{length}
use Rattle.laws.specs.declared.ChessRetraction.{ChessRetraction}
use Rattle.laws.specs.Positions.{Pos}
use Rattle.laws.specs.Retractions.{InRange}
use Rattle.squares.specs.Squares.{flag, count_to}
use Rattle.squares.specs.Members.{numbers_from}
use Rattle.laws.specs.StrictLists.{retraction_at}
use Rattle.strict_test.specs.inner.Strictly.{strict_for}
use Rattle.strict_search.specs.inner.Searching.{strict_moves, test_of, Skips, Next}
use Rattle.strict_search.specs.inner.Keeping.{kept_test, kept_moves}
use Rattle.squares.proofs.Counting.{count_cong}
use Rattle.strict_search.proofs.Sizes.{count_more}

-- the retractions at the n places from i on that pass
unfoldable pub moves_from : (ℕ → Bool) → ℕ → ℕ → List ChessRetraction
moves_from f i n = map retraction_at (numbers_from f i n)

-- and at all places from i on
abbrev pub rest : (ℕ → Bool) → ℕ → List ChessRetraction
rest f i = moves_from f i (49152 - i)

-- the place i, by whether it passes
abbrev one_place : (ℕ → Bool) → ℕ → ℕ → Bool → List ChessRetraction
one_place f i n t = map retraction_at (elim t as (λ _. List ℕ) [ true ↦ i ∷ numbers_from f (suc i) n | false ↦ numbers_from f (suc i) n ])

pass_over : (f : ℕ → Bool) (i n : ℕ) → f i ≡ false → moves_from f i (suc n) ≡ moves_from f (suc i) n
unfolding moves_from
pass_over f i n e = ap (one_place f i n) e

skip_on : (f : ℕ → Bool) (i d n : ℕ) → ((k : ℕ) → i ≤ k → k < i + d → f k ≡ false) → moves_from f i (d + n) ≡ moves_from f (i + d) n
skip_on f i zero n h = ap (moves_from f i) (zero-add n) ∙ ap (λ (k : ℕ). moves_from f k n) (sym (add-zero i))
skip_on f i (suc d) n h =
    ap (moves_from f i) (omega arith) ∙ pass_over f i (d + n) (h i (omega arith) (omega arith))
    ∙ skip_on f (suc i) d n (λ k l m. h k (omega arith) (omega arith)) ∙ ap (λ (k : ℕ). moves_from f k n) (omega arith)

pub rest_skips : (f : ℕ → Bool) (i j : ℕ) → Skips f i j → rest f i ≡ rest f j
rest_skips f i j s =
    ap (moves_from f i) (whole s.on s.most) ∙ skip_on f i (j - i) (49152 - j) (λ k l m. s.none k l (near s.on m)) ∙ ap (λ (k : ℕ). moves_from f k (49152 - j)) (there s.on)
  where
    whole : i ≤ j → j ≤ 49152 → 49152 - i ≡ (j - i) + (49152 - j)
    whole h m = omega arith

    near : {k : ℕ} → i ≤ j → k < i + (j - i) → k < j
    near h m = omega arith

    there : i ≤ j → i + (j - i) ≡ j
    there h = omega arith

rest_here : (f : ℕ → Bool) (j : ℕ) → j < 49152 → f j ≡ true → rest f j ≡ retraction_at j ∷ rest f (j + 1)
unfolding moves_from
rest_here f j h e =
    ap (moves_from f j) (more h) ∙ ap (one_place f j (49152 - (j + 1))) e ∙ ap (λ (k : ℕ). retraction_at j ∷ moves_from f k (49152 - (j + 1))) (omega arith)
  where
    more : j < 49152 → 49152 - j ≡ suc (49152 - (j + 1))
    more h = omega arith

pub all_rest : (p : Pos) → strict_moves p ≡ rest (test_of p) 0
unfolding strict_moves moves_from test_of strict_for
all_rest p = refl

length_le : (f : ℕ → Bool) (i n : ℕ) → length (moves_from f i n) ≤ n
unfolding moves_from
length_le f i zero = omega arith
length_le f i (suc n) = go (f i) (length_le f (suc i) n)
  where
    go : (t : Bool) → length (map retraction_at (numbers_from f (suc i) n)) ≤ n → length (one_place f i n t) ≤ suc n
    go true h = omega arith
    go false h = omega arith

pub moves_le : (p : Pos) → length (strict_moves p) ≤ 49152
moves_le p = subst (λ (l : List ChessRetraction). length l ≤ 49152) (sym (all_rest p)) (length_le (test_of p) 0 49152)

pub kept_rest : (l : List ℕ) → kept_moves l ≡ rest (kept_test l) 0
unfolding kept_moves moves_from
kept_rest l = refl

-- two tests that agree on all places
moves_same : (f g : ℕ → Bool) (i n : ℕ) → ((k : ℕ) → k < i + n → f k ≡ g k) → moves_from f i n ≡ moves_from g i n
unfolding moves_from
moves_same f g i zero h = refl
moves_same f g i (suc n) h = ap (one_place f i n) (h i (omega arith)) ∙ go (g i) (moves_same f g (suc i) n (λ k l. h k (omega arith)))
  where
    go : (t : Bool) → map retraction_at (numbers_from f (suc i) n) ≡ map retraction_at (numbers_from g (suc i) n) → one_place f i n t ≡ one_place g i n t
    go true e = ap (λ (l : List ChessRetraction). retraction_at i ∷ l) e
    go false e = e

pub kept_same : (l : List ℕ) (p : Pos) → ((k : ℕ) → k < 49152 → kept_test l k ≡ test_of p k) → kept_moves l ≡ strict_moves p
kept_same l p h = kept_rest l ∙ moves_same (kept_test l) (test_of p) 0 49152 h ∙ sym (all_rest p)

-- how many there are
moves_count : (f : ℕ → Bool) (i n : ℕ) → length (moves_from f i n) ≡ count_to n (λ k. f (i + k))
unfolding moves_from count_to
moves_count f i zero = refl
moves_count f i (suc n) = go (f i) refl (moves_count f (suc i) n) ∙ sym (ap (λ (m : ℕ). count_to m (λ k. f (i + k))) (sym (one-add n)) ∙ count_more 1 n (λ k. f (i + k)))
  where
    first : (t : Bool) → f i ≡ t → flag (f (i + 0)) ≡ flag t
    first t e = ap flag (ap f (add-zero i) ∙ e)

    same : count_to n (λ k. f (suc i + k)) ≡ count_to n (λ k. f (i + (1 + k)))
    same = count_cong n (λ k. f (suc i + k)) (λ k. f (i + (1 + k))) (λ k l. ap f (omega arith))

    go : (t : Bool) → f i ≡ t → length (map retraction_at (numbers_from f (suc i) n)) ≡ count_to n (λ k. f (suc i + k)) → length (one_place f i n t) ≡ count_to 1 (λ k. f (i + k)) + count_to n (λ k. f (i + (1 + k)))
    go true e h = omega (arith, h, same, first true e)
    go false e h = omega (arith, h, same, first false e)

pub count_all : (p : Pos) → count_to 49152 (test_of p) ≡ length (strict_moves p)
count_all p = sym (ap length (all_rest p) ∙ moves_count (test_of p) 0 49152 ∙ count_cong 49152 (λ k. test_of p (0 + k)) (test_of p) (λ k l. ap (test_of p) (zero-add k)))

-- j is the next place from i on
module _ (f : ℕ → Bool) (i j : ℕ) (x : Next f i j) where
  pub at_end : j ≡ 49152 → rest f i ≡ []
  unfolding moves_from
  at_end e = rest_skips f i j x.skips ∙ ap (rest f) e

  pub inner : (j ≡ 49152 → ⊥) → j < 49152
  inner h = let l : j ≤ 49152 = x.skips.most in omega arith

  pub one_more : j < 49152 → rest f i ≡ retraction_at j ∷ rest f (j + 1)
  one_more l = rest_skips f i j x.skips ∙ rest_here f j l (x.there l)

pub over : (f : ℕ → Bool) (i : ℕ) → i ≤ 49152 → 49152 ≤ i → rest f i ≡ []
unfolding moves_from
over f i h l = ap (rest f) (at h l)
  where
    at : i ≤ 49152 → 49152 ≤ i → i ≡ 49152
    at h l = omega arith

pub placed_in : (j : ℕ) → j < 49152 → InRange (retraction_at j)
placed_in j h = record { source_in = omega arith; target_in = omega arith; uncaptured_in = omega arith }
