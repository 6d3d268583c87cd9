-- The between table's rule: a test that computes over the whole list, and what follows of each pair of squares.
use mathlib.Core.Path.{◌≡◌, ◌∙◌, refl, subst, ap₂}
use mathlib.Core.List.{List}
use mathlib.Core.Bool.{Bool, true, false}
use Prim.Native.Nat.{ℕ, ◌+◌, ◌*◌, ◌/◌, ◌%◌, ◌<◌, ◌^◌}
use native.Mathlib.Omega.{arith}
use lib.Dec.{T}
use lib.ListN.{length}
use lib.Arith.{digits_div, digits_mod}
use Rattle.squares.specs.Tests.{◌and◌, ◌or◌}
use Rattle.squares.specs.Squares.{has, file, rank}
use Rattle.geometry.specs.Lines.{between_of, between, same_rank, same_file, same_diagonal, inside, IsBetween}
use Rattle.squares.proofs.Comprehension.{set_of_none, has_set_of, up_to_lt}
use Rattle.tables.proofs.Entries.{entry, follows}

-- two squares on one rank, file or diagonal
on_line : ℕ → ℕ → Bool
on_line a b = same_rank a b or same_file a b or same_diagonal a b

-- the entry at a place of the table: nothing is computed where the two squares share no line
quick : ℕ → ℕ → ℕ
quick a b = elim (on_line a b) [ true ↦ between_of a b | false ↦ 0 ]

off_line : (a b : ℕ) → on_line a b ≡ false → (k : ℕ) → between a b k ≡ false
unfolding on_line between ◌and◌ ◌or◌
off_line a b e k = go (same_rank a b) (same_file a b) (same_diagonal a b) e
  where
    u : Bool
    u = inside (file a) (file b) (file k)

    v : Bool
    v = inside (rank a) (rank b) (rank k)

    go : (p q r : Bool) → (p or q or r) ≡ false → ((p and same_rank a k and u) or (q and same_file a k and v) or (r and same_diagonal a k and u and v)) ≡ false
    go true true true h = absurd (subst T h tt)
    go true true false h = absurd (subst T h tt)
    go true false true h = absurd (subst T h tt)
    go true false false h = absurd (subst T h tt)
    go false true true h = absurd (subst T h tt)
    go false true false h = absurd (subst T h tt)
    go false false true h = absurd (subst T h tt)
    go false false false h = refl

quick_is : (a b : ℕ) → quick a b ≡ between_of a b
unfolding quick between_of
quick_is a b = go (on_line a b) refl
  where
    go : (t : Bool) → on_line a b ≡ t → elim t [ true ↦ between_of a b | false ↦ 0 ] ≡ between_of a b
    go true e = refl
    go false e = set_of_none (between a b) (λ k l. off_line a b e k)

unfoldable pub entry_of : ℕ → ℕ
unfolding quick on_line
entry_of k = quick (k / 64) (k % 64)

here : (a b : ℕ) → b < 64 → entry_of (a * 64 + b) ≡ between_of a b
unfolding entry_of
here a b h = ap₂ quick (digits_div a h) (digits_mod a h) ∙ quick_is a b

-- the rule, from the test
pub rule : (t : List ℕ) → follows entry_of t ≡ true → length t ≡ 4096 → IsBetween t
rule t ok l = record {
  long = l;
  entry = λ a b ha hb. let h : a * 64 + b < length t = omega arith in entry entry_of t (a * 64 + b) ok h ∙ here a b hb;
}

pub between_lt : (a b : ℕ) → between_of a b < 2 ^ 64
unfolding between_of
between_lt a b = up_to_lt 64 (between a b)

pub between_has : (a b k : ℕ) → k < 64 → has (between_of a b) k ≡ between a b k
unfolding between_of
between_has a b k h = has_set_of (between a b) k h
