-- The words of a place, by what stands at each index.
use mathlib.Core.Path.{◌≡◌, refl, sym, ap, ◌∙◌}
use mathlib.Core.List.{List}
use Prim.Native.Nat.{ℕ, zero, suc, ◌+◌, ◌<◌}
use native.Mathlib.Omega.{arith}
use lib.ListN.{length, get_or}
use lib.Seq.{ext_get_or}
use Rattle.place.specs.Words.{words_at}

words_get : (s : List ℕ) (k n i : ℕ) → i < n → get_or (words_at s k n) i 0 ≡ get_or s (k + i) 0
words_get s k zero i h = absurd (omega arith)
words_get s k (suc n) zero h = let e : k + 0 ≡ k = omega arith in rw e
words_get s k (suc n) (suc i) h = let e : k + suc i ≡ suc k + i = omega arith in rw e (words_get s (suc k) n i (omega arith))

pub words_count : (s : List ℕ) (k n : ℕ) → length (words_at s k n) ≡ n
words_count s k zero = refl
words_count s k (suc n) = ap suc (words_count s (suc k) n)

pub words_are : (s w : List ℕ) (k n : ℕ) → length w ≡ n → ((j : ℕ) → j < n → get_or w j 0 ≡ get_or s (k + j) 0) → w ≡ words_at s k n
words_are s w k n l h = ext_get_or 0 w (words_at s k n) (l ∙ sym (words_count s k n)) (λ i u. h i (omega arith) ∙ sym (words_get s k n i (omega arith)))
