-- How many places of a source are strict, by its sets.
use mathlib.Core.Path.{◌≡◌, refl, sym, ap, ◌∙◌}
use mathlib.Core.Bool.{Bool, false}
use Prim.Native.Nat.{ℕ, zero, suc, ◌+◌, ◌*◌, ◌%◌, ◌≤◌, ◌<◌}
use native.Mathlib.Nat.{add-zero, add-suc, le_refl, mul-le-mul}
use native.Mathlib.Omega.{arith}
use lib.Bits.{bit_and}
use Rattle.squares.specs.Tests.{◌and◌, ◌or◌}
use Rattle.squares.specs.Squares.{has, flag, all_to, count_to, size}
use Rattle.strict_sets.specs.declared.Targets.{Targets}
use Rattle.strict_search.specs.inner.Searching.{holds_in}
use Rattle.squares.proofs.Counting.{count_cong, count_le}
use Rattle.strict_search.proofs.Twelve.{nth, place_is, by, at, even_law, men_lt, men_none, holds_by}

-- those of one target
counted : (a b c d : Bool) (m : ℕ) → m < 64 → has m 0 ≡ false → count_to 12 (by a b c d m) ≡ flag a + flag c + (flag b + flag d) * size m
unfolding count_to has all_to ◌and◌ ◌or◌
counted = even_law (λ a b c d m. count_to 12 (by a b c d m)) (λ a b c d m. flag a + flag c + (flag b + flag d) * size m) refl

pub count_more : (n m : ℕ) (p : ℕ → Bool) → count_to (n + m) p ≡ count_to n p + count_to m (λ k. p (n + k))
unfolding count_to
count_more n zero p = ap (λ (k : ℕ). count_to k p) (add-zero n) ∙ sym (add-zero (count_to n p))
count_more n (suc m) p = ap (λ (k : ℕ). count_to k p) (add-suc n m) ∙ omega (arith, count_more n m p)

module _ (w : Targets) (men : ℕ) (e : men ≡ size (bit_and w.men 62)) where
  at_target : (q : ℕ) → q < 64 → count_to 12 (λ n. holds_in w (q * 12 + n)) ≡ flag (has w.plain q) + flag (has w.marked q) + (flag (has w.taking q) + flag (has w.both q)) * men
  at_target q h =
      rw e
      (count_cong 12 (λ n. holds_in w (q * 12 + n)) (at w q) (λ n l. place_is w q n l ∙ ap (λ (k : ℕ). nth w k n) (small h) ∙ holds_by w q n l)
      ∙ counted _ _ _ _ (bit_and w.men 62) (men_lt w.men) (men_none w.men))
    where
      small : q < 64 → q % 64 ≡ q
      small h = omega arith

  up_to : (r : ℕ) → r ≤ 64 → count_to (r * 12) (holds_in w) ≡ count_to r (has w.plain) + count_to r (has w.marked) + (count_to r (has w.taking) + count_to r (has w.both)) * men
  unfolding count_to
  up_to zero h = omega arith
  up_to (suc r) h = ap (λ (k : ℕ). count_to k (holds_in w)) (one_more r) ∙ count_more (r * 12) 12 (holds_in w) ∙ omega (arith, up_to r (omega arith), at_target r h)
    where
      one_more : (r : ℕ) → suc r * 12 ≡ r * 12 + 12
      one_more r = omega arith

  pub size_is : size w.plain + size w.marked + (size w.taking + size w.both) * men ≡ count_to 768 (holds_in w)
  size_is = sym (up_to 64 (le_refl 64))

-- the sizes are small, and so is what is made of them
pub size_le : (s : ℕ) {x : ℕ} → x ≡ size s → x ≤ 64
size_le s e = rw e (count_le 64 (has s))

pub product_le : {x y z : ℕ} → x ≤ 64 → y ≤ 64 → z ≤ 64 → (x + y) * z ≤ 128 * 64
product_le {x} {y} p q r = let s : x + y ≤ 128 = omega arith in mul-le-mul s r
