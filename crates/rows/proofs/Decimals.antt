-- A number in decimal, and the head.
use mathlib.Core.Path.{◌≡◌, refl, sym, ◌∙◌, ap, subst}
use mathlib.Core.Bool.{Bool, true, false, cond}
use mathlib.Core.List.{List, [], ◌∷◌, ◌++◌}
use Prim.Native.Nat.{ℕ, zero, suc, ◌^◌, ◌+◌, ◌-◌, ◌/◌, ◌%◌, ◌≤◌, ◌<◌}
use native.Mathlib.Nat.{pow-suc, mod-eq_of_lt}
use native.Mathlib.Omega.{arith}
use lib.Dec.{ltb}
use lib.ListN.{length, take, length-append}
use lib.Seq.{length-take-le}
use borrow.Author.Tests.{ltb-true, ltb-false}
use Rattle.io.specs.Digits.{hex_digit_ascii, last_digits, IsDigitCount}
use Rattle.io.specs.Counts.{IsPrefixLen}
use Rattle.output.specs.Appending.{used_of, Puts, PutsDecimal, Adds}
use Rattle.output.proofs.Added.{used_adds, added_len_lem, added_bytes, added_length, fewest_one}
use Rattle.rows.specs.Rows.{decimal_in, decimal_of, listed_word, strict_word, head_of}
use Rattle.output.proofs.Adding.{adds_then}
use Rattle.std.specs.Prelude.{Result}

-- a number of two digits or more, without its last
fewer : (x k : ℕ) → 10 ≤ x → IsDigitCount 10 1 x (suc (suc k)) → IsDigitCount 10 1 (x / 10) (suc k)
fewer x k h f =
    let last : suc (suc k) - 1 ≡ suc k = omega arith in
    let one : suc k - 1 ≡ k = omega arith in
    let u : 10 ^ suc k ≤ x = subst (λ (i : ℕ). 10 ^ i ≤ x) last (f.2 (omega arith)) in
    let w : 10 ^ k ≤ x / 10 = omega (arith, pow-suc 10 k) in
    (omega arith, omega (arith, f.1, pow-suc 10 (suc k)), λ q. subst (λ (i : ℕ). 10 ^ i ≤ x / 10) (sym one) w)

digits_more : (x k : ℕ) (t : List ℕ) → 10 ≤ x → IsDigitCount 10 1 x k → ((j : ℕ) → IsDigitCount 10 1 (x / 10) j → last_digits 10 j (x / 10) ≡ t)
    → last_digits 10 k x ≡ t ++ (hex_digit_ascii (x % 10) ∷ [])
digits_more x zero t h f e = absurd (omega (arith, f.0))
digits_more x (suc zero) t h f e = absurd (omega (arith, f.1))
digits_more x (suc (suc k)) t h f e = ap (λ (s : List ℕ). s ++ (hex_digit_ascii (x % 10) ∷ [])) (e (suc k) (fewer x k h f))

-- the fewest digits of a number are its decimal
digits_are : (n x k : ℕ) → x < n → IsDigitCount 10 1 x k → last_digits 10 k x ≡ decimal_in n x
unfolding decimal_in
digits_are zero x k h f = absurd (omega arith)
digits_are (suc n) x k h f = by (ltb x 10) refl (λ l j g. digits_are n (x / 10) j (omega arith) g)
  where
    by : (t : Bool) → ltb x 10 ≡ t → (10 ≤ x → (j : ℕ) → IsDigitCount 10 1 (x / 10) j → last_digits 10 j (x / 10) ≡ decimal_in n (x / 10))
        → last_digits 10 k x ≡ cond t (hex_digit_ascii x ∷ []) (decimal_in n (x / 10) ++ (hex_digit_ascii (x % 10) ∷ []))
    by true e r =
        let l = ltb-true x 10 e in
        ap (λ (i : ℕ). last_digits 10 i x) (fewest_one 10 x k 1 (omega arith) f (omega arith, omega arith, λ q. absurd (omega arith)))
        ∙ ap (λ (d : ℕ). hex_digit_ascii d ∷ []) (mod-eq_of_lt l)
    by false e r = let l = ltb-false x 10 e in digits_more x k (decimal_in n (x / 10)) l f (r l)

-- a number below a power of ten has at most as many digits
pub few_digits : (k n x : ℕ) → x < 10 ^ suc k → length (decimal_in n x) ≤ suc k
unfolding decimal_in
few_digits k zero x h = omega arith
few_digits k (suc n) x h = by k (ltb x 10) refl h (λ j l. few_digits j n (x / 10) l)
  where
    by : (k : ℕ) (t : Bool) → ltb x 10 ≡ t → x < 10 ^ suc k → ((j : ℕ) → x / 10 < 10 ^ suc j → length (decimal_in n (x / 10)) ≤ suc j)
        → length (cond t (hex_digit_ascii x ∷ []) (decimal_in n (x / 10) ++ (hex_digit_ascii (x % 10) ∷ []))) ≤ suc k
    by k true e h r = omega arith
    by zero false e h r = absurd (omega (arith, ltb-false x 10 e))
    by (suc k) false e h r = simp length-append (omega (arith, r k (omega (arith, pow-suc 10 (suc k)))))

pub number_short : (x : ℕ) → x < 2 ^ 64 → length (decimal_of x) ≤ 20
number_short x h = few_digits 19 (suc x) x (omega arith)

module _ (o after : List ℕ) (len x : ℕ) (r : Result ℕ ℕ) (h : x < 2 ^ 64) (a : PutsDecimal o len x r after) where
  same : last_digits 10 a.places x ≡ decimal_of x
  same = digits_are (suc x) x a.places (omega arith) a.fewest

  pub decimal_added : (u : ℕ) → u ≡ used_of r len → Adds o len (decimal_of x) u after
  decimal_added u e =
      used_adds o (decimal_of x) after len r (subst (λ (t : List ℕ). Puts o len t r after) same a.puts) u e

pub head_short : (a b : ℕ) → a < 2 ^ 64 → b < 2 ^ 64 → length (head_of a b) ≤ 56
head_short a b ha hb = simp length-append (omega (arith, number_short a ha, number_short b hb))

-- the head, in a buffer of 256
module _ (o o₁ o₂ o₃ o₄ o₅ : List ℕ) (a b n₁ n₂ n₃ n₄ n : ℕ) (r s : Result ℕ ℕ) (l : length o ≡ 256) (ha : a < 2 ^ 64) (hb : b < 2 ^ 64) (p₁ : Adds o 0 listed_word n₁ o₁)
    (p₂ : PutsDecimal o₁ n₁ a r o₂) (u₂ : n₂ ≡ used_of r n₁) (p₃ : Adds o₂ n₂ strict_word n₃ o₃) (p₄ : PutsDecimal o₃ n₃ b s o₄) (u₄ : n₄ ≡ used_of s n₃)
    (p₅ : Adds o₄ n₄ (10 ∷ []) n o₅) where
  short : (length (decimal_of a) ≤ 20) × (length (decimal_of b) ≤ 20)
  short = (number_short a ha, number_short b hb)

  two : Adds o 0 (listed_word ++ decimal_of a) n₂ o₂
  two =
      adds_then o o₁ o₂ listed_word (decimal_of a) 0 n₁ n₂ (simp length-append (omega (arith, short))) p₁
      (decimal_added o₁ o₂ n₁ a r ha p₂ n₂ u₂)

  three : Adds o 0 (listed_word ++ decimal_of a ++ strict_word) n₃ o₃
  three = adds_then o o₂ o₃ (listed_word ++ decimal_of a) strict_word 0 n₂ n₃ (simp length-append (omega (arith, short))) two p₃

  four : Adds o 0 (listed_word ++ decimal_of a ++ strict_word ++ decimal_of b) n₄ o₄
  four =
      adds_then o o₃ o₄ (listed_word ++ decimal_of a ++ strict_word) (decimal_of b) 0 n₃ n₄ (simp length-append (omega (arith, short))) three
      (decimal_added o₃ o₄ n₃ b s hb p₄ n₄ u₄)

  five : Adds o 0 (head_of a b) n o₅
  five = adds_then o o₄ o₅ (listed_word ++ decimal_of a ++ strict_word ++ decimal_of b) (10 ∷ []) 0 n₄ n (omega (arith, head_short a b ha hb)) four p₅

  pub head_shown : IsPrefixLen n o₅ × (take n o₅ ≡ head_of a b)
  head_shown =
      let h : 0 + length (head_of a b) ≤ length o = omega (arith, head_short a b ha hb) in
      let w : n ≤ length o₅ = omega (arith, added_len_lem o (head_of a b) o₅ 0 n five h, added_length o (head_of a b) o₅ 0 n five h) in
      ((w, sym (length-take-le n o₅ w)), added_bytes o (head_of a b) o₅ 0 n five h)
