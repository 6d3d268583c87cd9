-- Bytes put into a buffer: what is answered, and what the buffer then holds.
use mathlib.Core.Path.{◌≡◌, refl, sym, ◌∙◌, ap, subst}
use mathlib.Core.Bool.{Bool, true, false, cond}
use mathlib.Core.List.{List, ◌++◌}
use Prim.Native.Nat.{ℕ, ◌^◌, ◌+◌, ◌-◌, ◌≤◌, ◌<◌, min}
use native.Mathlib.Nat.{le_refl, le_antisymm, pow-le-pow_right}
use native.Mathlib.Omega.{arith}
use lib.Dec.{leb}
use lib.ListN.{length, take}
use lib.Seq.{paste, take-paste, take-length, length-paste}
use borrow.Author.Tests.{le-leb, leb-true, leb-false}
use Rattle.io.specs.Digits.{last_digits, IsDigitCount}
use Rattle.output.specs.Appending.{put_says, put_of, used_of, added_out, Puts, PutsDecimal, Adds}
use Rattle.std.specs.Prelude.{Ok, Err, Result}

-- bytes that have room behind the first `len` are put, others are not
module _ (o b : List ℕ) (len : ℕ) where
  pub puts : leb (len + length b) (length o) ≡ true → (x : List ℕ) → x ≡ paste o len b (length b) → Puts o len b (Ok (len + length b)) x
  puts k x e = record { says = rw k; holds = e ∙ rw k }

  pub puts_none : leb (len + length b) (length o) ≡ false → (n : ℕ) → n ≡ min (length b) 18446744073709551615 → Puts o len b (Err n) o
  puts_none k n e = record { says = rw (k, e); holds = rw k }

  pub adds : len + length b ≤ length o → (x : List ℕ) → x ≡ paste o len b (length b) → Adds o len b (len + length b) x
  adds h x e = let k = le-leb (len + length b) (length o) h in record { used = rw k; holds = e ∙ rw k }

-- how many bytes are then in use
module _ (o b after : List ℕ) (len : ℕ) (r : Result ℕ ℕ) (p : Puts o len b r after) where
  pub used_adds : (u : ℕ) → u ≡ used_of r len → Adds o len b u after
  used_adds u e = record { used = e ∙ by r (leb (len + length b) (length o)) _ _ p.says; holds = p.holds }
    where
      by : (r : Result ℕ ℕ) (t : Bool) (m k : ℕ) → put_says r ≡ cond t (0, m) (13, k) → used_of r len ≡ cond t m len
      by (Ok n) true m k e = ap (λ (x : ℕ × ℕ). x.1) e
      by (Err n) false m k e = refl
      by (Ok n) false m k e = absurd (omega (arith, ap (λ (x : ℕ × ℕ). x.0) e))
      by (Err n) true m k e = absurd (omega (arith, ap (λ (x : ℕ × ℕ). x.0) e))

-- bytes that were added with room
module _ (o b after : List ℕ) (len r : ℕ) (a : Adds o len b r after) (h : len + length b ≤ length o) where
  room : leb (len + length b) (length o) ≡ true
  room = le-leb (len + length b) (length o) h

  pub added_len_lem : r ≡ len + length b
  added_len_lem = a.used ∙ rw room

  pub added_out_lem : after ≡ paste o len b (length b)
  added_out_lem = a.holds ∙ rw room

  pub added_bytes : take r after ≡ take len o ++ b
  added_bytes =
      rw (added_len_lem, added_out_lem) (take-paste o len b (length b) (omega arith) (le_refl (length b)) ∙ ap (λ (x : List ℕ). take len o ++ x) (take-length b))

  pub added_length : length after ≡ length o
  added_length = ap length added_out_lem ∙ length-paste o len b (length b) h (le_refl (length b))

  pub added_puts : Puts o len b (Ok r) after
  added_puts =
      subst (λ (n : ℕ). Puts o len b (Ok n) after) (sym added_len_lem) (puts o b len room after added_out_lem)

-- a number has one fewest count of digits, so that its decimal digits are put in one way
pub fewest_one : (b x i j : ℕ) → 1 < b → IsDigitCount b 1 x i → IsDigitCount b 1 x j → i ≡ j
fewest_one b x i j h p q = le_antisymm (below p q) (below q p)
  where
    below : {m n : ℕ} → IsDigitCount b 1 x m → IsDigitCount b 1 x n → m ≤ n
    below {m} {n} p q = by (leb m n) refl
      where
        by : (t : Bool) → leb m n ≡ t → m ≤ n
        by true e = leb-true m n e
        by false e =
            let l = leb-false m n e in
            let u : b ^ (m - 1) ≤ x = p.2 (omega arith) in
            let w : b ^ n ≤ b ^ (m - 1) = pow-le-pow_right (omega arith) (omega arith) in
            absurd (omega (arith, q.1))

-- two answers that say the same are one
pub said_one : (r s : Result ℕ ℕ) → put_says r ≡ put_says s → r ≡ s
said_one (Ok n) (Ok m) e = ap Ok (ap (λ (x : ℕ × ℕ). x.1) e)
said_one (Err n) (Err m) e = ap Err (ap (λ (x : ℕ × ℕ). x.1) e)
said_one (Ok n) (Err m) e = absurd (omega (arith, ap (λ (x : ℕ × ℕ). x.0) e))
said_one (Err n) (Ok m) e = absurd (omega (arith, ap (λ (x : ℕ × ℕ). x.0) e))

-- bytes are put in one way
pub put_one : (o : List ℕ) (len : ℕ) (b d : List ℕ) (r s : Result ℕ ℕ) (x y : List ℕ) → b ≡ d → Puts o len b r x → Puts o len d s y → (r ≡ s) × (x ≡ y)
put_one o len b d r s x y e p q =
    (said_one r s (p.says ∙ ap (put_of o len) e ∙ sym q.says), p.holds ∙ ap (added_out o len) e ∙ sym q.holds)

pub decimal_one : (o : List ℕ) (len x : ℕ) (r s : Result ℕ ℕ) (a b : List ℕ) → PutsDecimal o len x r a → PutsDecimal o len x s b → (r ≡ s) × (a ≡ b)
decimal_one o len x r s a b p q =
    put_one o len (last_digits 10 p.places x) (last_digits 10 q.places x) r s a b
    (ap (λ (k : ℕ). last_digits 10 k x) (fewest_one 10 x p.places q.places (omega arith) p.fewest q.fewest)) p.puts q.puts
