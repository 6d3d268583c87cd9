-- A slice that is filled from the front.
use mathlib.Core.Path.{◌≡◌, refl, sym, ◌∙◌, ap, ap₂}
use mathlib.Core.List.{List, [], ◌++◌, append_assoc}
use Prim.Native.Nat.{ℕ, zero, suc, ◌+◌, ◌*◌, ◌≤◌}
use native.Mathlib.Omega.{arith}
use native.Mathlib.Numerals.{add-one}
use lib.ListN.{length, take, drop, length-append, length-drop, take-append-drop}
use lib.Seq.{take_at, drop-append-add, drop-drop, length-take-le, paste}
use Rattle.men_field.specs.declared.Line.{Line}
use Rattle.men_field.specs.inner.Lines.{Holds}
use Rattle.volume_make.specs.inner.Filling.{joined}

-- the slice x, which held o, now begins with p
pub record Filled (o p x : List ℕ) : Type 0 where
  pub holds : x ≡ p ++ drop (length p) o
  pub inside : length p ≤ length o

pub filled_length : {o p x : List ℕ} → Filled o p x → length x ≡ length o
filled_length {o} {p} {x} f = ap length f.holds ∙ length-append p (drop (length p) o) ∙ omega (arith, length-drop (length p) o, f.inside)

-- more is put behind it
pub filled_more : {o p x y : List ℕ} (s : List ℕ) (at n : ℕ) → Filled o p x → at ≡ length p → length s ≡ n → at + n ≤ length o
    → y ≡ take at x ++ s ++ drop (at + n) x → Filled o (p ++ s) y
filled_more {o} {p} {x} {y} s at n f e l h q =
    record {
      holds =
          q ∙ ap₂ (λ (a b : List ℕ). a ++ s ++ b)
          (ap (take at) f.holds ∙ take_at p (drop (length p) o) at (sym e))
          (ap (drop (at + n)) f.holds ∙ ap (λ (k : ℕ). drop k (p ++ drop (length p) o)) z ∙ drop-append-add p (drop (length p) o) n ∙ drop-drop n (length p) o ∙ ap (λ (k : ℕ). drop k o) w);
      inside = omega (arith, length-append p s);
    }
  where
    z : at + n ≡ length p + n
    z = omega arith

    w : length p + n ≡ length (p ++ s)
    w = omega (arith, length-append p s)

-- a line is put behind it
pub filled_line : {o p x y s : List ℕ} (l : Line) (at : ℕ) → Filled o p x → at ≡ length p → Holds l s → at + length s ≤ length o
    → y ≡ paste x at l.bytes l.len → Filled o (p ++ s) y
filled_line {o} {p} {x} {y} {s} l at f e k h q =
    filled_more s at l.len f e (sym k.len) (omega (arith, k.len)) (q ∙ ap (λ (z : List ℕ). take at x ++ z ++ drop (at + l.len) x) k.text)

pub filled_none : (o : List ℕ) → Filled o [] o
filled_none o = record { holds = refl; inside = omega arith }

pub filled_front : (o : List ℕ) (n : ℕ) → n ≤ length o → Filled o (take n o) o
filled_front o n h =
    record {
      holds = sym (take-append-drop n o) ∙ ap (λ (k : ℕ). take n o ++ drop k o) (sym (length-take-le n o h));
      inside = omega (arith, length-take-le n o h);
    }

-- parts of w bytes each
module _ (f : ℕ → List ℕ) (w : ℕ) (same : (i : ℕ) → length (f i) ≡ w) where
  pub joined_length : (n : ℕ) → length (joined f n) ≡ w * n
  unfolding joined
  joined_length zero = omega arith
  joined_length (suc n) = omega (arith, joined_length n, length-append (joined f n) (f n), same n)

pub joined_more : (f : ℕ → List ℕ) (p : List ℕ) (i : ℕ) → (p ++ joined f i) ++ f i ≡ p ++ joined f (i + 1)
unfolding joined
joined_more f p i = append_assoc p (joined f i) (f i) ∙ ap (λ (k : ℕ). p ++ joined f k) (sym (add-one i))
