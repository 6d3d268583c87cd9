-- A loop that collects, `if p(t) { r = r | bit(t); }`, with t counting up: what it has so far is the comprehension up to t.
use mathlib.Core.Path.{◌≡◌, refl, sym, ap, ap₂, ◌∙◌, subst}
use mathlib.Core.Bool.{Bool, true, false}
use Prim.Native.Nat.{ℕ, ◌+◌, ◌*◌, ◌^◌, ◌<◌, ◌≤◌, zero-le}
use native.Mathlib.Nat.{zero-add, one-mul, zero-mul}
use native.Mathlib.Omega.{arith}
use native.Mathlib.Numerals.{add-one}
use lib.Bits.{bit_or, or_shifted_r}
use Rattle.squares.specs.Squares.{flag, up_to, set_of, only}
use Rattle.squares.proofs.Comprehension.{up_to_lt, only_is}

-- the invariant
abbrev pub Collected : (ℕ → Bool) → ℕ → ℕ → Type 0
Collected p r t = (t ≤ 64) × (r ≡ up_to t p)

pub collect_none : (p : ℕ → Bool) → Collected p 0 0
unfolding up_to
collect_none p = (zero-le, refl)

-- a turn: x is the test's value, b what `bit(t)` gives, and r' what is collected after it
module _ (p : ℕ → Bool) (r t : ℕ) (h : t < 64) (so_far : Collected p r t) (x : Bool) (said : x ≡ p t) where
  pub collect_yes : (b : ℕ) → b ≡ only t → x ≡ true → (r' : ℕ) → r' ≡ bit_or r b → Collected p r' (t + 1)
  unfolding up_to
  collect_yes b e y r' q = (
    omega arith,
    q ∙ ap (bit_or r) (e ∙ only_is h ∙ sym (one-mul (2 ^ t))) ∙ or_shifted_r 1 t r (subst (λ (z : ℕ). z < 2 ^ t) (sym so_far.1) (up_to_lt t p))
        ∙ ap₂ (λ (f : Bool) (z : ℕ). flag f * 2 ^ t + z) (sym y ∙ said) so_far.1
        ∙ ap (λ (n : ℕ). up_to n p) (sym (add-one t)),
  )

  pub collect_no : x ≡ false → (r' : ℕ) → r' ≡ r → Collected p r' (t + 1)
  unfolding up_to
  collect_no n r' q = (
    omega arith,
    q ∙ so_far.1 ∙ sym (zero-add (up_to t p)) ∙ ap (λ (z : ℕ). z + up_to t p) (sym (zero-mul (2 ^ t)))
        ∙ ap (λ (f : Bool). flag f * 2 ^ t + up_to t p) (sym n ∙ said) ∙ ap (λ (m : ℕ). up_to m p) (sym (add-one t)),
  )

pub collect_done : (p : ℕ → Bool) (r t : ℕ) → Collected p r t → 64 ≤ t → r ≡ set_of p
collect_done p r t c l = let e : t ≡ 64 = omega arith in c.1 ∙ ap (λ (n : ℕ). up_to n p) e
