-- A loop that unites a set for each member of another: `for a in each(s) { r = r | f(a); }`.
use mathlib.Core.Path.{◌≡◌, refl, sym, ap, ◌∙◌}
use mathlib.Core.Bool.{Bool, true, false}
use mathlib.Core.List.{[], ◌∷◌}
use Prim.Native.Nat.{ℕ, ◌<◌, ◌^◌}
use lib.Bits.{bit_or, or_lt}
use lib.Pow.{pow_pos}
use Rattle.squares.specs.Tests.{◌or◌}
use Rattle.squares.specs.Squares.{united, has, set_of}
use Rattle.squares.specs.Members.{members}
use Rattle.squares.proofs.Testing.{or_false}
use Rattle.squares.proofs.Digits.{has_or, has_zero}
use Rattle.squares.proofs.Comprehension.{is_up_to, up_to_lt, has_set_of}
use Rattle.squares.proofs.Turns.{any_list, any_member}

-- the member that a turn takes, counted apart from the rest
apart : (f : ℕ → ℕ → Bool) (s t k : ℕ) {a : ℕ} → members s ≡ a ∷ members t → united f s k ≡ (f a k or united f t k)
unfolding united
apart f s t k {a} e =
    sym (any_member (λ j. f j k) s) ∙ ap (any_list (λ j. f j k)) e ∙ ap (λ (u : Bool). f a k or u) (any_member (λ j. f j k) t)

none_left : (f : ℕ → ℕ → Bool) (s k : ℕ) → members s ≡ [] → united f s k ≡ false
unfolding united
none_left f s k e = sym (any_member (λ j. f j k) s) ∙ ap (any_list (λ j. f j k)) e

-- the invariant: what is collected and what is left make the whole
pub record Uniting (f : ℕ → ℕ → Bool) (s left r : ℕ) : Type 0 where
  pub r_fits : r < 2 ^ 64
  pub whole : (k : ℕ) → k < 64 → (has r k or united f left k) ≡ united f s k

pub unite_starts : {f : ℕ → ℕ → Bool} {s left : ℕ} → left ≡ s → Uniting f s left 0
unfolding ◌or◌
unite_starts {f} {s} {left} e = record {
  r_fits = pow_pos 64;
  whole = λ k l. ap (λ (t : Bool). t or united f left k) (has_zero k) ∙ ap (λ (x : ℕ). united f x k) e;
}

or_group : (a b c : Bool) → ((a or b) or c) ≡ (a or (b or c))
unfolding ◌or◌
or_group true b c = refl
or_group false b c = refl

-- a turn takes a, and x is its set
pub unite_on : {f : ℕ → ℕ → Bool} {s left r a x next : ℕ} → Uniting f s left r → members left ≡ a ∷ members next → x ≡ set_of (f a) → Uniting f s next (bit_or r x)
unite_on {f} {s} {left} {r} {a} {x} {next} u e ex = record {
  r_fits = rw ex (or_lt 64 r (set_of (f a)) u.r_fits (up_to_lt 64 (f a)));
  whole = λ k l.
      rw ex
      (ap (λ (t : Bool). t or united f next k) (has_or r (set_of (f a)) k ∙ ap (λ (t : Bool). has r k or t) (has_set_of (f a) k l))
      ∙ or_group (has r k) (f a k) (united f next k)
      ∙ ap (λ (t : Bool). has r k or t) (sym (apart f left next k e))
      ∙ u.whole k l);
}

pub unite_done : {f : ℕ → ℕ → Bool} {s left r : ℕ} → Uniting f s left r → members left ≡ [] → r ≡ set_of (united f s)
unite_done {f} {s} {left} {r} u e =
    is_up_to 64 r (united f s) u.r_fits (λ k l. sym (or_false (has r k)) ∙ ap (λ (t : Bool). has r k or t) (sym (none_left f left k e)) ∙ u.whole k l)
