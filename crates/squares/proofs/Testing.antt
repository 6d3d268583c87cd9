-- Laws of tests.
use mathlib.Core.Path.{◌≡◌, refl, sym, ap, ◌∙◌}
use mathlib.Core.Logic.{◌⊎◌, inl, inr}
use mathlib.Core.Bool.{Bool, true, false, not, false≢true}
use Prim.Native.Nat.{ℕ, ◌≤◌, ◌<◌}
use lib.Dec.{ltb}
use borrow.Author.Tests.{ltb-true, ltb-false}
use Rattle.squares.specs.Tests.{◌and◌, ◌or◌}

pub both : {a b : Bool} → a ≡ true → b ≡ true → (a and b) ≡ true
unfolding ◌and◌
both {a = true} {b} p q = q
both {a = false} {b} p q = p

pub left : (a b : Bool) → (a and b) ≡ true → a ≡ true
unfolding ◌and◌
left true b p = refl
left false b p = p

pub right : (a b : Bool) → (a and b) ≡ true → b ≡ true
unfolding ◌and◌
right true b p = p
right false true p = refl
right false false p = p

pub either : (a b : Bool) → (a or b) ≡ true → (a ≡ true) ⊎ (b ≡ true)
unfolding ◌or◌
either true b p = inl refl
either false b p = inr p

pub or_left : {a : Bool} (b : Bool) → a ≡ true → (a or b) ≡ true
unfolding ◌or◌
or_left {a = true} b p = refl
or_left {a = false} b p = absurd (false≢true p)

pub or_right : (a : Bool) {b : Bool} → b ≡ true → (a or b) ≡ true
unfolding ◌or◌
or_right true p = refl
or_right false p = p

pub and_true : (a : Bool) → (a and true) ≡ a
unfolding ◌and◌
and_true true = refl
and_true false = refl

pub and_false : (a : Bool) → (a and false) ≡ false
unfolding ◌and◌
and_false true = refl
and_false false = refl

pub and_swap : (a b : Bool) → (a and b) ≡ (b and a)
unfolding ◌and◌
and_swap true true = refl
and_swap true false = refl
and_swap false true = refl
and_swap false false = refl

pub and_group : (a b c : Bool) → ((a and b) and c) ≡ (a and (b and c))
unfolding ◌and◌
and_group true b c = refl
and_group false b c = refl

pub or_and : (a b c : Bool) → ((a and c) or (b and c)) ≡ ((a or b) and c)
unfolding ◌and◌ ◌or◌
or_and true b true = refl
or_and true true false = refl
or_and true false false = refl
or_and false b c = refl

pub or_false : (a : Bool) → (a or false) ≡ a
unfolding ◌or◌
or_false true = refl
or_false false = refl

-- a test that is known to pass, before another and behind it
pub known : {a : Bool} (b : Bool) → a ≡ true → (a and b) ≡ b
unfolding ◌and◌
known b e = ap (λ (t : Bool). t and b) e

pub and_yes : (a : Bool) {b : Bool} → b ≡ true → (a and b) ≡ a
and_yes a e = ap (λ (t : Bool). a and t) e ∙ and_true a

-- what is tested where another test passes
pub implied : (p : Bool) {q : Bool} → (not p or q) ≡ true → p ≡ true → q ≡ true
unfolding ◌or◌
implied p {q} e h = ap (λ (t : Bool). not t or q) (sym h) ∙ e

-- a test that fails
pub fails : (b : Bool) → (b ≡ true → ⊥) → not b ≡ true
fails true f = absurd (f refl)
fails false f = refl

pub failed : (b : Bool) → not b ≡ true → b ≡ true → ⊥
failed true p q = false≢true p
failed false p q = false≢true q

pub denied : (b : Bool) → not b ≡ true → b ≡ false
denied true e = sym e
denied false e = refl

pub granted : (b : Bool) → not b ≡ false → b ≡ true
granted true e = refl
granted false e = sym e

-- a test passes, or not
pub cases : (b : Bool) → (b ≡ true) ⊎ (b ≡ false)
cases true = inl refl
cases false = inr refl

pub order : (a b : ℕ) → (a < b) ⊎ (b ≤ a)
order a b = go (ltb a b) refl
  where
    go : (t : Bool) → ltb a b ≡ t → (a < b) ⊎ (b ≤ a)
    go true e = inl (ltb-true a b e)
    go false e = inr (ltb-false a b e)

-- what is known under a test, and what the whole test says
pub absorbs : (a b : Bool) → (a ≡ true → b ≡ true) → (a and b) ≡ a
unfolding ◌and◌
absorbs true b f = f refl
absorbs false b f = refl

-- two tests that pass together are equal
pub bool_ext : (a b : Bool) → (a ≡ true → b ≡ true) → (b ≡ true → a ≡ true) → a ≡ b
bool_ext true b f g = sym (f refl)
bool_ext false true f g = g refl
bool_ext false false f g = refl

-- two tests agree, as a test
abbrev pub agree : Bool → Bool → Bool
agree true b = b
agree false b = not b

pub agree_eq : (a b : Bool) → agree a b ≡ true → a ≡ b
agree_eq true b e = sym e
agree_eq false true e = e
agree_eq false false e = refl
