-- Sets with one member: what `count(s) == 1` says.
use mathlib.Core.Path.{◌≡◌, refl, sym, ap, ap₂, ◌∙◌}
use mathlib.Core.Bool.{Bool, true, false, not, true≢false}
use Prim.Native.Nat.{ℕ, suc, ◌^◌, ◌<◌}
use native.Mathlib.Omega.{arith}
use lib.Dec.{eqb}
use borrow.Author.Tests.{eqb-true, eq-eqb}
use Rattle.squares.specs.Tests.{◌and◌, ◌or◌}
use Rattle.squares.specs.Squares.{has, set_of, every_square, size, besides}
use Rattle.squares.proofs.Testing.{both, left, right, bool_ext}
use Rattle.squares.proofs.Comprehension.{has_set_of, member_below}
use Rattle.squares.proofs.Every.{all_at, all_of}
use Rattle.squares.proofs.Counting.{count_none, count_empty}
use Rattle.squares.proofs.LeastMember.{without_count}

-- the one member
pub one_member : (s j k : ℕ) → s < 2 ^ 64 → size s ≡ 1 → has s j ≡ true → has s k ≡ true → j ≡ k
unfolding ◌and◌
one_member s j k fits one hj hk = go (eqb j k) refl
  where
    none : size (set_of (besides s k)) ≡ 0
    none = omega (arith, without_count 64 s k fits hk)

    out : besides s k j ≡ false
    out = sym (has_set_of (besides s k) j (member_below j fits hj)) ∙ count_none 64 (has (set_of (besides s k))) none j (member_below j fits hj)

    go : (t : Bool) → eqb j k ≡ t → j ≡ k
    go true e = eqb-true j k e
    go false e = absurd (true≢false (sym (ap₂ (λ (a b : Bool). a and not b) hj e) ∙ out))

pub one_at : (s q : ℕ) → s < 2 ^ 64 → size s ≡ 1 → has s q ≡ true → (a : ℕ) → has s a ≡ eqb a q
one_at s q fits one hq a =
    bool_ext (has s a) (eqb a q) (λ h. eq-eqb a q (one_member s a q fits one h hq)) (λ e. ap (has s) (eqb-true a q e) ∙ hq)

-- a member and no other
abbrev pub others : ℕ → ℕ → ℕ → Bool
others s k j = not (has s j) or eqb j k

single : (s k : ℕ) → s < 2 ^ 64 → has s k ≡ true → every_square (others s k) ≡ true → size s ≡ 1
unfolding ◌and◌ ◌or◌
single s k fits hk all = without_count 64 s k fits hk ∙ ap suc (count_empty 64 (has (set_of (besides s k))) gone)
  where
    out : (t u : Bool) → (not t or u) ≡ true → (t and not u) ≡ false
    out true true e = refl
    out true false e = sym e
    out false u e = refl

    gone : (j : ℕ) → j < 64 → has (set_of (besides s k)) j ≡ false
    gone j l = has_set_of (besides s k) j l ∙ out (has s j) (eqb j k) (all_at 64 (others s k) all j l)

pub only_member : (s k : ℕ) → s < 2 ^ 64 → (has s k and every_square (others s k)) ≡ (eqb (size s) 1 and has s k)
unfolding ◌or◌
only_member s k fits = bool_ext (has s k and every_square (others s k)) (eqb (size s) 1 and has s k) to from
  where
    to : (has s k and every_square (others s k)) ≡ true → (eqb (size s) 1 and has s k) ≡ true
    to e = both (eq-eqb (size s) 1 (single s k fits (left _ _ e) (right _ _ e))) (left _ _ e)

    from : (eqb (size s) 1 and has s k) ≡ true → (has s k and every_square (others s k)) ≡ true
    from e = both (right _ _ e) (all_of 64 (others s k) (λ j l. go j (has s j) refl))
      where
        go : (j : ℕ) (t : Bool) → has s j ≡ t → (not (has s j) or eqb j k) ≡ true
        go j true p = ap₂ (λ (x y : Bool). not x or y) p (eq-eqb j k (one_member s j k fits (eqb-true (size s) 1 (left _ _ e)) p (right _ _ e)))
        go j false p = ap (λ (x : Bool). not x or eqb j k) p
