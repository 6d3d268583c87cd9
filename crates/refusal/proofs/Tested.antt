-- Tests behind tests, and what stands beside the number of the first that fails.
use mathlib.Core.Path.{◌≡◌, refl, sym, ap, ◌∙◌}
use mathlib.Core.Bool.{Bool, true, false, cond}
use mathlib.Core.List.{List, [], ◌∷◌, ◌++◌}
use Prim.Native.Nat.{ℕ}
use native.Mathlib.Omega.{arith}
use lib.Dec.{eqb}
use borrow.Author.Tests.{eqb-true, eq-eqb}
use Rattle.refusal.specs.declared.Refusal.{Refusal}
use Rattle.refusal.specs.Refusals.{number_of}
use Rattle.refusal.specs.Said.{Test, ◌else◌, first_failing, Said, says, number_said, behind}
use Rattle.refusal.proofs.Saying.{some_number, more_tests}

module _ (ts : List Test) where
  -- what stands beside the number: x beside 0, else y
  pub beside_none : {A : Type 0} (x y : A) → first_failing ts ≡ 0 → x ≡ cond (eqb (first_failing ts) 0) x y
  beside_none x y h = rw h

  pub beside_refused : {A : Type 0} (x y : A) (r : Refusal) → number_of r ≡ first_failing ts → y ≡ cond (eqb (first_failing ts) 0) x y
  beside_refused x y r h = rw (← h, some_number r)

  -- what stands behind tests counts only where they all pass
  pub behind_any : (x y : Said) → (first_failing ts ≡ 0 → x ≡ y) → behind ts x ≡ behind ts y
  unfolding behind
  behind_any x y f = go (eqb (first_failing ts) 0) refl
    where
      go : (t : Bool) → eqb (first_failing ts) 0 ≡ t → cond t x (says (first_failing ts) []) ≡ cond t y (says (first_failing ts) [])
      go true e = f (eqb-true (first_failing ts) 0 e)
      go false e = refl

  module _ (us : List Test) where
    -- tests behind those that all pass, and behind one that fails
    pub pass_on : first_failing ts ≡ 0 → first_failing us ≡ first_failing (ts ++ us)
    pass_on h = rw (more_tests ts us, h)

    pub stop_on : (r : Refusal) → number_of r ≡ first_failing ts → number_of r ≡ first_failing (ts ++ us)
    stop_on r h = rw (more_tests ts us, ← h, some_number r)

    -- where none fails, none of either fails
    pub none_fails : first_failing (ts ++ us) ≡ 0 → (first_failing ts ≡ 0) × (first_failing us ≡ 0)
    none_fails h = go (eqb (first_failing ts) 0) refl (sym (more_tests ts us) ∙ h)
      where
        go : (t : Bool) → eqb (first_failing ts) 0 ≡ t → cond t (first_failing us) (first_failing ts) ≡ 0 → (first_failing ts ≡ 0) × (first_failing us ≡ 0)
        go true e k = (eqb-true (first_failing ts) 0 e, k)
        go false e k = absurd (omega (arith, ap (λ (b : Bool). cond {A = ℕ} b 1 0) (sym (eq-eqb (first_failing ts) 0 k) ∙ e)))

    pub behind_more : (x : Said) → behind (ts ++ us) x ≡ behind ts (behind us x)
    unfolding behind
    behind_more x = ap (λ (n : ℕ). cond (eqb n 0) x (says n [])) (more_tests ts us) ∙ go (eqb (first_failing ts) 0) refl
      where
        go : (t : Bool) → eqb (first_failing ts) 0 ≡ t
            → cond (eqb (cond t (first_failing us) (first_failing ts)) 0) x (says (cond t (first_failing us) (first_failing ts)) [])
            ≡ cond t (cond (eqb (first_failing us) 0) x (says (first_failing us) [])) (says (first_failing ts) [])
        go true e = refl
        go false e = rw e

-- the number of what is said behind tests
pub number_behind : (ts us : List Test) → first_failing (ts ++ us) ≡ number_said (behind ts (says (first_failing us) []))
unfolding behind
number_behind ts us = more_tests ts us ∙ go (eqb (first_failing ts) 0)
  where
    go : (t : Bool) → cond t (first_failing us) (first_failing ts) ≡ number_said (cond t (says (first_failing us) []) (says (first_failing ts) []))
    go true = refl
    go false = refl

-- a last test
pub last_passes : (t : Bool) (r : Refusal) → first_failing ((t else r) ∷ []) ≡ 0 → t ≡ true
unfolding first_failing
last_passes true r h = refl
last_passes false r h = sym (some_number r) ∙ eq-eqb (number_of r) 0 h
