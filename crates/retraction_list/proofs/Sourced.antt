-- Lists whose sources are squares, by the ways that lists are made.
use mathlib.Core.Path.{◌≡◌, refl, sym, subst}
use mathlib.Core.Bool.{Bool, true, false, cond}
use mathlib.Core.List.{List, [], ◌∷◌, ◌++◌}
use Prim.Native.Nat.{ℕ, zero, suc, ◌<◌}
use native.Mathlib.Nat.{le_refl}
use native.Mathlib.Omega.{arith}
use lib.Dec.{eqb}
use borrow.Author.Tests.{lt-ltb}
use Rattle.squares.specs.Members.{list_to, members, concat}
use Rattle.squares.specs.Squares.{has}
use Rattle.retraction_list.specs.declared.UnCaptureKind.{UnCaptureKind}
use Rattle.retraction_list.specs.declared.SourceAndTargets.{SourceAndTargets}
use Rattle.retraction_list.specs.Entries.{entry_of, offered, sound}
use Rattle.squares.proofs.Testing.{both, left, right}
use Rattle.squares.proofs.Members.{concat_both}

pub sound_none : sound [] ≡ true
unfolding sound
sound_none = refl

pub sound_one : (s t : ℕ) (k : UnCaptureKind) (u : Bool) → s < 64 → sound (entry_of s t k u ∷ []) ≡ true
unfolding sound
sound_one s t k u h = both (lt-ltb s 64 h) refl

pub sound_if : (b : Bool) (xs ys : List SourceAndTargets) → sound xs ≡ true → sound ys ≡ true → sound (cond b xs ys) ≡ true
sound_if true xs ys p q = p
sound_if false xs ys p q = q

pub sound_offered : (s t : ℕ) (k : UnCaptureKind) (u : Bool) → s < 64 → sound (offered s t k u) ≡ true
unfolding offered
sound_offered s t k u h = sound_if (eqb t 0) _ _ sound_none (sound_one s t k u h)

pub sound_both : (xs ys : List SourceAndTargets) → sound xs ≡ true → sound ys ≡ true → sound (xs ++ ys) ≡ true
unfolding sound
sound_both [] ys p q = q
sound_both (x ∷ xs) ys p q = both (left _ _ p) (sound_both xs ys (right _ _ p) q)

sound_up_to : (n : ℕ) (p : ℕ → Bool) (f : ℕ → List SourceAndTargets) → ((k : ℕ) → k < n → sound (f k) ≡ true) → sound (concat f (list_to n p)) ≡ true
unfolding list_to concat
sound_up_to zero p f h = sound_none
sound_up_to (suc n) p f h =
    subst (λ (l : List SourceAndTargets). sound l ≡ true) (sym (concat_both f (list_to n p) (cond (p n) (n ∷ []) [])))
    (sound_both _ _ (sound_up_to n p f (λ k l. h k (omega arith))) (last (p n)))
  where
    last : (t : Bool) → sound (concat f (cond t (n ∷ []) [])) ≡ true
    last true = sound_both _ _ (h n (le_refl (suc n))) sound_none
    last false = sound_none

-- a loop over the members of a set
pub sound_each : (f : ℕ → List SourceAndTargets) (s : ℕ) → ((k : ℕ) → k < 64 → sound (f k) ≡ true) → sound (concat f (members s)) ≡ true
unfolding members
sound_each f s h = sound_up_to 64 (has s) f h
