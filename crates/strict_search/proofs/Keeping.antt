-- The sets of one source put into the list of all.
use mathlib.Core.Path.{◌≡◌, refl, sym, ap, ◌∙◌}
use mathlib.Core.Logic.{◌⊎◌, inl, inr}
use mathlib.Core.List.{List, [], ◌∷◌}
use Prim.Native.Nat.{ℕ, zero, suc, ◌+◌, ◌*◌, ◌≤◌, ◌<◌}
use native.Mathlib.Nat.{add-zero, not-suc-le-zero, le_of_suc-le-suc}
use native.Mathlib.Numerals.{add-one, add-two, add-three, add-four}
use native.Mathlib.Omega.{arith}
use lib.ListN.{length, get_or, set, length-set}
use lib.Seq.{sets, length-sets, get_or-set_same, get_or-set_other}
use Rattle.strict_sets.specs.declared.Targets.{Targets}
use Rattle.strict_search.specs.inner.Keeping.{Keeps}
use Rattle.squares.proofs.Testing.{order}

-- a run of stores, beside it and in it
stored_apart : (vs l : List ℕ) (i j : ℕ) → (j < i) ⊎ (i + length vs ≤ j) → get_or (sets l i vs) j 0 ≡ get_or l j 0
stored_apart [] l i j h = refl
stored_apart (a ∷ vs) l i j h = stored_apart vs (set l i a) (suc i) j (more h) ∙ get_or-set_other l i j a 0 (off h)
  where
    more : (j < i) ⊎ (i + suc (length vs) ≤ j) → (j < suc i) ⊎ (suc i + length vs ≤ j)
    more (inl q) = inl (omega arith)
    more (inr q) = inr (omega arith)

    off : (j < i) ⊎ (i + suc (length vs) ≤ j) → j ≡ i → ⊥
    off (inl q) e = omega arith
    off (inr q) e = omega arith

stored_at : (vs l : List ℕ) (i n : ℕ) → n < length vs → i + length vs ≤ length l → get_or (sets l i vs) (i + n) 0 ≡ get_or vs n 0
stored_at [] l i n h m = absurd (not-suc-le-zero h)
stored_at (a ∷ vs) l i zero h m =
    ap (λ (k : ℕ). get_or (sets (set l i a) (suc i) vs) k 0) (add-zero i) ∙ stored_apart vs (set l i a) (suc i) i (inl (omega arith)) ∙ get_or-set_same l i a 0 (omega arith)
stored_at (a ∷ vs) l i (suc n) h m =
    ap (λ (k : ℕ). get_or (sets (set l i a) (suc i) vs) k 0) (omega arith) ∙ stored_at vs (set l i a) (suc i) n (le_of_suc-le-suc h) (rw length-set (omega arith))

module _ (l : List ℕ) (s : ℕ) (w : Targets) (h : s < 64) (n : length l ≡ 320) where
  five : List ℕ
  five = w.plain ∷ w.taking ∷ w.marked ∷ w.both ∷ w.men ∷ []

  here : (k : ℕ) → k < 5 → get_or (sets l (s * 5) five) (s * 5 + k) 0 ≡ get_or five k 0
  unfolding five
  here k m = stored_at five l (s * 5) k m (omega arith)

  other : (r : ℕ) → (r ≡ s → ⊥) → (k : ℕ) → k < 5 → get_or (sets l (s * 5) five) (r * 5 + k) 0 ≡ get_or l (r * 5 + k) 0
  unfolding five
  other r d k m = stored_apart five l (s * 5) (r * 5 + k) (go (order r s))
    where
      go : (r < s) ⊎ (s ≤ r) → (r * 5 + k < s * 5) ⊎ (s * 5 + 5 ≤ r * 5 + k)
      go (inl q) = inl (omega arith)
      go (inr q) = inr (let p : s < r = omega arith in omega arith)

  first : (r : ℕ) → get_or (sets l (s * 5) five) (r * 5) 0 ≡ get_or (sets l (s * 5) five) (r * 5 + 0) 0
  first r = ap (λ (k : ℕ). get_or (sets l (s * 5) five) k 0) (sym (add-zero (r * 5)))

  stored : Keeps l s w (sets l (s * 5) five)
  unfolding five
  stored = record {
    long = length-sets l (s * 5) five;
    here = rw (first s ∙ here 0 (omega arith), here 1 (omega arith), here 2 (omega arith), here 3 (omega arith), here 4 (omega arith));
    others = λ r d.
        rw (first r ∙ other r d 0 (omega arith) ∙ ap (λ (k : ℕ). get_or l k 0) (add-zero (r * 5)), other r d 1 (omega arith), other r d 2 (omega arith), other r d 3 (omega arith), other r d 4 (omega arith));
  }

  -- as the code stores them
  pub keeps : Keeps l s w (set (set (set (set (set l (s * 5) w.plain) (s * 5 + 1) w.taking) (s * 5 + 2) w.marked) (s * 5 + 3) w.both) (s * 5 + 4) w.men)
  unfolding five
  keeps = rw (add-one (s * 5), add-two (s * 5), add-three (s * 5), add-four (s * 5)) stored
