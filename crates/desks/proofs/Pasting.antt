-- What the places of a slice are once words are written into it.
use mathlib.Core.Path.{◌≡◌, refl, sym, ap, ◌∙◌}
use mathlib.Core.Bool.{Bool, true, false, cond}
use mathlib.Core.List.{List}
use Prim.Native.Nat.{ℕ, zero, suc, ◌+◌, ◌<◌, ◌≤◌}
use native.Mathlib.Omega.{arith}
use lib.Dec.{eqb}
use lib.ListN.{length, get_or, set}
use lib.Seq.{paste, paste-zero, paste-suc, length-paste, get_or-set_same, get_or-set_other}
use borrow.Author.Tests.{eqb-true, eqb-false}
use Rattle.desks.specs.Desks.{Place, free, held}
use Rattle.place.specs.Words.{words_at, board_read}
use Rattle.desks.specs.Layout.{base, mark_at, board_at, place_at, places_from}

-- two slices agree but for the words of a place that starts at k
pub record Apart (t s : List ℕ) (k : ℕ) : Type 0 where
  pub below : (j : ℕ) → j < k → get_or t j 0 ≡ get_or s j 0
  pub above : (j : ℕ) → k + 16 ≤ j → get_or t j 0 ≡ get_or s j 0

module _ (s : List ℕ) (k : ℕ) (w : List ℕ) where
  -- a word that is not among the n pasted ones
  paste_out : (n : ℕ) → n ≤ length w → k + n ≤ length s → (j : ℕ) → ((i : ℕ) → i < n → j ≡ k + i → ⊥) → get_or (paste s k w n) j 0 ≡ get_or s j 0
  paste_out zero h l j o = ap (λ (x : List ℕ). get_or x j 0) (sym (paste-zero s k w))
  paste_out (suc n) h l j o =
      ap (λ (x : List ℕ). get_or x j 0) (sym (paste-suc s k w n 0 (omega arith) (omega arith)))
      ∙ get_or-set_other (paste s k w n) (k + n) j (get_or w n 0) 0 (o n (omega arith))
      ∙ paste_out n (omega arith) (omega arith) j (λ i u. o i (omega arith))

  paste_last : (n : ℕ) → suc n ≤ length w → k + suc n ≤ length s → (j : ℕ) → j < suc n → (j < n → get_or (paste s k w n) (k + j) 0 ≡ get_or w j 0)
      → (y : Bool) → eqb j n ≡ y → get_or (set (paste s k w n) (k + n) (get_or w n 0)) (k + j) 0 ≡ get_or w j 0
  paste_last n h l j o ih true e =
      let q : j ≡ n = eqb-true j n e in
      let m : k + n < length (paste s k w n) = omega (arith, length-paste s k w n (omega arith) (omega arith)) in
      rw q (get_or-set_same (paste s k w n) (k + n) (get_or w n 0) 0 m)
  paste_last n h l j o ih false e =
      let q : j ≡ n → ⊥ = eqb-false j n e in
      get_or-set_other (paste s k w n) (k + n) (k + j) (get_or w n 0) 0 (λ f. q (omega arith)) ∙ ih (omega (arith, q))

  paste_in : (n : ℕ) → n ≤ length w → k + n ≤ length s → (j : ℕ) → j < n → get_or (paste s k w n) (k + j) 0 ≡ get_or w j 0
  paste_in zero h l j o = absurd (omega arith)
  paste_in (suc n) h l j o =
      ap (λ (x : List ℕ). get_or x (k + j) 0) (sym (paste-suc s k w n 0 (omega arith) (omega arith)))
      ∙ paste_last n h l j o (λ u. paste_in n (omega arith) (omega arith) j u) (eqb j n) refl

  module _ (h : length w ≡ 16) (l : k + 16 ≤ length s) where
    pub paste_apart : Apart (paste s k w 16) s k
    paste_apart = record {
      below = λ j o. paste_out 16 (omega arith) l j (λ i u e. omega arith);
      above = λ j o. paste_out 16 (omega arith) l j (λ i u e. omega arith);
    }

    pub paste_length : length (paste s k w 16) ≡ length s
    paste_length = length-paste s k w 16 l (omega arith)

    pub paste_at : (j : ℕ) → j < 16 → get_or (paste s k w 16) (k + j) 0 ≡ get_or w j 0
    paste_at = paste_in 16 (omega arith) l

pub set_apart : (s : List ℕ) (k v : ℕ) → Apart (set s k v) s k
set_apart s k v = record {
  below = λ j h. get_or-set_other s k j v 0 (λ e. omega arith);
  above = λ j h. get_or-set_other s k j v 0 (λ e. omega arith);
}

words_same : (s t : List ℕ) (k n : ℕ) → ((i : ℕ) → k ≤ i → i < k + n → get_or t i 0 ≡ get_or s i 0) → words_at t k n ≡ words_at s k n
words_same s t k zero h = refl
words_same s t k (suc n) h =
    let a : get_or t k 0 ≡ get_or s k 0 = h k (omega arith) (omega arith) in
    let b : words_at t (suc k) n ≡ words_at s (suc k) n = words_same s t (suc k) n (λ i l u. h i (omega arith) (omega arith)) in
    cc

module _ (s t : List ℕ) where
  -- words that agree make the same place
  place_same : (p : ℕ) → ((k : ℕ) → base p ≤ k → k < base p + 16 → get_or t k 0 ≡ get_or s k 0) → place_at t p ≡ place_at s p
  unfolding place_at
  place_same p h =
      let a : mark_at t p ≡ mark_at s p = h (base p) (omega arith) (omega arith) in
      let b : words_at t (base p) 16 ≡ words_at s (base p) 16 = words_same s t (base p) 16 h in
      ap (λ (m : ℕ). cond (eqb m 0) free (held (board_at t p))) a ∙ ap (λ (ws : List ℕ). cond (eqb (mark_at s p) 0) free (held (board_read ws))) b

  pub places_same : (p n : ℕ) → ((k : ℕ) → base p ≤ k → k < base (p + n) → get_or t k 0 ≡ get_or s k 0) → places_from t p n ≡ places_from s p n
  unfolding places_from
  places_same p zero h = refl
  places_same p (suc n) h =
      let a : place_at t p ≡ place_at s p = place_same p (λ k l u. h k (omega arith) (omega arith)) in
      let b : places_from t (suc p) n ≡ places_from s (suc p) n = places_same (suc p) n (λ k l u. h k (omega arith) (omega arith)) in
      cc

  -- one place is changed, and the others are as they were
  pub places_set : (p n i : ℕ) (x : Place) → i < n → Apart t s (base (p + i)) → place_at t (p + i) ≡ x → places_from t p n ≡ set (places_from s p n) i x
  unfolding places_from
  places_set p zero i x h o e = absurd (omega arith)
  places_set p (suc n) zero x h o e =
      let q : p + 0 ≡ p = omega arith in
      let a : place_at t p ≡ x = rw q at e in
      let b : places_from t (suc p) n ≡ places_from s (suc p) n = places_same (suc p) n (λ k l u. o.above k (omega arith)) in
      cc
  places_set p (suc n) (suc i) x h o e =
      let q : p + suc i ≡ suc p + i = omega arith in
      let a : place_at t p ≡ place_at s p = place_same p (λ k l u. o.below k (omega arith)) in
      let b : places_from t (suc p) n ≡ set (places_from s (suc p) n) i x = places_set (suc p) n i x (omega arith) (rw q at o) (rw q at e) in
      cc

-- a desk has as many places as its quota
pub places_length : (s : List ℕ) (p n : ℕ) → length (places_from s p n) ≡ n
unfolding places_from
places_length s p zero = refl
places_length s p (suc n) = ap suc (places_length s (suc p) n)

pub places_at : (s : List ℕ) (p n i : ℕ) → i < n → get_or (places_from s p n) i free ≡ place_at s (p + i)
unfolding places_from
places_at s p zero i h = absurd (omega arith)
places_at s p (suc n) zero h = let q : p + 0 ≡ p = omega arith in rw q
places_at s p (suc n) (suc i) h = let q : p + suc i ≡ suc p + i = omega arith in rw q (places_at s (suc p) n i (omega arith))
