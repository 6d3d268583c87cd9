-- A record is cut at its last two spaces, and in no other way.
use mathlib.Core.Path.{◌≡◌, refl, sym, ◌∙◌, ap, ap₂, subst}
use mathlib.Core.List.{List, [], ◌∷◌, ◌++◌}
use Prim.Native.Nat.{ℕ, suc, ◌+◌, ◌-◌, ◌≤◌, ◌<◌}
use native.Mathlib.Omega.{arith}
use lib.ListN.{length, get_or, take, drop, length-drop}
use lib.Seq.{drop-cons, length-take-le, get_or-drop, get_or-take, take-add}
use Rattle.std.specs.Prelude.{◌≢◌, All}
use Rattle.rows.specs.Rows.{decimal_of}
use Rattle.record_fields.specs.inner.Splitting.{Cut}
use Rattle.record_fields.proofs.Decimals.{Digits, dec_digits}

-- no byte is a space
unfoldable pub Free : List ℕ → Type 0
Free [] = Unit {0}
Free (b ∷ t) = (b ≡ 32 → ⊥) × Free t

free_digits : (t : List ℕ) → Digits t → Free t
unfolding Free Digits
free_digits [] d = tt
free_digits (b ∷ t) d = ((λ e. omega (arith, d.0)), free_digits t d.2)

pub free_decimal : (n : ℕ) → Free (decimal_of n)
free_decimal n = free_digits (decimal_of n) (dec_digits n)

pub not_free : (a b : List ℕ) → Free (a ++ (32 ∷ b)) → ⊥
unfolding Free
not_free [] b f = f.0 refl
not_free (x ∷ a) b f = not_free a b f.1

-- two cuts at a last space are one
pub cut_one : (a b x y : List ℕ) → Free b → Free y → a ++ (32 ∷ b) ≡ x ++ (32 ∷ y) → (a ≡ x) × (b ≡ y)
unfolding Free
cut_one [] b [] y f g e = (refl, cc)
cut_one [] b (c ∷ x) y f g e = let z : b ≡ x ++ (32 ∷ y) = cc in absurd (not_free x y (subst Free z f))
cut_one (c ∷ a) b [] y f g e = let z : y ≡ a ++ (32 ∷ b) = cc in absurd (not_free a b (subst Free z g))
cut_one (c ∷ a) b (d ∷ x) y f g e =
    let h : c ≡ d = cc in
    let t : a ++ (32 ∷ b) ≡ x ++ (32 ∷ y) = cc in
    let w = cut_one a b x y f g t in
    (ap₂ (λ (p : ℕ) (q : List ℕ). p ∷ q) h w.0, w.1)

-- what stands between two places that have no space between them
free_at : (t : List ℕ) → ((k : ℕ) → k < length t → get_or t k 0 ≡ 32 → ⊥) → Free t
unfolding Free
free_at [] f = tt
free_at (b ∷ t) f = ((λ e. f 0 (omega arith) e), free_at t (λ k h e. f (suc k) (omega arith) e))

-- the bytes from r up to n
module _ (t : List ℕ) (n r : ℕ) (fit : n ≤ length t) (c : Cut t n r) where
  part_long : length (take (n - r) (drop r t)) ≡ n - r
  part_long = let i = c.inside in length-take-le (n - r) (drop r t) (omega (arith, length-drop r t))

  pub free_part : Free (take (n - r) (drop r t))
  free_part =
      free_at (take (n - r) (drop r t))
      (λ k h e. let w : k < n - r = omega (arith, part_long) in c.free (r + k) (omega arith) (omega arith) (sym (get_or-drop r t k 0) ∙ sym (get_or-take (n - r) (drop r t) k 0 w) ∙ e))

  pub cut_part : 0 < r → take n t ≡ take (r - 1) t ++ (32 ∷ take (n - r) (drop r t))
  cut_part h =
      let i = c.inside in
      let a : n ≡ (r - 1) + suc (n - r) = omega arith in
      let b : suc (r - 1) ≡ r = omega arith in
      let d : drop (r - 1) t ≡ 32 ∷ drop r t = drop-cons t (r - 1) 0 (omega arith) ∙ ap₂ (λ (x y : ℕ). x ∷ drop y t) (c.edge h) b in
      ap (λ (m : ℕ). take m t) a ∙ take-add (r - 1) (suc (n - r)) t ∙ ap (λ (l : List ℕ). take (r - 1) t ++ take (suc (n - r)) l) d

  pub free_whole : r ≡ 0 → Free (take n t)
  free_whole e = let z : n - r ≡ n = omega arith in subst Free (ap₂ (λ (x y : ℕ). take x (drop y t)) z e) free_part

-- the last space before n, sought among the bytes up to there
module _ (t : List ℕ) (n : ℕ) (fit : n ≤ length t) where
  pub cut_there : (i : ℕ) → i < length (take n t) → get_or (take n t) i 0 ≡ 32 → ((k : ℕ) → i + 1 ≤ k → k < length (take n t) → get_or (take n t) k 0 ≢ 32) → Cut t n (i + 1)
  cut_there i h e f =
      let l : length (take n t) ≡ n = length-take-le n t fit in
      let z : i + 1 - 1 ≡ i = omega arith in
      record {
        inside = omega arith;
        free = λ k a b q. f k a (omega arith) (get_or-take n t k 0 b ∙ q);
        edge = λ p. ap (λ (j : ℕ). get_or t j 0) z ∙ sym (get_or-take n t i 0 (omega arith)) ∙ e;
      }

  pub cut_none : All (λ b. b ≢ 32) (take n t) → Cut t n 0
  cut_none f = record {
    inside = omega arith;
    free = λ k a b q. f k 0 (omega (arith, length-take-le n t fit)) (get_or-take n t k 0 b ∙ q);
    edge = λ z. absurd (omega arith);
  }
