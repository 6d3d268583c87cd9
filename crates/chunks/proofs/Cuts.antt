-- The search for a newline, and the cut at it.
use mathlib.Core.Path.{◌≡◌, refl, sym, ◌∙◌, ap, ap₂}
use mathlib.Core.Bool.{Bool, cond, true, false, ◌||◌}
use mathlib.Core.List.{List}
use mathlib.Core.Logic.{◌⊎◌, inl, inr, ⊎_elim}
use Prim.Native.Nat.{ℕ, zero, suc, ◌+◌, ◌-◌, ◌≤◌, ◌<◌, min}
use native.Mathlib.Omega.{arith}
use native.Mathlib.Numerals.{add-one}
use lib.Dec.{eqb, ltb}
use lib.ListN.{get_or, drop}
use lib.Seq.{paste}
use borrow.Author.Tests.{eq-eqb, ne_eqb, eqb-true, eqb-false, ltb-true, ltb-false}
use Rattle.squares.specs.Tests.{◌or◌}
use Rattle.chunks.specs.declared.Part.{Part}
use Rattle.chunks.specs.declared.Ending.{Ending}
use Rattle.chunks.specs.declared.Ending.TheVariants.{Newline}
use Rattle.chunks.specs.Newlines.{stop_from}
use Rattle.chunks.specs.inner.Splitting.{stop_of, kept_of, cut_of, line_of, Fit}

-- the search stands on a newline, or goes on past another byte, or is at its end
module _ (s : List ℕ) (i end : ℕ) where
  more : i < end → end - i ≡ suc (end - (i + 1))
  more h = omega arith

  pub stop_here : i < end → get_or s i 0 ≡ 10 → stop_from s i (end - i) ≡ i
  unfolding stop_from
  stop_here h e = rw (more h, eq-eqb (get_or s i 0) 10 e)

  pub stop_later : i < end → (get_or s i 0 ≡ 10 → ⊥) → stop_from s i (end - i) ≡ stop_from s (i + 1) (end - (i + 1))
  unfolding stop_from
  stop_later h e = rw (more h, ne_eqb (get_or s i 0) 10 e) (ap (λ (k : ℕ). stop_from s k (end - (i + 1))) (sym (add-one i)))

  pub stop_end : end ≤ i → stop_from s i (end - i) ≡ i
  unfolding stop_from
  stop_end h = let e : end - i ≡ 0 = omega arith in rw e

-- the parts of a cut, worked out one by one
abbrev cut_by : Part → ℕ → ℕ → Part
cut_by p stop n = record {
  at = cond (ltb stop p.end) (stop + 1) p.end;
  end = p.end;
  len = p.len + n;
  long = p.long or ltb n (stop - p.at);
  ending = cond (ltb stop p.end) Newline p.ending;
}

module _ (s l x : List ℕ) (p : Part) (stop n at : ℕ) (ending : Ending) (e : stop ≡ stop_of s p) (k : n ≡ min (stop - p.at) (65536 - p.len)) where
  kept_is : n ≡ kept_of s p
  kept_is = k ∙ ap (λ (i : ℕ). min (i - p.at) (65536 - p.len)) e

  pub cut_is : at ≡ cond (ltb stop p.end) (stop + 1) p.end → ending ≡ cond (ltb stop p.end) Newline p.ending
      → record { at = at; end = p.end; len = p.len + n; long = p.long || ltb n (stop - p.at); ending = ending } ≡ cut_of s p
  unfolding ◌or◌
  cut_is h q =
      (λ i. record { at = h i; end = p.end; len = p.len + n; long = p.long or ltb n (stop - p.at); ending = q i })
      ∙ ap₂ (cut_by p) e kept_is

  pub line_is : x ≡ paste l p.len (drop p.at s) n → x ≡ line_of s p l
  line_is h = h ∙ ap (paste l p.len (drop p.at s)) kept_is

-- what is left fits again
pub cut_fit : (s : List ℕ) (p : Part) → Fit p → Fit (cut_of s p)
cut_fit s p fit = record { unread = by (ltb (stop_of s p) p.end) refl; inside = fit.inside; short = omega (arith, fit.short) }
  where
    by : (t : Bool) → ltb (stop_of s p) p.end ≡ t → cond t (stop_of s p + 1) p.end ≤ p.end
    by true e = omega (arith, ltb-true (stop_of s p) p.end e)
    by false e = omega arith

-- where the search stops: among the bytes or past them, on a newline where it is among them, and on the first
pub stop_within : (s : List ℕ) (at n : ℕ) → (at ≤ stop_from s at n) × (stop_from s at n ≤ at + n)
unfolding stop_from
stop_within s at zero = (omega arith, omega arith)
stop_within s at (suc n) = go (eqb (get_or s at 0) 10) (stop_from s (suc at) n) (stop_within s (suc at) n)
  where
    go : (t : Bool) (i : ℕ) → (suc at ≤ i) × (i ≤ suc at + n) → (at ≤ cond t at i) × (cond t at i ≤ at + suc n)
    go true i h = (omega arith, omega arith)
    go false i h = (omega arith, omega arith)

pub stop_newline : (s : List ℕ) (at n : ℕ) → stop_from s at n < at + n → get_or s (stop_from s at n) 0 ≡ 10
unfolding stop_from
stop_newline s at zero h = absurd (omega arith)
stop_newline s at (suc n) h = go (eqb (get_or s at 0) 10) refl (stop_from s (suc at) n) (stop_newline s (suc at) n) h
  where
    go : (t : Bool) → eqb (get_or s at 0) 10 ≡ t → (i : ℕ) → (i < suc at + n → get_or s i 0 ≡ 10) → cond t at i < at + suc n → get_or s (cond t at i) 0 ≡ 10
    go true e i f k = eqb-true (get_or s at 0) 10 e
    go false e i f k = f (omega arith)

above : (i j : ℕ) → i ≤ j → (i ≡ j) ⊎ (suc i ≤ j)
above i j h = by (ltb i j) refl
  where
    by : (t : Bool) → ltb i j ≡ t → (i ≡ j) ⊎ (suc i ≤ j)
    by true e = inr (ltb-true i j e)
    by false e = let k = ltb-false i j e in inl (omega arith)

pub stop_first : (s : List ℕ) (at n k : ℕ) → at ≤ k → k < stop_from s at n → get_or s k 0 ≡ 10 → ⊥
unfolding stop_from
stop_first s at zero k a b e = omega arith
stop_first s at (suc n) k a b e = go (eqb (get_or s at 0) 10) refl (stop_from s (suc at) n) (λ q h. stop_first s (suc at) n k q h e) b
  where
    go : (t : Bool) → eqb (get_or s at 0) 10 ≡ t → (i : ℕ) → (suc at ≤ k → k < i → ⊥) → k < cond t at i → ⊥
    go true d i f h = omega arith
    go false d i f h = ⊎_elim (λ q. eqb-false (get_or s at 0) 10 d (ap (λ (u : ℕ). get_or s u 0) q ∙ e)) (λ q. f q h) (above at k a)
