-- The search source after source, by sets that are exact.
use mathlib.Core.Path.{◌≡◌, refl, sym, ap, ◌∙◌, subst}
use mathlib.Core.Logic.{◌⊎◌, inl, inr}
use mathlib.Core.Bool.{Bool}
use mathlib.Core.List.{List, ◌∷◌}
use Prim.Native.Nat.{ℕ, ◌+◌, ◌*◌, ◌/◌, ◌%◌, ◌≤◌, ◌<◌}
use native.Mathlib.Omega.{arith}
use lib.ListN.{length}
use Rattle.squares.specs.Squares.{odd, count_to}
use Rattle.laws.specs.Positions.{Pos}
use Rattle.laws.specs.StrictLists.{retraction_at}
use Rattle.strict_test.specs.inner.Strictly.{strict_for}
use Rattle.strict_sets.specs.declared.Targets.{Targets}
use Rattle.strict_sets.specs.inner.Sets.{Exact}
use Rattle.strict_search.specs.inner.Searching.{strict_moves, test_of, holds_in, Skips, Next, FirstIn}
use Rattle.strict_search.specs.inner.Keeping.{kept_at, kept_test, kept_moves, Keeps, Gathers}
use Rattle.squares.proofs.Testing.{order}
use Rattle.squares.proofs.Counting.{count_cong, count_le}
use Rattle.strict_search.proofs.Skipping.{skips_none, skips_both}
use Rattle.strict_search.proofs.Sizes.{count_more}
use Rattle.strict_search.proofs.Remaining.{rest, rest_skips, one_more, kept_same, count_all}

-- exact sets of its source tell whether a place is strict
by_sets : (p : Pos) (w : Targets) (s i : ℕ) → Exact p s w → i / 768 ≡ s → test_of p i ≡ holds_in w i
unfolding test_of holds_in
by_sets p w s i x e =
    ap (λ (k : ℕ). strict_for p (record { source = k; target = i / 12 % 64; uncaptured = i / 2 % 6; unpromotion = odd i })) e
    ∙ x.told (i / 12 % 64) (i / 2 % 6) (odd i) (omega arith) (omega arith)

-- the first place by one test is that by another, which agrees with it on the source
first_same : (f g : ℕ → Bool) (i j : ℕ) → ((k : ℕ) → k / 768 ≡ i / 768 → f k ≡ g k) → FirstIn f i j → FirstIn g i j
first_same f g i j h x = record {
  skips = record { on = x.skips.on; most = x.skips.most; none = λ k a b. sym (h k (omega (arith, x.near))) ∙ x.skips.none k a b };
  near = x.near;
  there = λ l. sym (h j (omega (arith, x.skips.on))) ∙ x.there l;
}

pub first_exact : (p : Pos) (w : Targets) (i j : ℕ) → Exact p (i / 768) w → FirstIn (holds_in w) i j → FirstIn (test_of p) i j
first_exact p w i j x = first_same (holds_in w) (test_of p) i j (λ k e. sym (by_sets p w (i / 768) k x e))

first_kept : (l : List ℕ) (w : Targets) (i j : ℕ) → w ≡ kept_at l (i / 768) → FirstIn (holds_in w) i j → FirstIn (kept_test l) i j
unfolding kept_test
first_kept l w i j x = first_same (holds_in w) (kept_test l) i j (λ k e. ap (λ (v : Targets). holds_in v k) (x ∙ ap (kept_at l) (sym e)))

-- the search from start on has come to i, and finds j in its source
pub next_here : (f : ℕ → Bool) (start i j : ℕ) → Skips f start i → FirstIn f i j → j / 768 ≡ i / 768 → Next f start j
next_here f start i j s x e = record { skips = skips_both f start i j s x.skips; there = λ _. x.there (omega arith) }

-- the same by sets that are kept: j is the next place of what remains, and none that remains is passed over
module _ (l : List ℕ) (w : Targets) (i j : ℕ) (h : i < 49152) (e : w ≡ kept_at l (i / 768)) (x : FirstIn (holds_in w) i j) where
  pub kept_here : j / 768 ≡ i / 768 → rest (kept_test l) i ≡ retraction_at j ∷ rest (kept_test l) (j + 1)
  kept_here q = one_more (kept_test l) i j (next_here (kept_test l) i i j (skips_none (kept_test l) i (omega arith)) (first_kept l w i j e x) q) (omega arith)

  pub kept_on : rest (kept_test l) i ≡ rest (kept_test l) j
  kept_on = rest_skips (kept_test l) i j (first_kept l w i j e x).skips

-- the sets of the sources below s, and how many places they have
pub record Gathered (p : Pos) (kept : List ℕ) (n s : ℕ) : Type 0 where
  pub long : length kept ≡ 320
  pub each : (r : ℕ) → r < s → Exact p r (kept_at kept r)
  pub so_far : n ≡ count_to (s * 768) (test_of p)

-- a place of its source alone
again : (w : Targets) (s k : ℕ) → holds_in w (s * 768 + k) ≡ holds_in w k
unfolding holds_in
again w s k = rw (target, man, mark)
  where
    target : (s * 768 + k) / 12 % 64 ≡ k / 12 % 64
    target = omega arith

    man : (s * 768 + k) / 2 % 6 ≡ k / 2 % 6
    man = omega arith

    mark : (s * 768 + k) % 2 ≡ k % 2
    mark = omega arith

pub gathered_none : (p : Pos) (kept : List ℕ) → length kept ≡ 320 → Gathered p kept 0 0
unfolding count_to
gathered_none p kept l = record { long = l; each = λ r h. absurd (omega arith); so_far = refl }

module _ (p : Pos) (kept after : List ℕ) (n s m : ℕ) (w : Targets) (g : Gathered p kept n s) (x : Exact p s w) (k : Keeps kept s w after) (e : m ≡ count_to 768 (holds_in w)) where
  source : count_to 768 (λ i. test_of p (s * 768 + i)) ≡ count_to 768 (holds_in w)
  source = count_cong 768 (λ i. test_of p (s * 768 + i)) (holds_in w) (λ i l. by_sets p w s (s * 768 + i) x (omega arith) ∙ again w s i)

  pub gathered_more : Gathered p after (n + m) (s + 1)
  gathered_more = record {
    long = k.long ∙ g.long;
    each = λ r h. go r h (order r s);
    so_far = sym (ap (λ (z : ℕ). count_to z (test_of p)) (whole s) ∙ count_more (s * 768) 768 (test_of p) ∙ omega (arith, source, e, g.so_far));
  }
    where
      whole : (s : ℕ) → (s + 1) * 768 ≡ s * 768 + 768
      whole s = omega arith

      go : (r : ℕ) → r < s + 1 → (r < s) ⊎ (s ≤ r) → Exact p r (kept_at after r)
      go r h (inl l) = subst (Exact p r) (sym (k.others r (λ q. omega arith))) (g.each r l)
      go r h (inr l) = let q : s ≡ r = omega arith in subst (λ (z : ℕ). Exact p z (kept_at after z)) q (subst (Exact p s) (sym k.here) x)

pub gathered_le : (p : Pos) (kept : List ℕ) (n s : ℕ) → Gathered p kept n s → n ≤ s * 768
gathered_le p kept n s g = omega (arith, g.so_far, count_le (s * 768) (test_of p))

pub gathered_all : (p : Pos) (kept : List ℕ) (n s : ℕ) → Gathered p kept n s → s ≡ 64 → Gathers p kept n
gathered_all p kept n s g e = record {
  each = λ r l. g.each r (omega arith);
  all = g.so_far ∙ ap (λ (z : ℕ). count_to (z * 768) (test_of p)) e ∙ count_all p;
}

-- the kept sets have the strict list
pub same_moves : (p : Pos) (l : List ℕ) (n : ℕ) → Gathers p l n → kept_moves l ≡ strict_moves p
unfolding kept_test
same_moves p l n g = kept_same l p (λ k h. sym (by_sets p (kept_at l (k / 768)) (k / 768) k (g.each (k / 768) (omega arith)) refl))
