-- How the contracts of the list's parts go together, and what the list holds in the end.
use mathlib.Core.Path.{◌≡◌, refl, sym, ap, ◌∙◌}
use mathlib.Core.Bool.{Bool, true, false, cond}
use mathlib.Core.Logic.{◌⊎◌, inl, inr}
use mathlib.Core.List.{List, [], ◌∷◌, ◌++◌, append_assoc, append-nil}
use Prim.Native.Nat.{ℕ, suc, ◌+◌, ◌-◌, ◌<◌, ◌≤◌}
use native.Mathlib.Omega.{arith}
use lib.ListN.{length, set, replicate, length-append}
use lib.Seq.{set-append_seam}
use borrow.Author.Tests.{lt-leb, le-leb}
use Rattle.squares.specs.Members.{concat, members, for_each}
use Rattle.retraction_list.specs.declared.SourceAndTargets.{SourceAndTargets}
use Rattle.retraction_list.specs.declared.RetractionList.{RetractionList}
use Rattle.retraction_list.specs.Entries.{no_entry, holding}
use Rattle.retraction_list.specs.inner.Pushing.{pushed, pushed_all}
use Rattle.squares.proofs.Testing.{order}
use Rattle.squares.proofs.Turns.{Going, going_done}

-- one part after the other
pub pushed_both : (l : RetractionList) (xs ys : List SourceAndTargets) → pushed_all (pushed_all l xs) ys ≡ pushed_all l (xs ++ ys)
unfolding pushed_all
pushed_both l [] ys = refl
pushed_both l (x ∷ xs) ys = pushed_both (pushed l x) xs ys

-- a loop over the members of a set, that pushes g's part for each: its invariant, and what it has pushed in the end
abbrev pub Pushing : (ℕ → List SourceAndTargets) → RetractionList → ℕ → RetractionList → ℕ → Type 0
Pushing g list set out left = Going (λ (l : RetractionList) (k : ℕ). pushed_all l (g k)) list set out left

pushed_each : (g : ℕ → List SourceAndTargets) (l : RetractionList) (ks : List ℕ)
    → for_each (λ (m : RetractionList) (k : ℕ). pushed_all m (g k)) l ks ≡ pushed_all l (concat g ks)
unfolding for_each concat pushed_all
pushed_each g l [] = refl
pushed_each g l (k ∷ ks) = pushed_each g (pushed_all l (g k)) ks ∙ pushed_both l (g k) (concat g ks)

pub pushing_done : (g : ℕ → List SourceAndTargets) {list out : RetractionList} {set left : ℕ} → Pushing g list set out left → members left ≡ []
    → out ≡ pushed_all list (concat g (members set))
pushing_done g {list} {out} {set} p e = going_done p e ∙ pushed_each g list (members set)

one_more : (n : ℕ) → n < 47 → replicate (47 - n) no_entry ≡ no_entry ∷ replicate (47 - (n + 1)) no_entry
one_more n h = let e : 47 - n ≡ suc (47 - (n + 1)) = omega arith in ap (λ (m : ℕ). replicate m no_entry) e

push_held : (xs : List SourceAndTargets) (e : SourceAndTargets) → length xs < 47 → pushed (holding xs) e ≡ holding (xs ++ (e ∷ []))
unfolding pushed holding
push_held xs e h =
    ap (λ (t : Bool). cond t (record { entries = held; len = length xs; full = true }) (record { entries = set held (length xs) e; len = length xs + 1; full = false })) (lt-leb 47 (length xs) h)
    ∙ (λ i. record { entries = entries_are i; len = len_is i; full = false })
  where
    held : List SourceAndTargets
    held = xs ++ replicate (47 - length xs) no_entry

    len_is : length xs + 1 ≡ length (xs ++ (e ∷ []))
    len_is = sym (length-append xs (e ∷ []))

    entries_are : set held (length xs) e ≡ (xs ++ (e ∷ [])) ++ replicate (47 - length (xs ++ (e ∷ []))) no_entry
    entries_are =
        ap (λ (r : List SourceAndTargets). set (xs ++ r) (length xs) e) (one_more (length xs) h)
        ∙ set-append_seam xs no_entry (replicate (47 - (length xs + 1)) no_entry) e
        ∙ sym (append_assoc xs (e ∷ []) (replicate (47 - (length xs + 1)) no_entry))
        ∙ ap (λ (m : ℕ). (xs ++ (e ∷ [])) ++ replicate (47 - m) no_entry) len_is

-- entries that fit are all there, in order
all_held : (xs es : List SourceAndTargets) → length xs + length es ≤ 47 → pushed_all (holding xs) es ≡ holding (xs ++ es)
unfolding pushed_all
all_held xs [] h = ap holding (sym (append-nil xs))
all_held xs (e ∷ es) h =
    ap (λ (l : RetractionList). pushed_all l es) (push_held xs e (omega arith))
    ∙ all_held (xs ++ (e ∷ [])) es (omega (arith, length-append xs (e ∷ [])))
    ∙ ap holding (append_assoc xs (e ∷ []) es)

pub all_fit : (es : List SourceAndTargets) → length es ≤ 47 → pushed_all (holding []) es ≡ holding es
all_fit es h = all_held [] es (omega arith)

-- once full, always full
stays_full : (l : RetractionList) (es : List SourceAndTargets) → l.full ≡ true → 47 ≤ l.len → (pushed_all l es).full ≡ true
unfolding pushed_all pushed
stays_full l [] f h = f
stays_full l (e ∷ es) f h =
    ap (λ (t : Bool). (pushed_all (cond t (record { entries = l.entries; len = l.len; full = true }) (record { entries = set l.entries l.len e; len = l.len + 1; full = l.full })) es).full) (le-leb 47 l.len h)
    ∙ stays_full (record { entries = l.entries; len = l.len; full = true }) es refl h

grows_full : (l : RetractionList) (e : SourceAndTargets) (es : List SourceAndTargets) → l.len ≡ 47 → (pushed_all l (e ∷ es)).full ≡ true
unfolding pushed_all pushed
grows_full l e es h =
    ap (λ (t : Bool). (pushed_all (cond t (record { entries = l.entries; len = l.len; full = true }) (record { entries = set l.entries l.len e; len = l.len + 1; full = l.full })) es).full) (le-leb 47 l.len (omega arith))
    ∙ stays_full (record { entries = l.entries; len = l.len; full = true }) es refl (omega arith)

-- more than 47 entries, and the list says so
pub all_over : (xs es : List SourceAndTargets) → length xs ≤ 47 → 47 < length xs + length es → (pushed_all (holding xs) es).full ≡ true
unfolding pushed_all holding
all_over xs [] l h = absurd (never (length xs) l h)
  where
    never : (n : ℕ) → n ≤ 47 → 47 < n + 0 → ⊥
    never n p q = omega arith
all_over xs (e ∷ es) l h = go (order (length xs) 47) (λ q. all_over (xs ++ (e ∷ [])) es (omega (arith, length-append xs (e ∷ []))) (omega (arith, length-append xs (e ∷ []))))
  where
    go : (length xs < 47) ⊎ (47 ≤ length xs) → (length xs < 47 → (pushed_all (holding (xs ++ (e ∷ []))) es).full ≡ true) → (pushed_all (holding xs) (e ∷ es)).full ≡ true
    go (inl q) later = ap (λ (r : RetractionList). (pushed_all r es).full) (push_held xs e q) ∙ later q
    go (inr q) later = grows_full (holding xs) e es (omega arith)
