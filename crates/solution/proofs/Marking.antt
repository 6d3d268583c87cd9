-- The places of the retractions that were said.
use mathlib.Core.Path.{◌≡◌, refl, sym, ap, ◌∙◌, subst}
use mathlib.Core.Logic.{◌⊎◌, inl, inr, ◌↔◌}
use mathlib.Core.Bool.{Bool, true, not, false≢true}
use mathlib.Core.List.{List}
use Prim.Native.Nat.{ℕ, ◌+◌, ◌≤◌, ◌<◌}
use native.Mathlib.Omega.{arith}
use lib.Dec.{eqb}
use lib.ListN.{length, replicate}
use borrow.Author.Tests.{eq-eqb, eqb-true}
use Rattle.squares.specs.Tests.{◌or◌}
use Rattle.laws.specs.declared.ChessRetraction.{ChessRetraction}
use Rattle.laws.specs.Retractions.{InRange}
use Rattle.laws.specs.StrictLists.{place, retraction_at}
use Rattle.rows.specs.Rows.{fields_by}
use Rattle.rows.specs.inner.Marked.{marked, Marks}
use Rattle.strict_search.specs.inner.Searching.{Next}
use Rattle.solution_lines.specs.Lines.{line_at, Among}
use Rattle.solution.specs.declared.Checked.TheVariants.{Complete, Incomplete}
use Rattle.solution.specs.inner.Marked.{AllMarked, Lacks}
use Rattle.squares.proofs.Testing.{order, either, or_left, or_right, denied}
use Rattle.laws.proofs.StrictMembers.{placed_place}
use Rattle.rows.proofs.Marking.{none_marked}
use Rattle.solution_lines.proofs.Inverse.{says_one}

-- the marks are the retractions that the first n lines say
pub record Seen (w : List ℕ) (ls : List (List ℕ)) (n : ℕ) : Type 0 where
  pub long : length w ≡ 768
  pub at : (r : ChessRetraction) → InRange r → (marked w (place r) ≡ true) ↔ Among ls n (fields_by r)

pub seen_none : (ls : List (List ℕ)) → Seen (replicate 768 0) ls 0
seen_none ls = record {
  long = refl;
  at = λ r h. ((λ z. absurd (false≢true (sym (none_marked 768 (place r)) ∙ z))), (λ z. absurd (omega (arith, z.1))));
}

-- the line behind the first n says q, and its place is marked
module _ (w x : List ℕ) (ls : List (List ℕ)) (n : ℕ) (q : ChessRetraction) (s : Seen w ls n) (h : InRange q) (e : line_at ls n ≡ fields_by q) (m : Marks w (place q) x) where
  module _ (r : ChessRetraction) (k : InRange r) where
    to : (eqb (place q) (place r) ≡ true) ⊎ (marked w (place r) ≡ true) → Among ls (n + 1) (fields_by r)
    to (inl z) =
        let o : q ≡ r = sym (placed_place q h) ∙ ap retraction_at (eqb-true (place q) (place r) z) ∙ placed_place r k in
        (n, omega arith, e ∙ ap fields_by o)
    to (inr z) = let u = (s.at r k).0 z in (u.0, omega (arith, u.1), u.2)

    back : (u : Among ls (n + 1) (fields_by r)) → (u.0 < n) ⊎ (n ≤ u.0) → (eqb (place q) (place r) or marked w (place r)) ≡ true
    back u (inl l) = or_right (eqb (place q) (place r)) ((s.at r k).1 (u.0, l, u.2))
    back u (inr l) =
        let j : n ≡ u.0 = omega (arith, u.1) in
        let o : q ≡ r = says_one (h, refl) (k, sym u.2 ∙ ap (line_at ls) (sym j) ∙ e) in
        or_left (marked w (place r)) (eq-eqb (place q) (place r) (ap place o))

  pub seen_more : Seen x ls (n + 1)
  seen_more = record {
    long = m.long ∙ s.long;
    at = λ r k. (
      (λ z. to r k (either _ _ (sym (m.each (place r)) ∙ z))),
      (λ u. m.each (place r) ∙ back r k u (order u.0 n)),
    );
  }

-- the search for a missing one goes on behind a place that is marked, and ends
module _ (f m : ℕ → Bool) (i j : ℕ) (x : Next f i j) (a : AllMarked f m i) where
  pub so_far : AllMarked f m j
  so_far k l z = go (order k i)
    where
      go : (k < i) ⊎ (i ≤ k) → m k ≡ true
      go (inl b) = a k b z
      go (inr b) = absurd (false≢true (sym (x.skips.none k b l) ∙ z))

  pub and_on : m j ≡ true → AllMarked f m (j + 1)
  and_on e k l z = go (order k j)
    where
      go : (k < j) ⊎ (j ≤ k) → m k ≡ true
      go (inl b) = so_far k b z
      go (inr b) = let q : k ≡ j = omega arith in ap m q ∙ e

  pub lacks_here : j < 49152 → (q : ChessRetraction) → q ≡ retraction_at j → (t : Bool) → t ≡ m j → not t ≡ true → Lacks f m (Incomplete q)
  lacks_here l q e t u z = (j, l, e, x.there l, sym u ∙ denied t z, so_far)

pub all_marked : (f m : ℕ → Bool) {j : ℕ} → AllMarked f m j → j ≡ 49152 → Lacks f m Complete
all_marked f m a e = subst (AllMarked f m) e a
