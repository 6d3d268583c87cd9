-- One line more is right or wrong, and what is told at the end of the lines.
use mathlib.Core.Path.{◌≡◌, refl, sym, ap, ◌∙◌, subst}
use mathlib.Core.Logic.{◌⊎◌, inl, inr, ◌↔◌}
use mathlib.Core.Bool.{Bool, true, false, not, cond, false≢true}
use mathlib.Core.List.{List}
use Prim.Native.Nat.{ℕ, ◌+◌, ◌-◌, ◌≤◌, ◌<◌}
use lib.Dec.{ltb}
use lib.ListN.{length, take, drop}
use Rattle.squares.specs.Tests.{◌and◌}
use Rattle.chunks.specs.Newlines.{stop_from}
use Rattle.laws.specs.declared.ChessRetraction.{ChessRetraction}
use Rattle.laws.specs.Positions.{Pos}
use Rattle.laws.specs.Retractions.{InRange}
use Rattle.laws.specs.StrictLists.{place}
use Rattle.rows.specs.inner.Marked.{marked, Marks}
use Rattle.strict_test.specs.inner.Strictly.{strict_for}
use Rattle.strict_search.specs.inner.Searching.{test_of}
use Rattle.solution_lines.specs.Lines.{lines_of, line_at, Says, Among, NoneOf, TellsForm}
use Rattle.solution_lines.specs.inner.Reading.{leniently}
use Rattle.solution.specs.declared.Checked.{Checked}
use Rattle.solution.specs.declared.Checked.TheVariants.{Complete, Wrong, Incomplete}
use Rattle.solution.specs.Verdicts.{IsWrong, IsSaid, Tells}
use Rattle.solution.specs.inner.Marked.{Lacks}
use Rattle.solution.specs.inner.Judged.{StrictAt}
use Rattle.std.specs.Prelude.{Ok}
use Rattle.squares.proofs.Testing.{left, right, failed, granted, order}
use Rattle.laws.proofs.StrictMembers.{placed_place, strict_in}
use Rattle.strict.proofs.Told.{place_placed}
use Rattle.strict.proofs.Onward.{place_in}
use Rattle.solution_lines.proofs.Inverse.{says_one, says_something}
use Rattle.solution_lines.proofs.Walking.{Through, there, line_is, first_so, one_more, walked, none_walked}
use Rattle.solution.proofs.Marking.{Seen, seen_more}

-- how far the walk is: none of the first n lines is wrong, and the marks are what they say
pub record Goes (p : Pos) (s w : List ℕ) (at n : ℕ) : Type 0 where
  pub through : Through (IsWrong (StrictAt p) (lines_of s)) s at n
  pub seen : Seen w (lines_of s) n

-- a turn of the loop: the line says r, and t tells whether it is strict and new
module _ (p : Pos) (s w : List ℕ) (at n : ℕ) (g : Goes p s w at n) (f : TellsForm (lines_of s) (Ok tt)) (h : at < length s) (stop : ℕ) (e : stop ≡ stop_from s at (length s - at)) (r : ChessRetraction)
    (q : (r ≡ leniently (take (stop - at) (drop at s))) × InRange r) (i : ℕ) (ip : i ≡ place r) (t : Bool) (tq : t ≡ (strict_for p r and not (marked w i))) where
  line : line_at (lines_of s) n ≡ take (stop - at) (drop at s)
  line = line_is (IsWrong (StrictAt p) (lines_of s)) s at n g.through h stop e

  says : Says r (line_at (lines_of s) n)
  says =
      subst (λ (z : ChessRetraction). Says z (line_at (lines_of s) n)) (ap leniently line ∙ sym q.0)
      (says_something (line_at (lines_of s) n) (f.1 n (there (IsWrong (StrictAt p) (lines_of s)) s at n g.through h stop e)))

  -- whether it was said before
  said : (marked w i ≡ true) ↔ Among (lines_of s) n (line_at (lines_of s) n)
  said = (
    (λ z. subst (Among (lines_of s) n) says.1 ((g.seen.at r q.1).0 (ap (marked w) (sym ip) ∙ z))),
    (λ z. ap (marked w) ip ∙ (g.seen.at r q.1).1 (subst (Among (lines_of s) n) (sym says.1) z)),
  )

  wrong : not t ≡ true → IsWrong (StrictAt p) (lines_of s) n
  unfolding ◌and◌
  wrong z = go (strict_for p r) refl (marked w i) refl tq
    where
      go : (a : Bool) → strict_for p r ≡ a → (b : Bool) → marked w i ≡ b → t ≡ (a and not b) → IsWrong (StrictAt p) (lines_of s) n
      go false u b v k = inl (λ x y o. false≢true (sym u ∙ ap (strict_for p) (says_one says y) ∙ o))
      go true u true v k = inr (said.0 v)
      go true u false v k = absurd (failed t z k)

  right_one : not t ≡ false → IsWrong (StrictAt p) (lines_of s) n → ⊥
  right_one z (inl k) = k r says (left _ _ (sym tq ∙ granted t z))
  right_one z (inr k) = failed (marked w i) (right (strict_for p r) _ (sym tq ∙ granted t z)) (said.1 k)

  pub tells_wrong : not t ≡ true → Tells (StrictAt p) (lines_of s) (Ok (Wrong (n + 1)))
  tells_wrong z = (f, first_so (IsWrong (StrictAt p) (lines_of s)) s at n g.through h stop e (wrong z))

  pub goes_on : not t ≡ false → (next : ℕ) → next ≡ cond (ltb stop (length s)) (stop + 1) (length s) → (x : List ℕ) → Marks w i x → Goes p s x next (n + 1)
  goes_on z next k x m = record {
    through = one_more (IsWrong (StrictAt p) (lines_of s)) s at n g.through h stop e (right_one z) next k;
    seen = seen_more w x (lines_of s) n r g.seen q.1 (sym says.1) (subst (λ (j : ℕ). Marks w j x) ip m);
  }

-- the lines are over, and what is missing is known by the marks
module _ (p : Pos) (s w : List ℕ) (at n : ℕ) (g : Goes p s w at n) (f : TellsForm (lines_of s) (Ok tt)) (h : at ≤ length s) (k : length s ≤ at) where
  none_wrong : NoneOf (length (lines_of s)) (IsWrong (StrictAt p) (lines_of s))
  none_wrong = none_walked (IsWrong (StrictAt p) (lines_of s)) s at n g.through h k

  seen : Seen w (lines_of s) (length (lines_of s))
  seen = subst (Seen w (lines_of s)) (walked (IsWrong (StrictAt p) (lines_of s)) s at n g.through h k) g.seen

  in_range : (r : ChessRetraction) → StrictAt p r → InRange r
  unfolding strict_for
  in_range r z = strict_in p r z

  passes : (r : ChessRetraction) → StrictAt p r → test_of p (place r) ≡ true
  unfolding test_of
  passes r z = ap (strict_for p) (placed_place r (in_range r z)) ∙ z

  pub tells_end : (v : Checked) → Lacks (test_of p) (marked w) v → Tells (StrictAt p) (lines_of s) (Ok v)
  unfolding test_of
  tells_end Complete a =
      (f, none_wrong, λ r z. (seen.at r (in_range r z)).0 (a (place r) (place_in r (in_range r z)) (passes r z)))
  tells_end (Wrong i) a = absurd a
  tells_end (Incomplete q) a = (f, none_wrong, record { strict = strict_q; missing = unsaid; first = λ r z u. go r z u (order (place r) a.0) })
    where
      strict_q : StrictAt p q
      strict_q = ap (strict_for p) a.2 ∙ a.3

      place_q : place q ≡ a.0
      place_q = ap place a.2 ∙ place_placed a.0 a.1

      unsaid : IsSaid (lines_of s) q → ⊥
      unsaid z = false≢true (sym a.4 ∙ ap (marked w) (sym place_q) ∙ (seen.at q (in_range q strict_q)).1 z)

      go : (r : ChessRetraction) → StrictAt p r → (IsSaid (lines_of s) r → ⊥) → (place r < a.0) ⊎ (a.0 ≤ place r) → place q ≤ place r
      go r z u (inl l) = absurd (u ((seen.at r (in_range r z)).0 (a.5 (place r) l (passes r z))))
      go r z u (inr l) = subst (λ (i : ℕ). i ≤ place r) (sym place_q) l
