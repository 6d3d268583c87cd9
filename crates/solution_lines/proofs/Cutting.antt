-- The line that starts at a place, and what is left behind it.
use mathlib.Core.Path.{◌≡◌, sym, ap, ◌∙◌}
use mathlib.Core.Logic.{◌⊎◌, inl, inr}
use mathlib.Core.Bool.{Bool, cond}
use mathlib.Core.List.{List, [], ◌∷◌}
use Prim.Native.Nat.{ℕ, zero, suc, ◌+◌, ◌-◌, ◌≤◌, ◌<◌}
use native.Mathlib.Omega.{arith}
use lib.Dec.{ltb}
use lib.ListN.{length, get_or, take, drop, length-drop}
use lib.Seq.{get_or-drop, drop-drop, drop-nil, drop-length}
use borrow.Author.Tests.{eq-eqb, ne_eqb, lt-ltb, le-ltb}
use Rattle.chunks.specs.Newlines.{stop_from}
use Rattle.solution_lines.specs.Lines.{onto, lines_of}
use Rattle.squares.proofs.Testing.{order}
use Rattle.chunks.proofs.Cuts.{stop_within, stop_newline, stop_first}

line_cut : (s : List ℕ) (n : ℕ) → 0 < length s → n ≤ length s → ((k : ℕ) → k < n → get_or s k 0 ≡ 10 → ⊥) → (n < length s → get_or s n 0 ≡ 10)
    → lines_of s ≡ take n s ∷ lines_of (drop (suc n) s)
unfolding lines_of
line_cut [] n p h f g = absurd (omega arith)
line_cut (b ∷ s) zero p h f g = rw (eq-eqb b 10 (g (omega arith)))
line_cut (b ∷ []) (suc n) p h f g = let e : n ≡ 0 = omega arith in rw (ne_eqb b 10 (f 0 (omega arith)), e)
line_cut (b ∷ c ∷ s) (suc n) p h f g =
    rw (ne_eqb b 10 (f 0 (omega arith)))
    (ap (onto b) (line_cut (c ∷ s) n (omega arith) (omega arith) (λ k l. f (suc k) (omega arith)) (λ l. g (omega arith))))

-- no bytes, no lines
pub lines_over : (s : List ℕ) (at : ℕ) → at ≤ length s → length s ≤ at → lines_of (drop at s) ≡ []
unfolding lines_of
lines_over s at h k = let e : at ≡ length s = omega arith in ap (λ (i : ℕ). lines_of (drop i s)) e ∙ ap lines_of (drop-length s)

pub drop_over : {A : Type 0} (s : List A) (n : ℕ) → length s ≤ n → drop n s ≡ []
drop_over [] n h = drop-nil n
drop_over (b ∷ s) zero h = absurd (omega arith)
drop_over (b ∷ s) (suc n) h = drop_over s n (omega arith)

-- the line that starts at `at` ends at `stop`, and the next one starts at `next`
module _ (s : List ℕ) (at : ℕ) (h : at < length s) (stop : ℕ) (e : stop ≡ stop_from s at (length s - at)) where
  within : (at ≤ stop) × (stop ≤ length s)
  within = let u = stop_within s at (length s - at) in (omega (arith, u.0, e), omega (arith, u.1, e))

  this_line : lines_of (drop at s) ≡ take (stop - at) (drop at s) ∷ lines_of (drop (suc (stop - at)) (drop at s))
  this_line =
      let o = within in
      line_cut (drop at s) (stop - at) (simp length-drop (omega arith)) (simp length-drop (omega (arith, o)))
      (λ k l q. stop_first s at (length s - at) (at + k) (omega arith) (omega (arith, o, e)) (sym (get_or-drop at s k 0) ∙ q))
      (λ l. get_or-drop at s (stop - at) 0 ∙ ap (λ (i : ℕ). get_or s i 0) (there o.0 ∙ e) ∙ stop_newline s at (length s - at) (short o.0 l))
    where
      short : at ≤ stop → stop - at < length (drop at s) → stop_from s at (length s - at) < at + (length s - at)
      short o l = let k : stop - at < length s - at = (simp length-drop at l) in omega (arith, e)

      there : at ≤ stop → at + (stop - at) ≡ stop
      there o = omega arith

  module _ (next : ℕ) (p : next ≡ cond (ltb stop (length s)) (stop + 1) (length s)) where
    past_newline : stop < length s → next ≡ stop + 1
    past_newline l = p ∙ ap (λ (b : Bool). cond b (stop + 1) (length s)) (lt-ltb stop (length s) l)

    past_end : length s ≤ stop → next ≡ length s
    past_end l = p ∙ ap (λ (b : Bool). cond b (stop + 1) (length s)) (le-ltb stop (length s) l)

    rest_is : drop (suc (stop - at)) (drop at s) ≡ drop next s
    rest_is = drop-drop (suc (stop - at)) at s ∙ go (order stop (length s))
      where
        there : at ≤ stop → next ≡ stop + 1 → at + suc (stop - at) ≡ next
        there o q = omega arith

        go : (stop < length s) ⊎ (length s ≤ stop) → drop (at + suc (stop - at)) s ≡ drop next s
        go (inl l) = ap (λ (i : ℕ). drop i s) (there within.0 (past_newline l))
        go (inr l) =
            drop_over s (at + suc (stop - at)) (omega (arith, within.0)) ∙ sym (drop_over s next (omega (arith, past_end l)))

    pub next_line : lines_of (drop at s) ≡ take (stop - at) (drop at s) ∷ lines_of (drop next s)
    next_line = this_line ∙ ap (λ (r : List ℕ). take (stop - at) (drop at s) ∷ lines_of r) rest_is

    pub next_on : (at < next) × (next ≤ length s)
    next_on = go (order stop (length s))
      where
        go : (stop < length s) ⊎ (length s ≤ stop) → (at < next) × (next ≤ length s)
        go (inl l) = (omega (arith, within.0, past_newline l), omega (arith, past_newline l))
        go (inr l) = (omega (arith, past_end l), omega (arith, past_end l))
