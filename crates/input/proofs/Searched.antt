-- The search for a line, read after read: what a turn of the loop adds to it, and what it comes to.
use mathlib.Core.Path.{◌≡◌, refl, sym, ◌∙◌, ap, ap₂, subst}
use mathlib.Core.Bool.{Bool, true, false, cond}
use mathlib.Core.List.{List, [], ◌∷◌, ◌++◌, append_assoc, append-nil}
use mathlib.Core.Logic.{◌⊎◌, ⊎_elim}
use Prim.Native.Nat.{ℕ, zero, suc, ◌+◌, ◌-◌, ◌≤◌, ◌<◌, min}
use native.Mathlib.Omega.{arith}
use lib.Dec.{leb, ltb}
use lib.ListN.{length, take, length-append}
use lib.Seq.{slice, take-append-le, take-append_seam}
use borrow.Author.Tests.{le-leb, lt-leb, ltb-true, ltb-false}
use Rattle.std.specs.Prelude.{Option, None, Some, IfSome}
use Rattle.squares.specs.Tests.{◌and◌}
use Rattle.input.specs.declared.Cursor.{Cursor}
use Rattle.chunks.specs.declared.Part.{Part}
use Rattle.chunks.specs.declared.Ending.{Ending}
use Rattle.chunks.specs.declared.Ending.TheVariants.{Open, Newline, Over, Failed}
use Rattle.input.specs.declared.Step.{Step}
use Rattle.input.specs.declared.Step.TheVariants.{Line, End, Failed as failed}
use Rattle.chunks.specs.Newlines.{stop_from}
use Rattle.input.specs.Reading.{Read, Answered, Found, found_at, scanned, brought, read_on, unread_at, searched, step_for, step_of, kept_in, Gives}
use Rattle.chunks.specs.inner.Splitting.{stop_of, cut_of, line_of, Fit, Cuts}
use Rattle.input.specs.inner.Parts.{is_open, cursor_of, opened_at, filled_of, Turns}
use Rattle.chunks.proofs.Cuts.{stop_within, cut_fit}
use Rattle.input.proofs.Kept.{with_part, Kept, kept_cut}

abbrev flag : Bool → ℕ
flag true = 1
flag false = 0

-- where a cursor lets the search begin
module _ (c : Cursor) where
  pub unread_there : c.at ≤ c.end → c.end ≤ 65536 → c ≡ unread_at c
  unfolding ◌and◌
  unread_there h k = rw (le-leb c.at c.end h, le-leb c.end 65536 k)

  pub unread_nowhere : (r : Cursor) → (r.at ≡ 0) × (r.end ≡ 0) → (c.at ≤ c.end × 65536 < c.end) ⊎ (c.end < c.at) → r ≡ unread_at c
  unfolding ◌and◌
  unread_nowhere r e w =
      (λ i. record { at = e.0 i; end = e.1 i })
      ∙ ⊎_elim (λ h. by (leb c.at c.end) h.1) (λ h. rw (lt-leb c.at c.end h)) w
    where
      by : (t : Bool) → 65536 < c.end → record { at = 0; end = 0 } ≡ cond (t and leb c.end 65536) c (record { at = 0; end = 0 })
      by true h = rw (lt-leb c.end 65536 h)
      by false h = refl

-- how the search goes on when the line's bytes are w, with nothing unread where they have not ended
abbrev onward : Ending → List ℕ → List ℕ → ℕ → ℕ → List Read → Found
onward Open w s at end qs = read_on w s qs
onward Newline w s at end qs = found_at w Newline s at end
onward Over w s at end qs = found_at w Over s at end
onward Failed w s at end qs = found_at w Failed s at end

-- the search goes on as the cut leaves it
module _ (w s : List ℕ) (p : Part) (qs : List Read) where
  scan_cut : Fit p → p.ending ≡ Open → scanned w s p.at p.end (λ v. read_on v s qs) ≡ onward (cut_of s p).ending (with_part w s p) s (cut_of s p).at p.end qs
  scan_cut fit e = by (ltb (stop_of s p) p.end) refl
    where
      by : (t : Bool) → ltb (stop_of s p) p.end ≡ t
          → cond t (found_at (with_part w s p) Newline s (stop_of s p + 1) p.end) (read_on (w ++ slice p.at p.end s) s qs)
          ≡ onward (cond t Newline p.ending) (with_part w s p) s (cond t (stop_of s p + 1) p.end) p.end qs
      by true k = refl
      by false k =
          let u = stop_within s p.at (p.end - p.at) in
          let l = ltb-false (stop_of s p) p.end k in
          let h : p.end ≡ stop_of s p = omega (arith, fit.unread) in
          rw e (ap (λ (i : ℕ). read_on (w ++ slice p.at i s) s qs) h)

-- and as a read leaves it, whatever the read answered
module _ (w s : List ℕ) (p : Part) (qs : List Read) (fit : Fit p) where
  abbrev Goes : Option ℕ → Part → Type 0
  Goes got q = brought w s got (λ v. read_on v s qs) ≡ onward (cut_of s q).ending (with_part w s q) s (cut_of s q).at q.end qs

  brought_cut : (got : Option ℕ) → IfSome got (λ n. n ≤ 65536) → Goes got (filled_of p got)
  unfolding stop_from
  brought_cut (Some (suc n)) m = scan_cut w s (filled_of p (Some (suc n))) qs (record { unread = omega arith; inside = m; short = fit.short }) refl
  brought_cut (Some zero) m = sym (ap (λ (v : List ℕ). found_at v Over s 0 0) (append-nil w))
  brought_cut None m = sym (ap (λ (v : List ℕ). found_at v Failed s 0 0) (append-nil w))

filled_fit : (p : Part) → Fit p → (got : Option ℕ) → IfSome got (λ n. n ≤ 65536) → Fit (filled_of p got)
filled_fit p fit (Some n) m = record { unread = omega arith; inside = m; short = fit.short }
filled_fit p fit None m = record { unread = omega arith; inside = omega arith; short = fit.short }

-- The loop stands at the part p: the reads were needed, and whatever reads follow, the search goes on from p.
pub record Going (s₀ l : List ℕ) (c : Cursor) (s line : List ℕ) (p : Part) (turns : ℕ) : Type 0 where
  reads : List Read
  answered : Answered reads
  needed : (k : ℕ) → k < length reads → (searched s₀ c (take k reads)).ending ≡ Open
  made : length reads + turns ≡ 18446744073709551615
  bytes : List ℕ
  kept : Kept l bytes p line
  later : (qs : List Read) → searched s₀ c (reads ++ qs) ≡ onward p.ending bytes s p.at p.end qs

-- the loop stands behind the cut of a part p, where the search went on from p
module _ (s₀ l : List ℕ) (c : Cursor) (s line : List ℕ) (p : Part) (turns : ℕ) (wide : length s ≡ 65536) (fit : Fit p) (w : List ℕ)
    (kept : Kept l w p line) (reads : List Read) (answered : Answered reads) (needed : (k : ℕ) → k < length reads → (searched s₀ c (take k reads)).ending ≡ Open)
    (made : length reads + turns ≡ 18446744073709551615)
    (later : (qs : List Read) → searched s₀ c (reads ++ qs) ≡ onward (cut_of s p).ending (with_part w s p) s (cut_of s p).at p.end qs) where
  going : (q : Part) (line' : List ℕ) → q ≡ cut_of s p → line' ≡ line_of s p line → Going s₀ l c s line' q turns
  going q line' e f =
      subst (λ (x : Part). Going s₀ l c s line' x turns) (sym e)
      (subst (λ (x : List ℕ). Going s₀ l c s x (cut_of s p) turns) (sym f)
      (record {
        reads = reads;
        answered = answered;
        needed = needed;
        made = made;
        bytes = with_part w s p;
        kept = kept_cut l w s line p wide fit kept;
        later = later;
      }))

-- before the first read
pub going_first : (s l line : List ℕ) (c : Cursor) (p q : Part) → (p ≡ opened_at (unread_at c)) × Fit p → Cuts s l p q line → Going s l c s line q 18446744073709551615
unfolding searched
going_first s l line c p q o h =
    let e = o.0 in
    going s l c s l p 18446744073709551615 h.wide o.1 []
    (record { len = ap (λ (x : Part). x.len) e; long = ap (λ (x : Part). x.long) e; held = refl }) [] tt (λ k u. absurd (omega arith)) (omega arith)
    (λ qs. ap (λ (x : Part). scanned [] s x.at x.end (λ w. read_on w s qs)) (sym e) ∙ scan_cut [] s p qs o.1 (ap (λ (x : Part). x.ending) e))
    q line h.cut h.keeps

answered_more : (rs : List Read) (r : Read) → Answered rs → IfSome r.got (λ n. n ≤ 65536) → length r.chunk ≡ 65536 → Answered (rs ++ (r ∷ []))
answered_more [] r a m w = (m, w, tt)
answered_more (q ∷ rs) r a m w = (a.0, a.1, answered_more rs r a.2 m w)

-- one read more
module _ (s₀ l : List ℕ) (c : Cursor) (s line : List ℕ) (p : Part) (turns : ℕ) (fit : Fit p) (unended : p.ending ≡ Open) (g : Going s₀ l c s line p turns) where
  found_open : (searched s₀ c g.reads).ending ≡ Open
  unfolding read_on
  found_open =
      ap (λ (rs : List Read). (searched s₀ c rs).ending) (sym (append-nil g.reads))
      ∙ ap (λ (f : Found). f.ending) (g.later [] ∙ ap (λ (x : Ending). onward x g.bytes s p.at p.end []) unended)

  needed_more : (r : Read) (k : ℕ) → k < length (g.reads ++ (r ∷ [])) → (searched s₀ c (take k (g.reads ++ (r ∷ [])))).ending ≡ Open
  needed_more r k h = by (ltb k (length g.reads)) refl
    where
      by : (t : Bool) → ltb k (length g.reads) ≡ t → (searched s₀ c (take k (g.reads ++ (r ∷ [])))).ending ≡ Open
      by true e =
          let u = ltb-true k (length g.reads) e in
          rw (take-append-le k g.reads (r ∷ []) (omega arith)) (g.needed k u)
      by false e =
          let u : k ≡ length g.reads = omega (arith, ltb-false k (length g.reads) e, length-append g.reads (r ∷ [])) in
          rw (u, take-append_seam g.reads (r ∷ [])) found_open

  pub going_on : (others : ℕ) → turns ≡ others + 1 → (s' line' : List ℕ) (q : Part) → Turns p line q s' line' → Going s₀ l c s' line' q others
  unfolding read_on
  going_on others h s' line' q t =
      let r : Read = record { got = t.got; chunk = s' } in
      going s₀ l c s' line (filled_of p t.got) others t.answered.1
      (filled_fit p fit t.got t.answered.0) g.bytes (record { len = g.kept.len; long = g.kept.long; held = g.kept.held })
      (g.reads ++ (r ∷ [])) (answered_more g.reads r g.answered t.answered.0 t.answered.1) (needed_more r)
      (omega (arith, g.made, length-append g.reads (r ∷ [])))
      (λ qs. ap (searched s₀ c) (append_assoc g.reads (r ∷ []) qs) ∙ g.later (r ∷ qs)
      ∙ ap (λ (x : Ending). onward x g.bytes s p.at p.end (r ∷ qs)) unended
      ∙ brought_cut g.bytes s' p qs fit t.got t.answered.0)
      q line' t.cut t.keeps

pub ended_is : (x : Ending) → false ≡ is_open x → x ≡ Open → ⊥
ended_is x e o = omega (arith, ap flag (e ∙ ap is_open o))

pub open_is : (x : Ending) → true ≡ is_open x → x ≡ Open
open_is Open e = refl
open_is Newline e = absurd (omega (arith, ap flag e))
open_is Over e = absurd (omega (arith, ap flag e))
open_is Failed e = absurd (omega (arith, ap flag e))

pub turn_fit : (p : Part) → Fit p → (line : List ℕ) (q : Part) (s' line' : List ℕ) → Turns p line q s' line' → Fit q
turn_fit p fit line q s' line' t = subst Fit (sym t.cut) (cut_fit s' (filled_of p t.got) (filled_fit p fit t.got t.answered.0))

-- what the loop leaves
module _ (s₀ l : List ℕ) (c : Cursor) (s line : List ℕ) (p : Part) (turns : ℕ) (g : Going s₀ l c s line p turns) where
  left : searched s₀ c g.reads ≡ onward p.ending g.bytes s p.at p.end []
  left = ap (searched s₀ c) (sym (append-nil g.reads)) ∙ g.later []

  onward_is : (x : Ending) → let f = onward x g.bytes s p.at p.end [] in
      (f.bytes ≡ g.bytes) × (f.ending ≡ x) × (f.chunk ≡ s) × (step_of f ≡ step_for x (min 65536 (length g.bytes)) (ltb 65536 (length g.bytes)) (cursor_of p))
  unfolding read_on
  onward_is Open = (refl, refl, refl, refl)
  onward_is Newline = (refl, refl, refl, refl)
  onward_is Over = (refl, refl, refl, refl)
  onward_is Failed = (refl, refl, refl, refl)

  pub gives : (p.ending ≡ Open → turns ≡ 0) → (r : Step) → r ≡ step_for p.ending p.len p.long (cursor_of p) → Gives s₀ l c r s line
  gives h r e =
      let o = onward_is p.ending in
      record {
        reads = g.reads;
        answered = g.answered;
        needed = g.needed;
        enough = λ u. omega (arith, g.made, h (sym (ap (λ (f : Found). f.ending) left ∙ o.1) ∙ u));
        step =
            e ∙ ap₂ (λ (n : ℕ) (b : Bool). step_for p.ending n b (cursor_of p)) g.kept.len g.kept.long ∙ sym (ap step_of left ∙ o.3);
        holds = sym (ap (λ (f : Found). f.chunk) left ∙ o.2);
        keeps = g.kept.held ∙ ap (kept_in l) (sym (ap (λ (f : Found). f.bytes) left ∙ o.0));
      }

-- by the same reads there is one answer
pub next_one : (s l : List ℕ) (c : Cursor) (r q : Step) (s₁ s₂ l₁ l₂ : List ℕ) (a : Gives s l c r s₁ l₁) (b : Gives s l c q s₂ l₂) → a.reads ≡ b.reads
    → (r ≡ q) × (s₁ ≡ s₂) × (l₁ ≡ l₂)
next_one s l c r q s₁ s₂ l₁ l₂ a b e =
    let f = ap (searched s c) e in (
      a.step ∙ ap step_of f ∙ sym b.step,
      a.holds ∙ ap (λ (x : Found). x.chunk) f ∙ sym b.holds,
      a.keeps ∙ ap (λ (x : Found). kept_in l x.bytes) f ∙ sym b.keeps,
    )

-- a line has at most 65,536 bytes in its buffer
line_len : Step → ℕ
line_len (Line n long c) = n
line_len End = 0
line_len failed = 0

pub line_short : (s l : List ℕ) (c : Cursor) (r : Step) (s' l' : List ℕ) → Gives s l c r s' l' → (n : ℕ) (long : Bool) (d : Cursor) → r ≡ Line n long d → n ≤ 65536
unfolding line_len
line_short s l c r s' l' a n long d e =
    let f = searched s c a.reads in
    let k : line_len (step_of f) ≤ 65536 = by f.ending (min 65536 (length f.bytes)) (ltb 65536 (length f.bytes)) _ (omega arith) in
    subst (λ (x : Step). line_len x ≤ 65536) (sym a.step ∙ e) k
  where
    maybe : (t : Bool) (n : ℕ) (b : Bool) (c : Cursor) → n ≤ 65536 → line_len (cond t (Line n b c) End) ≤ 65536
    maybe true n b c h = h
    maybe false n b c h = omega arith

    by : (x : Ending) (n : ℕ) (b : Bool) (c : Cursor) → n ≤ 65536 → line_len (step_for x n b c) ≤ 65536
    by Newline n b c h = h
    by Over n b c h = maybe (ltb 0 n) n b c h
    by Failed n b c h = omega arith
    by Open n b c h = omega arith
