-- The lines are the input: no byte is lost, doubled or moved, and a line has no newline in it.
use mathlib.Core.Path.{◌≡◌, refl, sym, ◌∙◌, ap, ap₂, subst}
use mathlib.Core.Bool.{Bool, true, false, cond}
use mathlib.Core.List.{List, [], ◌∷◌, ◌++◌, append_assoc, append-nil}
use Prim.Native.Nat.{ℕ, zero, suc, ◌+◌, ◌-◌, ◌≤◌, ◌<◌}
use native.Mathlib.Omega.{arith}
use native.Mathlib.Numerals.{add-one}
use lib.Dec.{leb, ltb}
use lib.ListN.{length, get_or, take, drop, length-append, get_or-append}
use lib.Seq.{slice, length-slice, length-take-le, split_at, take-take, drop-append-le, get_or-take, get_or-drop, get_or-append-add}
use borrow.Author.Tests.{leb-true, ltb-true, ltb-false}
use Rattle.std.specs.Prelude.{Option, None, Some, IfSome}
use Rattle.std.specs.Option.{unwrap_or}
use Rattle.squares.specs.Tests.{◌and◌}
use Rattle.input.specs.declared.Cursor.{Cursor}
use Rattle.chunks.specs.declared.Ending.{Ending}
use Rattle.chunks.specs.declared.Ending.TheVariants.{Open, Newline, Over, Failed}
use Rattle.input.specs.declared.Step.{Step}
use Rattle.chunks.specs.Newlines.{stop_from}
use Rattle.input.specs.Reading.{Read, Answered, Found, found_at, scanned, brought, read_on, unread_at, searched, Gives}
use Rattle.chunks.proofs.Cuts.{stop_within, stop_newline, stop_first}

unread_inside : (c : Cursor) → ((unread_at c).at ≤ (unread_at c).end) × ((unread_at c).end ≤ 65536)
unfolding ◌and◌
unread_inside c = by (leb c.at c.end) refl (leb c.end 65536) refl
  where
    by : (t : Bool) → leb c.at c.end ≡ t → (u : Bool) → leb c.end 65536 ≡ u
        → let d = cond (t and u) c (record { at = 0; end = 0 }) in (d.at ≤ d.end) × (d.end ≤ 65536)
    by true e true f = (leb-true c.at c.end e, leb-true c.end 65536 f)
    by true e false f = (omega arith, omega arith)
    by false e u f = (omega arith, omega arith)

-- the bytes that the reads brought
abbrev pub came : Read → List ℕ
came r = take (unwrap_or r.got 0) r.chunk

pub joined : List Read → List ℕ
joined [] = []
joined (r ∷ rs) = came r ++ joined rs

-- what follows the bytes of a line: the newline that ended it, and what is unread
abbrev after : Ending → List ℕ → List ℕ
after Newline u = 10 ∷ u
after Open u = []
after Over u = []
after Failed u = []

abbrev pub behind_line : Found → List ℕ
behind_line f = after f.ending (slice f.at f.end f.chunk)

abbrev Plain : List ℕ → Type 0
Plain w = (k : ℕ) → k < length w → get_or w k 0 ≡ 10 → ⊥

plain_both : (w v : List ℕ) → Plain w → Plain v → Plain (w ++ v)
plain_both w v p q k h e = by (ltb k (length w)) refl
  where
    by : (t : Bool) → ltb k (length w) ≡ t → ⊥
    by true f = p k (ltb-true k (length w) f) (sym (get_or-append w v 0 k (ltb-true k (length w) f)) ∙ e)
    by false f =
        let u = ltb-false k (length w) f in
        let i : k ≡ length w + (k - length w) = omega arith in
        q (k - length w) (omega (arith, length-append w v))
        (sym (get_or-append-add w v (k - length w) 0) ∙ ap (λ (j : ℕ). get_or (w ++ v) j 0) (sym i) ∙ e)

-- the bytes of a chunk up to its first newline, and those behind it
module _ (s : List ℕ) (at end : ℕ) (h : at ≤ end) (k : end ≤ length s) where
  abbrev stop : ℕ
  stop = stop_from s at (end - at)

  within : (at ≤ stop) × (stop ≤ end)
  within = let u = stop_within s at (end - at) in (u.0, omega arith)

  plain_part : Plain (slice at stop s)
  plain_part i b e =
      let l = length-slice at stop s (omega (arith, within)) in
      stop_first s at (end - at) (at + i) (omega arith) (omega (arith, within))
      (sym (get_or-drop at (take stop s) i 0 ∙ get_or-take stop s (at + i) 0 (omega (arith, within))) ∙ e)

  split_part : stop < end → slice at end s ≡ slice at stop s ++ (10 ∷ slice (stop + 1) end s)
  split_part b =
      let x = take end s in
      let l : length x ≡ end = length-take-le end s k in
      let here : get_or x stop 0 ≡ 10 = get_or-take end s stop 0 b ∙ stop_newline s at (end - at) (omega arith) in
      let first : take stop x ≡ take stop s = take-take stop end s (omega arith) in
      ap (drop at) (split_at x stop 0 (omega arith))
      ∙ drop-append-le at (take stop x) (get_or x stop 0 ∷ drop (suc stop) x) (omega (arith, within, length-take-le stop x (omega arith)))
      ∙ ap₂ (λ (i : List ℕ) (j : ℕ). drop at i ++ (j ∷ drop (suc stop) x)) first here
      ∙ ap (λ (j : ℕ). slice at stop s ++ (10 ∷ drop j x)) (sym (add-one stop))

-- w and the bytes u behind it are what was found, the line having no newline in it
abbrev Whole : List ℕ → List ℕ → Found → Type 0
Whole w u f = (w ++ u ≡ f.bytes ++ behind_line f) × Plain f.bytes

unended : Ending → ℕ
unended Open = 1
unended Newline = 0
unended Over = 0
unended Failed = 0

-- no read is left behind one that ended the line
none_left : (rs : List Read) (e : Ending) → unended e ≡ 0 → (0 < length rs → e ≡ Open) → joined rs ≡ []
unfolding joined unended
none_left [] e z h = refl
none_left (r ∷ rs) e z h = absurd (omega (arith, z, ap unended (h (omega arith))))

abbrev Needed : (List Read → Found) → List Read → Type 0
Needed f rs = (k : ℕ) → k < length rs → (f (take k rs)).ending ≡ Open

-- the bytes at..end of a chunk, and the reads behind them
module _ (w s : List ℕ) (at end : ℕ) (h : at ≤ end) (k : end ≤ length s) (p : Plain w) (rs : List Read) (n : Needed (λ qs. scanned w s at end (λ v. read_on v s qs)) rs)
    (on : (v : List ℕ) → Plain v → Needed (read_on v s) rs → Whole v (joined rs) (read_on v s rs)) where
  abbrev found : Bool → List Read → Found
  found t qs = cond t (found_at (w ++ slice at (stop_from s at (end - at)) s) Newline s (stop_from s at (end - at) + 1) end) (read_on (w ++ slice at end s) s qs)

  scan_whole : Whole w (slice at end s ++ joined rs) (scanned w s at end (λ v. read_on v s rs))
  unfolding unended
  scan_whole = by (ltb (stop_from s at (end - at)) end) refl
    where
      by : (t : Bool) → ltb (stop_from s at (end - at)) end ≡ t → Whole w (slice at end s ++ joined rs) (found t rs)
      by true e = (
        ap (λ (x : List ℕ). w ++ x)
            (ap (λ (x : List ℕ). slice at end s ++ x) (none_left rs Newline refl (λ b. ap (λ (t : Bool). (found t []).ending) (sym e) ∙ n 0 b))
            ∙ append-nil (slice at end s) ∙ split_part s at end h k (ltb-true (stop_from s at (end - at)) end e))
            ∙ sym (append_assoc w (slice at (stop_from s at (end - at)) s) (10 ∷ slice (stop_from s at (end - at) + 1) end s)),
        plain_both w (slice at (stop_from s at (end - at)) s) p (plain_part s at end h k),
      )
      by false e =
          let i : stop_from s at (end - at) ≡ end = omega (arith, ltb-false (stop_from s at (end - at)) end e, within s at end h k) in
          let o =
          on (w ++ slice at end s) (plain_both w (slice at end s) p (subst (λ (j : ℕ). Plain (slice at j s)) i (plain_part s at end h k)))
          (λ k b. ap (λ (t : Bool). (found t (take k rs)).ending) (sym e) ∙ n k b) in
          (sym (append_assoc w (slice at end s) (joined rs)) ∙ o.0, o.1)

read_whole : (rs : List Read) (w s : List ℕ) → Plain w → Answered rs → Needed (read_on w s) rs → Whole w (joined rs) (read_on w s rs)
unfolding read_on joined unended
read_whole [] w s p a n = (refl, p)
read_whole (r ∷ rs) w s p a n = by r.got r.chunk a.0 a.1 n (λ v t q f. read_whole rs v t q a.2 f)
  where
    by : (z : Option ℕ) (t : List ℕ) → IfSome z (λ n. n ≤ 65536) → length t ≡ 65536 → Needed (read_on w s) (record { got = z; chunk = t } ∷ rs)
        → ((v t : List ℕ) → Plain v → Needed (read_on v t) rs → Whole v (joined rs) (read_on v t rs))
        → Whole w (take (unwrap_or z 0) t ++ joined rs) (brought w t z (λ v. read_on v t rs))
    by (Some zero) t m l n on = (ap (λ (x : List ℕ). w ++ x) (none_left rs Over refl (λ b. n 1 (omega arith))), p)
    by None t m l n on = (ap (λ (x : List ℕ). w ++ x) (none_left rs Failed refl (λ b. n 1 (omega arith))), p)
    by (Some (suc i)) t m l n on =
        scan_whole w t 0 (suc i) (omega arith) (omega arith) p rs (λ k b. n (suc k) (omega arith)) (λ v q f. on v t q f)

-- the unread bytes and those that the reads brought are the line, its newline, and what is unread then
pub whole : (s l : List ℕ) (c : Cursor) (r : Step) (s' l' : List ℕ) (a : Gives s l c r s' l') → length s ≡ 65536 → let f = searched s c a.reads in
    (slice (unread_at c).at (unread_at c).end s ++ joined a.reads ≡ f.bytes ++ behind_line f) × ((k : ℕ) → k < length f.bytes → get_or f.bytes k 0 ≡ 10 → ⊥)
unfolding searched
whole s l c r s' l' a size =
    let u = unread_inside c in
    scan_whole [] s (unread_at c).at (unread_at c).end u.0 (omega (arith, u)) (λ k b. absurd (omega arith)) a.reads a.needed
    (λ v q f. read_whole a.reads v s q a.answered f)
