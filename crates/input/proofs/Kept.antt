-- What the line's buffer keeps of a line.
use mathlib.Core.Path.{◌≡◌, refl, sym, ◌∙◌, ap, ap₂}
use mathlib.Core.Bool.{Bool, true, false}
use mathlib.Core.List.{List, ◌++◌}
use Prim.Native.Nat.{ℕ, ◌+◌, ◌-◌, ◌≤◌, ◌<◌, min}
use native.Mathlib.Omega.{arith}
use lib.Dec.{leb, ltb}
use lib.ListN.{length, take, drop, length-append}
use lib.Seq.{paste, paste-zero, slice, length-slice, length-take-le, take-add, drop_at, take_all, take-length, take-take, take-append-le, take-append-add, take-append_seam, drop-append-add, drop-drop}
use borrow.Author.Tests.{lt-ltb, le-ltb, leb-true, leb-false, ltb-true, ltb-false}
use Rattle.squares.specs.Tests.{◌or◌}
use Rattle.chunks.specs.declared.Part.{Part}
use Rattle.chunks.specs.inner.Splitting.{stop_of, kept_of, cut_of, line_of, Fit}
use Rattle.input.specs.Reading.{kept_in}
use Rattle.chunks.proofs.Cuts.{stop_within}

-- the bytes of a line with those of a part up to its stop
abbrev pub with_part : List ℕ → List ℕ → Part → List ℕ
with_part w s p = w ++ slice p.at (stop_of s p) s

-- n bytes of v go into the line's buffer, l before, behind those of w that it has: as many as there is room for
module _ (l w v : List ℕ) (n : ℕ) (h : n ≡ min (length v) (65536 - min 65536 (length w))) where
  rest : drop (min 65536 (length w) + n) l ≡ drop (min 65536 (length (w ++ v))) l
  rest = ap (λ (i : ℕ). drop i l) (let e : min 65536 (length w) + n ≡ min 65536 (length (w ++ v)) = omega (arith, length-append w v) in e)

  kept_short : length w ≤ 65536 → paste (kept_in l w) (min 65536 (length w)) v n ≡ kept_in l (w ++ v)
  kept_short a =
      let m : min 65536 (length w) ≡ length w = omega arith in
      let d = drop (length w) l in
      let there : paste (kept_in l w) (min 65536 (length w)) v n ≡ paste (w ++ d) (length w) v n =
      ap₂ (λ (x : List ℕ) (i : ℕ). paste (x ++ drop i l) i v n) (take_all 65536 w a) m in
      let parts : paste (w ++ d) (length w) v n ≡ w ++ take n v ++ drop (length w + n) l =
      ap₂ (λ (x y : List ℕ). x ++ take n v ++ y) (take-append_seam w d) (drop-append-add w d n ∙ drop-drop n (length w) l) in
      let first : take 65536 (w ++ v) ≡ w ++ take (65536 - length w) v =
      ap (λ (i : ℕ). take i (w ++ v)) (let e : 65536 ≡ length w + (65536 - length w) = omega arith in e) ∙ take-append-add w v (65536 - length w) in
      there ∙ parts
      ∙ ap₂ (λ (x y : List ℕ). x ++ y) (ap (λ (x : List ℕ). w ++ x) (by (leb (length v) (65536 - length w)) refl) ∙ sym first)
      (ap (λ (i : ℕ). drop (i + n) l) (sym m) ∙ rest)
    where
      by : (t : Bool) → leb (length v) (65536 - length w) ≡ t → take n v ≡ take (65536 - length w) v
      by true e =
          let u = leb-true (length v) (65536 - length w) e in
          let i : n ≡ length v = omega arith in
          ap (λ (j : ℕ). take j v) i ∙ take-length v ∙ sym (take_all (65536 - length w) v u)
      by false e =
          let u = leb-false (length v) (65536 - length w) e in
          let i : n ≡ 65536 - length w = omega arith in
          ap (λ (j : ℕ). take j v) i

  kept_long : 65536 < length w → paste (kept_in l w) (min 65536 (length w)) v n ≡ kept_in l (w ++ v)
  kept_long a =
      let i : n ≡ 0 = omega arith in
      ap (paste (kept_in l w) (min 65536 (length w)) v) i
      ∙ sym (paste-zero (kept_in l w) (min 65536 (length w)) v)
      ∙ ap₂ (λ (x y : List ℕ). x ++ y) (sym (take-append-le 65536 w v (omega arith)))
      (ap (λ (j : ℕ). drop j l) (let e : min 65536 (length w) ≡ min 65536 (length w) + n = omega arith in e) ∙ rest)

  kept_more : paste (kept_in l w) (min 65536 (length w)) v n ≡ kept_in l (w ++ v)
  kept_more = by (ltb 65536 (length w)) refl
    where
      by : (t : Bool) → ltb 65536 (length w) ≡ t → paste (kept_in l w) (min 65536 (length w)) v n ≡ kept_in l (w ++ v)
      by true e = kept_long (ltb-true 65536 (length w) e)
      by false e = kept_short (ltb-false 65536 (length w) e)

-- what the line's buffer, l before, has of the line's bytes w
pub record Kept (l w : List ℕ) (p : Part) (line : List ℕ) : Type 0 where
  pub len : p.len ≡ min 65536 (length w)
  pub long : p.long ≡ ltb 65536 (length w)
  pub held : line ≡ kept_in l w

-- the bytes from a to b of s, as far as n of them go
slice_part : (s : List ℕ) (a b n : ℕ) → a ≤ b → b ≤ length s → n ≤ b - a → take n (drop a s) ≡ take n (slice a b s)
slice_part s a b n h k l =
    let e : b ≡ a + (b - a) = omega arith in
    let whole : slice a b s ≡ take (b - a) (drop a s) =
    ap (λ (i : ℕ). drop a (take i s)) e ∙ ap (drop a) (take-add a (b - a) s)
    ∙ drop_at (take a s) (take (b - a) (drop a s)) a (length-take-le a s (omega arith)) in
    sym (take-take n (b - a) (drop a s) l) ∙ ap (take n) (sym whole)

module _ (l w s line : List ℕ) (p : Part) (wide : length s ≡ 65536) (fit : Fit p) (k : Kept l w p line) where
  stop_there : (p.at ≤ stop_of s p) × (stop_of s p ≤ p.end)
  stop_there = let u = stop_within s p.at (p.end - p.at) in (u.0, omega (arith, fit.unread))

  part_size : length (slice p.at (stop_of s p) s) ≡ stop_of s p - p.at
  part_size = length-slice p.at (stop_of s p) s (omega (arith, stop_there, fit.inside))

  whole_size : length (with_part w s p) ≡ length w + (stop_of s p - p.at)
  whole_size = length-append w (slice p.at (stop_of s p) s) ∙ ap (λ (i : ℕ). length w + i) part_size

  long_is : p.long or ltb (kept_of s p) (stop_of s p - p.at) ≡ ltb 65536 (length (with_part w s p))
  unfolding ◌or◌
  long_is = rw k.long (by (ltb 65536 (length w)) refl (ltb (kept_of s p) (stop_of s p - p.at)) refl)
    where
      by : (t : Bool) → ltb 65536 (length w) ≡ t → (u : Bool) → ltb (kept_of s p) (stop_of s p - p.at) ≡ u → t or u ≡ ltb 65536 (length (with_part w s p))
      by true e u f = sym (lt-ltb 65536 (length (with_part w s p)) (omega (arith, ltb-true 65536 (length w) e, whole_size)))
      by false e true f =
          sym (lt-ltb 65536 (length (with_part w s p))
          (omega (arith, ltb-false 65536 (length w) e, ltb-true (kept_of s p) (stop_of s p - p.at) f, whole_size, k.len)))
      by false e false f =
          sym (le-ltb 65536 (length (with_part w s p))
          (omega (arith, ltb-false 65536 (length w) e, ltb-false (kept_of s p) (stop_of s p - p.at) f, whole_size, k.len)))

  pub kept_cut : Kept l (with_part w s p) (cut_of s p) (line_of s p line)
  kept_cut = record {
    len = omega (arith, whole_size, k.len);
    long = long_is;
    held =
        ap (λ (x : List ℕ). take p.len line ++ x ++ drop (p.len + kept_of s p) line)
        (slice_part s p.at (stop_of s p) (kept_of s p) stop_there.0 (omega (arith, stop_there, fit.inside)) (omega arith))
        ∙ ap₂ (λ (x : List ℕ) (i : ℕ). paste x i (slice p.at (stop_of s p) s) (kept_of s p)) k.held k.len
        ∙ kept_more l w (slice p.at (stop_of s p) s) (kept_of s p) (omega (arith, part_size, k.len));
  }
