-- What is answered of old lines, from what was found.
use mathlib.Core.Path.{◌≡◌, refl, sym, ◌∙◌, ap}
use mathlib.Core.Bool.{Bool, true, false, not, false≢true, ◌||◌}
use mathlib.Core.List.{List, [], ◌∷◌, ◌++◌, append-nil}
use Prim.Native.Nat.{ℕ, ◌+◌, ◌*◌, ◌≤◌, ◌<◌}
use native.Mathlib.Omega.{arith}
use lib.Dec.{ltb}
use lib.ListN.{length, drop, length-append, length-drop}
use lib.Seq.{drop-length, get_or-drop}
use borrow.Author.Tests.{ltb-true, ltb-false}
use Rattle.laws.specs.declared.Position.{Position}
use Rattle.refusal.specs.declared.Refusal.{Refusal}
use Rattle.position_text.specs.Form.{printed}
use Rattle.volume_contents.specs.declared.Flaw.TheVariants.{Many}
use Rattle.volume_contents.specs.declared.Why.TheVariants.{Contents, Board, Room}
use Rattle.volume_contents.proofs.Answered.{count_same, why_same}
use Rattle.std.specs.Prelude.{Ok, Err}
use Rattle.volume_lines.specs.declared.Named.{Named}
use Rattle.volume_lines.specs.declared.Survey.{Survey}
use Rattle.volume_lines.specs.Register.{lines_of, Lines, Starts, Stops, unrefused}
use Rattle.volume_lines.specs.inner.Surveys.{EndsAt, Surveyed}
use Rattle.volume_lines.proofs.Breaks.{Free, free_of, free_no}
use Rattle.volume_make.specs.Volumes.{bound}
use Rattle.volume_make.specs.Making.{Makes, many, refuses, room, written}
use Rattle.volume_make.specs.inner.Filling.{Counted, VolumeIn}
use Rattle.volume_make.proofs.Sizes.{bound_length}
use Rattle.refusal.specs.Refusals.{nothing_refused}

lines_few : (ps : List Position) → length ps ≤ length (lines_of ps)
unfolding lines_of
lines_few [] = omega arith
lines_few (p ∷ ps) = omega (arith, length-append (printed p) (10 ∷ lines_of ps), lines_few ps)

-- there are fewer lines than bytes
pub stops_few : (t : List ℕ) (k : ℕ) → Stops t k → k < length t
stops_few t k s = omega (arith, lines_few s.before, length-append (lines_of s.before) s.rest, ap length s.text, s.count, s.more)

module _ (t : List ℕ) (s : Survey) (w : Surveyed t 0 unrefused s) where
  -- a line out of form, or bytes without a newline behind the last line
  pub stopped : not s.good || ltb s.at (length t) ≡ true → Stops t s.count
  stopped e = record {
    before = w.boards;
    rest = drop s.at t;
    told = w.told;
    text = w.text;
    count = omega (arith, w.number);
    more = omega (arith, length-drop s.at t, more s.good e w.ends);
    none = none s.good w.ends;
  }
    where
      more : (g : Bool) → not g || ltb s.at (length t) ≡ true → EndsAt t s.at g → s.at < length t
      more true e f = ltb-true s.at (length t) e
      more false e f = f.0

      none : (g : Bool) → EndsAt t s.at g → (p : Position) (u : List ℕ) → Starts p u (drop s.at t) → ⊥
      none false f p u h = f.1 p u h
      none true f p u h =
          let z : Free (drop s.at t) =
          free_of (drop s.at t) (λ k j e. f (s.at + k) (omega arith) (omega (arith, length-drop s.at t)) (sym (get_or-drop s.at t k 0) ∙ e)) in
          free_no (printed p) u (rw (← h.text) at z)

  -- the lines are all there is
  pub all_lines : not s.good || ltb s.at (length t) ≡ false → Lines w.boards t
  all_lines e = record { told = w.told; text = sym (append-nil (lines_of w.boards)) ∙ ap (λ (z : List ℕ). lines_of w.boards ++ z) (sym rest) ∙ w.text }
    where
      over : (g : Bool) → not g || ltb s.at (length t) ≡ false → length t ≤ s.at
      over true e = ltb-false s.at (length t) e
      over false e = absurd (false≢true (sym e))

      end : s.at ≡ length t
      end = omega (arith, over s.good e, w.inside)

      rest : drop s.at t ≡ []
      rest = ap (λ (i : ℕ). drop i t) end ∙ drop-length t

  module _ (o : List ℕ) (e : not s.good || ltb s.at (length t) ≡ false) where
    count_is : length w.boards ≡ s.count
    count_is = omega (arith, w.number)

    size : length (bound w.boards) ≡ 6 + 42 * s.count
    size = bound_length w.boards ∙ ap (λ (k : ℕ). 6 + 42 * k) count_is

    pub told_many : 65535 < s.count → Makes t o (Err (Contents Many 65536)) o
    told_many h = many w.boards (all_lines e) (omega (arith, count_is)) refl refl

    pub told_refuses : (v : Refusal) → s.count ≤ 65535 → s.named.verdict ≡ Err v → Makes t o (Err (Board v s.named.line)) o
    told_refuses v h q =
        refuses w.boards (all_lines e) (omega (arith, count_is)) v (ap (λ (x : Named). x.verdict) (sym w.named_is) ∙ q)
        (why_same (ap (λ (x : Named). Board v x.line) w.named_is)) refl

    pub told_room : s.count ≤ 65535 → s.named.verdict ≡ nothing_refused → length o < 6 + 42 * s.count → Makes t o (Err (Room (6 + 42 * s.count))) o
    told_room h q k =
        room w.boards (all_lines e) (omega (arith, count_is)) (ap (λ (x : Named). x.verdict) (sym w.named_is) ∙ q) (omega (arith, size))
        (why_same (ap Room (sym size))) refl

    pub counted : 6 + 42 * s.count ≤ length o → Counted t o s.count
    counted h = record { boards = w.boards; lines = all_lines e; count = count_is; room = h }

    pub told_written : (x : List ℕ) → s.count ≤ 65535 → s.named.verdict ≡ nothing_refused → 6 + 42 * s.count ≤ length o → VolumeIn t o x
        → Makes t o (Ok (6 + 42 * s.count)) x
    told_written x h q k v =
        written w.boards (all_lines e) (omega (arith, count_is)) (ap (λ (y : Named). y.verdict) (sym w.named_is) ∙ q) (omega (arith, size))
        (count_same (sym size)) (v w.boards (all_lines e))
