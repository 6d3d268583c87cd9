-- Parts of one width, written one by one behind the first bytes of a slice.
use mathlib.Core.Path.{◌≡◌, sym, ◌∙◌, ap}
use mathlib.Core.List.{List, ◌++◌, append-nil}
use Prim.Native.Nat.{ℕ, ◌+◌, ◌*◌, ◌≤◌}
use native.Mathlib.Omega.{arith}
use lib.ListN.{length, take, drop, length-append}
use lib.Seq.{length-take-le, paste}
use Rattle.men_field.specs.declared.Line.{Line}
use Rattle.men_field.specs.inner.Lines.{Holds}
use Rattle.volume_make.specs.inner.Filling.{joined}
use Rattle.volume_make.proofs.Filling.{Filled, filled_line, filled_front, joined_length, joined_more}

module _ (f : ℕ → List ℕ) (start w : ℕ) where
  -- i parts of w bytes are written from `start` on
  pub record Rows (o : List ℕ) (i : ℕ) (x : List ℕ) : Type 0 where
    pub filled : Filled o (take start o ++ joined f i) x
    pub begin : start ≤ length o

  pub rows_none : (o : List ℕ) → start ≤ length o → Rows o 0 o
  unfolding joined
  rows_none o h = record { filled = rw (append-nil (take start o)) (filled_front o start h); begin = h }

  reach : (o : List ℕ) (i : ℕ) → ((j : ℕ) → length (f j) ≡ w) → start ≤ length o → length (take start o ++ joined f i) ≡ start + w * i
  reach o i e h = omega (arith, length-append (take start o) (joined f i), length-take-le start o h, joined_length f w e i)

  pub rows_more : {o x y : List ℕ} (at i : ℕ) (l : Line) → ((j : ℕ) → length (f j) ≡ w) → Rows o i x → start + w * i + w ≤ length o
      → Holds l (f i) → at ≡ start + w * i → y ≡ paste x at l.bytes l.len → Rows o (i + 1) y
  rows_more {o} {x} {y} at i l e r h k a q =
      record {
        filled = rw (← joined_more f (take start o) i) (filled_line l at r.filled (a ∙ sym (reach o i e r.begin)) k (omega (arith, e i)) q);
        begin = r.begin;
      }

  pub rows_done : {o x : List ℕ} (n i : ℕ) → ((j : ℕ) → length (f j) ≡ w) → i ≡ n → Rows o i x → x ≡ take start o ++ joined f n ++ drop (start + w * n) o
  rows_done {o} {x} n i e z r =
      r.filled.holds ∙ ap (λ (k : ℕ). (take start o ++ joined f i) ++ drop k o) (reach o i e r.begin) ∙ ap (λ (k : ℕ). (take start o ++ joined f k) ++ drop (start + w * k) o) z
