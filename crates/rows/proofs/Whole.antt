-- The report: its size, the room at each of its parts, and the parts put together.
use mathlib.Core.Path.{◌≡◌, sym, ◌∙◌, ap, ap₂}
use mathlib.Core.Bool.{true, false}
use mathlib.Core.List.{List, ◌++◌, append_assoc}
use Prim.Native.Nat.{ℕ, ◌^◌, ◌+◌, ◌*◌, ◌≤◌, ◌<◌, min}
use native.Mathlib.Omega.{arith}
use lib.Dec.{leb}
use lib.ListN.{length, take, length-append}
use borrow.Author.Tests.{lt-leb, leb-true, leb-false}
use Rattle.io.specs.Counts.{IsPrefixLen}
use Rattle.squares.specs.Members.{concat}
use Rattle.output.specs.Appending.{Puts, Adds}
use Rattle.output.proofs.Added.{puts_none, added_len_lem, added_length, added_puts}
use Rattle.rows.specs.Rows.{listed_row, strict_row, rows_of, head_of, checkers_line, report_of}
use Rattle.output.proofs.Adding.{adds_as, adds_then}
use Rattle.rows.proofs.Rows.{listed_size}
use Rattle.std.specs.Prelude.{Err, Ok}

-- h has the lines above the rows, g the rows of the strict retractions, and `more` is their number
module _ (checkers : ℕ) (o listed strict h : List ℕ) (len n more : ℕ) (counts : IsPrefixLen n h)
    (head : take n h ≡ head_of (length listed) (length strict) ++ checkers_line checkers) (g : ℕ → List ℕ) (stars : g ≡ strict_row listed)
    (rows : 11 * more ≡ length (concat g strict)) where
  size : length (report_of checkers listed strict) ≡ n + 11 * length listed + 11 * more
  unfolding report_of
  size =
      omega (
        arith,
        counts.1,
        ap length head,
        listed_size strict listed,
        ap (λ (k : ℕ → List ℕ). length (concat k strict)) stars,
        length-append (head_of (length listed) (length strict) ++ checkers_line checkers) (rows_of listed strict),
        length-append (concat (listed_row strict) listed) (concat (strict_row listed) strict),
      )

  -- m is the report's size as far as a usize counts it, which is more than o has
  module _ (m : ℕ) (counted : m ≡ min (n + 11 * length listed + 11 * more) 18446744073709551615) (slice : length o < 2 ^ 63) where
    pub no_room : leb (len + m) (length o) ≡ false → Puts o len (report_of checkers listed strict) (Err m) o
    no_room e =
        puts_none o (report_of checkers listed strict) len
        (lt-leb (len + length (report_of checkers listed strict)) (length o) (omega (arith, size, leb-false (len + m) (length o) e))) m
        (counted ∙ ap (λ (i : ℕ). min i 18446744073709551615) (sym size))

    -- f has the rows of the listed retractions
    module _ (e : leb (len + m) (length o) ≡ true) (f : ℕ → List ℕ) (signs : f ≡ listed_row strict) (x : List ℕ) (a : ℕ) (p : Adds o len (take n h) a x) where
      room : len + n + 11 * length listed + 11 * more ≤ length o
      room = omega (arith, size, leb-true (len + m) (length o) e)

      rows_size : length (concat f listed) ≡ 11 * length listed
      rows_size = ap (λ (k : ℕ → List ℕ). length (concat k listed)) signs ∙ listed_size strict listed

      first : len + length (take n h) ≤ length o
      first = omega (arith, room, counts.1)

      pub listed_room : a + length (concat f listed) ≤ length x
      listed_room = omega (arith, room, counts.1, rows_size, added_len_lem o (take n h) x len a p first, added_length o (take n h) x len a p first)

      module _ (y : List ℕ) (b : ℕ) (q : Adds x a (concat f listed) b y) where
        pub strict_room : b + length (concat g strict) ≤ length y
        strict_room =
            omega (
              arith,
              room,
              counts.1,
              rows_size,
              added_len_lem o (take n h) x len a p first,
              added_length o (take n h) x len a p first,
              added_len_lem x (concat f listed) y a b q listed_room,
              added_length x (concat f listed) y a b q listed_room,
            )

        pub report_put : (z : List ℕ) (r : ℕ) → Adds y b (concat g strict) r z → Puts o len (report_of checkers listed strict) (Ok r) z
        unfolding report_of
        report_put z r w =
            let l = concat f listed in
            let s = concat g strict in
            let t = take n h in
            let two : Adds o len (t ++ l) b y = adds_then o x y t l len a b (omega (arith, room, counts.1, rows_size, length-append t l)) p q in
            added_puts o (report_of checkers listed strict) z len r
            (adds_as o z (t ++ l ++ s) (report_of checkers listed strict) len r
            (adds_then o y z (t ++ l) s len b r (omega (arith, room, counts.1, rows_size, length-append t l, length-append (t ++ l) s)) two w)
            (append_assoc t l s ∙ ap₂ ◌++◌ head (ap₂ (λ (i j : ℕ → List ℕ). concat i listed ++ concat j strict) signs stars)))
            (omega (arith, room, size))
