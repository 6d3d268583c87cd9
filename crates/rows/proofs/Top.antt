-- The lines above the rows.
use mathlib.Core.Path.{◌≡◌, sym, ◌∙◌, ap}
use mathlib.Core.List.{List, [], ◌∷◌, ◌++◌}
use Prim.Native.Nat.{ℕ, ◌^◌, ◌+◌, ◌≤◌, ◌<◌}
use native.Mathlib.Omega.{arith}
use lib.ListN.{length, take, length-append}
use lib.Seq.{length-take-le}
use Rattle.io.specs.Counts.{IsPrefixLen}
use Rattle.output.specs.Appending.{Adds}
use Rattle.square_names.specs.Names.{squares_text}
use Rattle.rows.specs.Rows.{head_of, checkers_line}
use Rattle.output.proofs.Added.{added_len_lem, added_bytes, added_length}
use Rattle.output.proofs.Adding.{adds_then}
use Rattle.square_names.proofs.Squares.{squares_short}
use Rattle.rows.proofs.Decimals.{head_short}

-- the checkers' line behind the head, in a buffer of 256
module _ (o : List ℕ) (a b n : ℕ) (l : length o ≡ 256) (ha : a < 2 ^ 64) (hb : b < 2 ^ 64) (counts : IsPrefixLen n o) (head : take n o ≡ head_of a b) where
  short : n ≤ 56
  short = omega (arith, counts.1, ap length head, head_short a b ha hb)

  pub squares_room : n + 191 ≤ length o
  squares_room = omega (arith, short)

  pub top_shown : (checkers m r : ℕ) (x y : List ℕ) → Adds o n (squares_text checkers) m x → Adds x m (10 ∷ []) r y
      → IsPrefixLen r y × (take r y ≡ head_of a b ++ checkers_line checkers)
  top_shown checkers m r x y p q =
      let t = checkers_line checkers in
      let h : n + length t ≤ length o = omega (arith, short, squares_short checkers, length-append (squares_text checkers) (10 ∷ [])) in
      let both = adds_then o x y (squares_text checkers) (10 ∷ []) n m r h p q in
      let w : r ≤ length y = omega (arith, added_len_lem o t y n r both h, added_length o t y n r both h) in
      ((w, sym (length-take-le r y w)), added_bytes o t y n r both h ∙ ap (λ (s : List ℕ). s ++ t) head)
