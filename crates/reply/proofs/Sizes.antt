-- A report of two lists that fit their slots fits the buffer.
use mathlib.Core.Bool.{Bool, true, false, cond}
use mathlib.Core.List.{List, [], ◌∷◌, ◌++◌}
use Prim.Native.Nat.{ℕ, suc, ◌+◌, ◌*◌, ◌≤◌}
use native.Mathlib.Omega.{arith}
use lib.ListN.{length, length-append}
use Rattle.squares.specs.Members.{concat}
use Rattle.square_names.specs.Names.{squares_text}
use Rattle.rows.specs.Rows.{decimal_of, row_of, star, is_in, listed_row, strict_row, rows_of, listed_word, strict_word, head_of, checkers_line, report_of}
use Rattle.rows.proofs.Decimals.{few_digits}
use Rattle.rows.proofs.Rows.{listed_size}
use Rattle.square_names.proofs.Squares.{squares_short}

four_digits : (x : ℕ) → x ≤ 8192 → length (decimal_of x) ≤ 4
four_digits x h = few_digits 3 (suc x) x (omega arith)

strict_size : (listed l : List ℕ) → length (concat (strict_row listed) l) ≤ 11 * length l
unfolding concat
strict_size listed [] = omega arith
strict_size listed (x ∷ l) = omega (arith, length-append (strict_row listed x) (concat (strict_row listed) l), row (is_in x listed), strict_size listed l)
  where
    row : (t : Bool) → length (cond t [] (row_of x star)) ≤ 11
    row true = omega arith
    row false = omega arith

pub report_short : (checkers : ℕ) (listed strict : List ℕ) → length listed ≤ 8192 → length strict ≤ 8192 → length (report_of checkers listed strict) ≤ 180440
unfolding report_of
report_short checkers listed strict h k =
    omega (
      arith,
      four_digits (length listed) h,
      four_digits (length strict) k,
      listed_size strict listed,
      strict_size listed strict,
      squares_short checkers,
      length-append (head_of (length listed) (length strict) ++ checkers_line checkers) (rows_of listed strict),
      length-append (head_of (length listed) (length strict)) (checkers_line checkers),
      length-append (squares_text checkers) (10 ∷ []),
      length-append (concat (listed_row strict) listed) (concat (strict_row listed) strict),
      length-append (listed_word ++ decimal_of (length listed) ++ strict_word ++ decimal_of (length strict)) (10 ∷ []),
      length-append (listed_word ++ decimal_of (length listed) ++ strict_word) (decimal_of (length strict)),
      length-append (listed_word ++ decimal_of (length listed)) strict_word,
      length-append listed_word (decimal_of (length listed)),
    )
