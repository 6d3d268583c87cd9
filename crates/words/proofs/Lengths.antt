-- How long the words are.
use mathlib.Core.Path.{◌≡◌, refl, ap}
use mathlib.Core.Bool.{Bool, true, false, cond}
use mathlib.Core.List.{List, [], ◌++◌}
use Prim.Native.Nat.{ℕ, zero, suc, ◌+◌, ◌^◌, ◌≤◌, ◌<◌}
use Prim.Native.String.{String, len, slice}
use native.Mathlib.Omega.{arith}
use lib.Dec.{ltb}
use lib.ListN.{length, length-append}
use Rattle.geometry.specs.declared.Color.{Color}
use Rattle.geometry.specs.declared.Color.TheVariants.{White, Black}
use Rattle.laws.specs.declared.ChessRetraction.{ChessRetraction}
use Rattle.rows.specs.Rows.{decimal_of}
use Rattle.rows.proofs.Decimals.{number_short}
use Rattle.words.specs.Words.{bytes_in, bytes, side_name, name_of, moved_kind, way_text, passes, castles, deed_text, becoming_text, verdict_text, subject_text, words_of}

pub length_bytes : (n : ℕ) (s : String) → length (bytes_in n s) ≡ n
unfolding bytes_in
length_bytes zero s = refl
length_bytes (suc n) s = ap suc (length_bytes n (slice s 1 (len s)))

pub counted_short : (t : List ℕ) (x : ℕ) → x < 2 ^ 64 → length (t ++ decimal_of x) ≤ length t + 20
counted_short t x h = omega (arith, length-append t (decimal_of x), number_short x h)

pub side_short : (c : Color) → length (side_name c) ≤ 5
unfolding bytes_in
side_short White = omega arith
side_short Black = omega arith

pub name_short : (k : ℕ) → length (name_of k) ≤ 6
unfolding bytes_in
name_short zero = omega arith
name_short (suc zero) = omega arith
name_short (suc (suc zero)) = omega arith
name_short (suc (suc (suc zero))) = omega arith
name_short (suc (suc (suc (suc zero)))) = omega arith
name_short (suc (suc (suc (suc (suc zero))))) = omega arith
name_short (suc (suc (suc (suc (suc (suc zero)))))) = omega arith
name_short (suc (suc (suc (suc (suc (suc (suc k))))))) = omega arith

pub subject_short : (n : ℕ) (c : Color) (k : ℕ) → n < 2 ^ 64 → length (subject_text n c k) ≤ 36
subject_short n c k h = simp (length-append, length_bytes) (omega (arith, number_short n h, side_short c, name_short k))

pub way_short : (r : ChessRetraction) → length (way_text r) ≤ 14
way_short r = simp (length-append, length_bytes) (omega arith)

pub deed_short : (k : ℕ) (r : ChessRetraction) → length (deed_text k r) ≤ 19
deed_short k r = by (ltb 0 r.uncaptured) (passes k r) (castles k r)
  where
    by : (t p q : Bool)
        → length (cond t (bytes ", taking a " ++ name_of r.uncaptured) (cond p (bytes ", taking en passant") (cond q (bytes ", castling") []))) ≤ 19
    by true p q = simp (length-append, length_bytes) (omega (arith, name_short r.uncaptured))
    by false true q = simp length_bytes (omega arith)
    by false false true = simp length_bytes (omega arith)
    by false false false = omega arith

becoming_short : (k : ℕ) (r : ChessRetraction) → length (becoming_text k r) ≤ 19
becoming_short k r = by r.unpromotion
  where
    by : (t : Bool) → length (cond t (bytes ", becoming a " ++ name_of k) []) ≤ 19
    by true = simp (length-append, length_bytes) (omega (arith, name_short k))
    by false = omega arith

verdict_short : (strict : Bool) → length (verdict_text strict) ≤ 13
verdict_short true = simp length_bytes (omega arith)
verdict_short false = simp length_bytes (omega arith)

pub words_short : (n : ℕ) (c : Color) (k : ℕ) (r : ChessRetraction) (strict : Bool) → n < 2 ^ 64 → length (words_of n c k r strict) ≤ 101
unfolding words_of
words_short n c k r strict h =
    let s = subject_short n c (moved_kind k r) h in
    let w = way_short r in
    let d = deed_short k r in
    let b = becoming_short k r in
    let v = verdict_short strict in
    let t = subject_text n c (moved_kind k r) ++ way_text r in
    omega (
      arith,
      length-append (t ++ deed_text k r ++ becoming_text k r) (verdict_text strict),
      length-append (t ++ deed_text k r) (becoming_text k r),
      length-append t (deed_text k r),
      length-append (subject_text n c (moved_kind k r)) (way_text r),
    )
