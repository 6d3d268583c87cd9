-- What the entries answer, from what was found.
use mathlib.Core.Path.{refl, ap}
use mathlib.Core.Bool.{Bool, true, false}
use mathlib.Core.List.{List}
use Prim.Native.Nat.{ℕ, ◌≤◌, ◌<◌}
use native.Mathlib.Omega.{arith}
use lib.ListN.{length}
use Rattle.laws.specs.declared.Position.{Position}
use Rattle.volume_contents.specs.declared.Why.{Why}
use Rattle.volume_contents.specs.declared.Why.TheVariants.{Room}
use Rattle.std.specs.Prelude.{Ok, Err}
use Rattle.volume_contents.proofs.Answered.{count_same, why_same}
use Rattle.volume_read.specs.Reading.{Judged, by_table, by_row, Whole, Finds, spoilt, Unmakes, narrow, lined}
use Rattle.volume_read.specs.inner.Scanning.{flawed, TableOf, Sized, Scanned, Fitted, LinesIn}
use Rattle.volume_read.proofs.Tables.{sized}

module _ (back : Bool) (v : List ℕ) where
  pub told_table : (why : Why) → TableOf back v (Err why) → Judged back v why
  told_table _ (flawed w k s) = by_table w k s

  module _ (n : ℕ) (t : TableOf back v (Ok n)) where
    pub rows_sized : Sized v n
    rows_sized = sized back v n t.0 t.1

    pub told_row : (why : Why) → Scanned v n (Err why) → Judged back v why
    told_row why f = by_row n f.list why t.1 f.boards f.inside f.fails

    pub told_whole : (size : ℕ) → Scanned v n (Ok size) → (ps : List Position) × Whole back v n ps
    told_whole size g = (g.list, record { table = t.1; boards = g.boards; count = g.count })

    pub fitted : (o : List ℕ) (size : ℕ) → Scanned v n (Ok size) → size ≤ length o → Fitted v o n
    fitted o size g h = record { sized = rows_sized; list = g.list; boards = g.boards; count = g.count; room = omega (arith, g.size_is) }

-- a problem is looked for in a table that is refused
pub told_spoilt : (v : List ℕ) (k : ℕ) (why : Why) → TableOf false v (Err why) → Finds v k (Err why)
told_spoilt v k _ (flawed w i s) = spoilt w i s refl

-- back to lines
module _ (v o : List ℕ) (n : ℕ) (t : TableOf true v (Ok n)) (size : ℕ) (g : Scanned v n (Ok size)) where
  whole : Whole true v n g.list
  whole = record { table = t.1; boards = g.boards; count = g.count }

  pub told_narrow : length o < size → Unmakes v o (Err (Room size)) o
  told_narrow h = narrow n g.list whole (omega (arith, g.size_is)) (why_same (ap Room g.size_is)) refl

  pub told_lined : (x : List ℕ) → size ≤ length o → LinesIn v n o x → Unmakes v o (Ok size) x
  told_lined x h l = lined n g.list whole (omega (arith, g.size_is)) (count_same g.size_is) (l g.list g.boards g.count)
