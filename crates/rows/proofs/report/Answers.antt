-- `rows::report` meets its contract.
use mathlib.Core.Path.{sym, ◌∙◌}
use Prim.Native.Nat.{◌<◌, ◌^◌}
use native.Mathlib.Omega.{arith}
use lib.ListN.{length}
use Rattle.output.proofs.Added.{used_adds}
use Rattle.rows.proofs.Marking.{marks_none, listed_same, strict_same}
use Rattle.rows.proofs.Whole.{no_room, listed_room, strict_room, report_put}
use Rattle.rows.proofs.report.Goals as goal

pub mark_all-requires : goal.mark_all-requires
mark_all-requires c = marks_none

pub returns-then-not-has_room : goal.returns-then-not-has_room
returns-then-not-has_room c = no_room c.args.checkers c.args.out.now c.args.listed.now c.args.strict.now _ c.args.len _ _ c.put_top-n.ensures.0 c.put_top-n.ensures.1 _ (strict_same c.mark_all.ensures) c.count_strict_by-more.ensures _ c.size-size.ensures (let e : length c.args.out.now < 2 ^ 63 = omega (arith, c.well_formed) in e) (sym c.has_room.ensures ∙ c.if-not-has_room.true)

pub mark_all-requires-2 : goal.mark_all-requires-2
mark_all-requires-2 c = marks_none

pub put_listed_by-b-requires : goal.put_listed_by-b-requires
put_listed_by-b-requires c = listed_room c.args.checkers c.args.out.now c.args.listed.now c.args.strict.now _ c.args.len _ _ c.put_top-n.ensures.0 c.put_top-n.ensures.1 _ (strict_same c.mark_all.ensures) c.count_strict_by-more.ensures _ c.size-size.ensures (let e : length c.args.out.now < 2 ^ 63 = omega (arith, c.well_formed) in e) (sym c.has_room.ensures ∙ c.if-not-has_room.false) _ (listed_same c.mark_all-2.ensures) _ _ (used_adds _ _ _ _ _ c.put_bytes.ensures _ c.unwrap_or-a.ensures)

pub put_strict_by-requires : goal.put_strict_by-requires
put_strict_by-requires c = strict_room c.args.checkers c.args.out.now c.args.listed.now c.args.strict.now _ c.args.len _ _ c.put_top-n.ensures.0 c.put_top-n.ensures.1 _ (strict_same c.mark_all.ensures) c.count_strict_by-more.ensures _ c.size-size.ensures (let e : length c.args.out.now < 2 ^ 63 = omega (arith, c.well_formed) in e) (sym c.has_room.ensures ∙ c.if-not-has_room.false) _ (listed_same c.mark_all-2.ensures) _ _ (used_adds _ _ _ _ _ c.put_bytes.ensures _ c.unwrap_or-a.ensures) _ _ c.put_listed_by-b.ensures

pub returns : goal.returns
returns c = report_put c.args.checkers c.args.out.now c.args.listed.now c.args.strict.now _ c.args.len _ _ c.put_top-n.ensures.0 c.put_top-n.ensures.1 _ (strict_same c.mark_all.ensures) c.count_strict_by-more.ensures _ c.size-size.ensures (let e : length c.args.out.now < 2 ^ 63 = omega (arith, c.well_formed) in e) (sym c.has_room.ensures ∙ c.if-not-has_room.false) _ (listed_same c.mark_all-2.ensures) _ _ (used_adds _ _ _ _ _ c.put_bytes.ensures _ c.unwrap_or-a.ensures) _ _ c.put_listed_by-b.ensures _ _ c.put_strict_by.ensures
