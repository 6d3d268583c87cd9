use mathlib.Core.Path.{◌≡◌}
use Prim.Native.Nat.{◌-◌}
use native.Mathlib.Omega.{arith}
use lib.ListN.{length}
use borrow.Author.Rules.{rules}
use Rattle.volume_make.proofs.Filling.{filled_length}
use Rattle.volume_read.proofs.Lining.{lining_none, lining_room, lining_more, lining_done}
use Rattle.volume_read.proofs.inner.put_lines.Goals as goal

pub loop-i-init : goal.loop-i-init
loop-i-init c = lining_none c.args.v.now c.args.out.now c.args.n c.requires

pub put-requires : goal.put-requires
put-requires c = let z : length c.loop-i.out ≡ length c.args.out.now = filled_length c.loop-i.invariant.filled in (c.line_of-l.ensures.1, omega (arith, lining_room c.args.v.now c.args.out.now c.args.n c.loop-i.i c.loop-i.to c.loop-i.out c.loop-i.invariant c.loop-i-test.true c.board_at-raw.result c.board_at-raw.ensures, c.line_of-l.ensures.0.len))

pub put-requires-in-loop-i : goal.put-requires-in-loop-i
put-requires-in-loop-i c = let z : length c.loop-i.out ≡ length c.args.out.now = filled_length c.loop-i.invariant.filled in let e : length c.put.new.out ≡ length c.loop-i.out = search rules in (omega (arith, c.newline.ensures.len), omega (arith, c.newline.ensures.len, lining_room c.args.v.now c.args.out.now c.args.n c.loop-i.i c.loop-i.to c.loop-i.out c.loop-i.invariant c.loop-i-test.true c.board_at-raw.result c.board_at-raw.ensures, c.line_of-l.ensures.0.len))

pub loop-i-preserved : goal.loop-i-preserved
loop-i-preserved c = lining_more c.args.v.now c.args.out.now c.args.n c.loop-i.i c.loop-i.to c.loop-i.out c.loop-i.invariant c.loop-i-test.true c.board_at-raw.result c.board_at-raw.ensures _ _ c.line_of-l.result c.newline.result c.line_of-l.ensures.0 c.newline.ensures c.put.ensures c.put-in-loop-i.ensures

pub returns : goal.returns
returns c = lining_done c.args.v.now c.args.out.now c.args.n c.loop-i.i c.loop-i.to c.loop-i.out c.loop-i-test.false c.loop-i.invariant
