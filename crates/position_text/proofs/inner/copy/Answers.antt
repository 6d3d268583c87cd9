-- `position_text::inner::copy` meets its contract.
use mathlib.Core.Path.{◌≡◌}
use Prim.Native.Nat.{◌≤◌}
use native.Mathlib.Omega.{arith}
use lib.ListN.{length}
use borrow.Author.Rules.{rules}
use Rattle.position_text.proofs.Bytes.{room, all}
use Rattle.position_text.proofs.inner.copy.Goals as goal

pub returns-then-have-n : goal.returns-then-have-n
returns-then-have-n c =
    let l : c.args.line.len ≤ length c.args.line.bytes = (let e : length c.args.line.bytes ≡ 81 = search rules in omega arith) in
    room c.args.line.bytes c.args.out.now c.args.line.len c.written-w.result l c.written-w.ensures c.if-have-n.true c.fill.ensures

pub returns : goal.returns
returns c =
    let l : c.args.line.len ≤ length c.args.line.bytes = (let e : length c.args.line.bytes ≡ 81 = search rules in omega arith) in
    all c.args.line.bytes c.args.out.now c.args.line.len c.written-w.result l c.written-w.ensures c.if-have-n.false c.fill.ensures
