-- `rows::inner::put_head` meets its contract.
use mathlib.Core.Path.{◌≡◌}
use lib.ListN.{length}
use borrow.Author.Rules.{rules}
use Rattle.output.proofs.Added.{used_adds}
use Rattle.rows.proofs.Decimals.{head_shown}
use Rattle.rows.proofs.inner.put_head.Goals as goal

pub returns : goal.returns
returns c = head_shown c.args.out.now _ _ _ _ _ c.args.a c.args.b _ _ _ _ _ _ _ (let e : length c.args.out.now ≡ 256 = search rules in e) c.ranges.a.fits c.ranges.b.fits (used_adds _ _ _ _ _ c.put_bytes.ensures _ c.unwrap_or-listed.ensures) c.put_decimal.ensures c.unwrap_or-first.ensures (used_adds _ _ _ _ _ c.put_bytes-2.ensures _ c.unwrap_or-strict.ensures) c.put_decimal-2.ensures c.unwrap_or-second.ensures (used_adds _ _ _ _ _ c.put_bytes-3.ensures _ c.unwrap_or.ensures)
