-- `solution_reply::inner::put_verdict` meets its contract.
use mathlib.Core.Path.{◌≡◌}
use native.Mathlib.Omega.{arith}
use lib.ListN.{length}
use Rattle.output.proofs.Added.{used_adds}
use Rattle.reply.proofs.Shown.{shown}
use Rattle.solution_reply.proofs.Shown.{verdict_shown}
use Rattle.std.specs.Prelude.{Ok}
use Rattle.solution.specs.declared.Checked.TheVariants.{Complete}
use borrow.Author.Rules.{rules}
use Rattle.solution_reply.proofs.inner.put_verdict.Goals as goal

pub returns-in-Ok-Complete : goal.returns-in-Ok-Complete
returns-in-Ok-Complete c =
    let e : c.args.told ≡ Ok Complete = search rules in
    verdict_shown e (shown c.args.out.now _ _ _ (used_adds _ _ _ _ _ c.put_bytes.ensures _ c.unwrap_or.ensures) (let l : length c.args.out.now ≡ 196608 = search rules in omega arith))
