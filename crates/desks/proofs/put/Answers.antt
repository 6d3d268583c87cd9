-- `desks::put` meets its contract.
use Rattle.std.proofs.Common.{◌≡◌, Err, sym, ◌∙◌, rules}
use Rattle.desks.specs.Desks.{put}
use Rattle.desks.proofs.Standing.{refused, has_places, answered}
use Rattle.desks.proofs.put.Goals as goal

pub returns-in_err-first : goal.returns-in_err-first
returns-in_err-first c =
    let e : c.from_residual.result ≡ Err c.in_err-first.field-0.0 = search rules in
    rw e (refused c.args.table.now c.args.desk (put c.args.b) c.judge-judged.result.verdict c.judge-judged.ensures.number _ (sym c.stand_behind.ensures ∙ c.in_err-first.was))

pub put_at-requires : goal.put_at-requires
put_at-requires c = has_places c.args.table.now c.args.desk (put c.args.b) c.judge-judged.result.verdict c.judge-judged.ensures.number _ _ (sym c.stand_behind.ensures ∙ c.in_ok-first.was)

pub returns : goal.returns
returns c = answered c.args.table.now c.args.desk (put c.args.b) c.judge-judged.result.verdict c.judge-judged.ensures.number _ _ (sym c.stand_behind.ensures ∙ c.in_ok-first.was) c.put_at.ensures
