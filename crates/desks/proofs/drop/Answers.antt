-- `desks::drop` meets its contract.
use Rattle.std.proofs.Common.{◌≡◌, Err, refl, sym, ◌∙◌, rules}
use Rattle.refusal.specs.Said.{first_failing}
use Rattle.desks.specs.Desks.{drop}
use Rattle.desks.proofs.Standing.{refused, has_places, answered}
use Rattle.desks.proofs.drop.Goals as goal
use Rattle.refusal.specs.Refusals.{nothing_refused}

pub returns-in_err-first : goal.returns-in_err-first
unfolding first_failing
returns-in_err-first c =
    let e : c.from_residual.result ≡ Err c.in_err-first.field-0.0 = search rules in
    rw e (refused c.args.table.now c.args.desk (drop c.args.number) nothing_refused refl _ (sym c.stand.ensures ∙ c.in_err-first.was))

pub drop_at-requires : goal.drop_at-requires
unfolding first_failing
drop_at-requires c = has_places c.args.table.now c.args.desk (drop c.args.number) nothing_refused refl _ _ (sym c.stand.ensures ∙ c.in_ok-first.was)

pub returns : goal.returns
unfolding first_failing
returns c = answered c.args.table.now c.args.desk (drop c.args.number) nothing_refused refl _ _ (sym c.stand.ensures ∙ c.in_ok-first.was) c.drop_at.ensures
