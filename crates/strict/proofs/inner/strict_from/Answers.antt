-- `strict::inner::strict_from` meets its contract.
use mathlib.Core.Path.{sym, ap, ◌∙◌}
use native.Mathlib.Omega.{arith}
use Rattle.laws.specs.declared.ChessRetraction.{ChessRetraction}
use Rattle.strict.proofs.Onward.{found_at, found_none, found_end, found_refused}
use Rattle.refusal.proofs.Saying.{handed_on}
use Rattle.strict.proofs.inner.strict_from.Goals as goal
use Rattle.std.specs.Prelude.{Ok, Some}

pub returns-then-start-ge-PLACES : goal.returns-then-start-ge-PLACES
returns-then-start-ge-PLACES c = found_none _ (sym c.gate.ensures ∙ c.in_ok-gate.was) _ c.if-start-ge-PLACES.true

pub today-requires : goal.today-requires
today-requires c = sym c.gate.ensures ∙ c.in_ok-gate.was

pub next_from-place-requires : goal.next_from-place-requires
next_from-place-requires c = (c.requires, c.today.ensures.1, omega (arith, c.if-start-ge-PLACES.false))

pub returns : goal.returns
returns c = found_at _ (sym c.gate.ensures ∙ c.in_ok-gate.was) _ _ _ (rw c.today.ensures.0 at c.next_from-place.ensures) c.if-place-ge-PLACES.false (ap (λ (q : ChessRetraction). Ok (Some (record { place = c.next_from-place.result; retraction = q }))) c.candidate.ensures)

pub returns-in_err-gate : goal.returns-in_err-gate
returns-in_err-gate c = rw (handed_on _ _ c.from_residual.ensures.1) (found_refused _ _ _ (sym c.gate.ensures ∙ c.in_err-gate.was))

pub returns-then-place-ge-PLACES : goal.returns-then-place-ge-PLACES
returns-then-place-ge-PLACES c = found_end _ (sym c.gate.ensures ∙ c.in_ok-gate.was) _ _ (rw c.today.ensures.0 at c.next_from-place.ensures) c.if-place-ge-PLACES.true
