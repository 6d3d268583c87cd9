-- `desks::inner::stand` meets its contract.
use mathlib.Core.Path.{◌≡◌, sym, ◌∙◌}
use borrow.Author.Tests.{lt-ltb, le-ltb}
use native.Mathlib.Omega.{arith}
use Rattle.desks.specs.inner.Within.{stand_of}
use Rattle.desks.proofs.Room.{fit_room}
use Rattle.desks.proofs.inner.stand.Goals as goal

pub returns-then-desk-gt1 : goal.returns-then-desk-gt1
unfolding stand_of
returns-then-desk-gt1 c = rw (lt-ltb _ _ c.if-desk-gt1.true)

pub returns-then-not-has_fit : goal.returns-then-not-has_fit
unfolding stand_of
returns-then-not-has_fit c = rw (le-ltb _ _ c.if-desk-gt1.false, ← c.has_fit.ensures, c.if-not-has_fit.true)

pub bounds-table-0 : goal.bounds-table-0
bounds-table-0 c = omega (arith, (fit_room c.args.table.now (sym c.has_fit.ensures ∙ c.if-not-has_fit.false)).0)

pub returns-then-desk-eq0 : goal.returns-then-desk-eq0
unfolding stand_of
returns-then-desk-eq0 c = rw (le-ltb _ _ c.if-desk-gt1.false, ← c.has_fit.ensures, c.if-not-has_fit.false, c.if-desk-eq0.true)

pub bounds-table-1 : goal.bounds-table-1
bounds-table-1 c = omega (arith, (fit_room c.args.table.now (sym c.has_fit.ensures ∙ c.if-not-has_fit.false)).0)

pub returns : goal.returns
unfolding stand_of
returns c = let one : c.args.desk ≡ 1 = omega (arith, c.if-desk-eq0.false) in rw (le-ltb _ _ c.if-desk-gt1.false, ← c.has_fit.ensures, c.if-not-has_fit.false, one)
