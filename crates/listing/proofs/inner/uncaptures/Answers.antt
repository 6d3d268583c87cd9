-- `listing::inner::uncaptures` meets its contract.
use mathlib.Core.Path.{sym}
use Rattle.listing.proofs.Allowed.{uncaptures_are}
use Rattle.listing.proofs.inner.uncaptures.Goals as goal

pub returns : goal.returns
returns c = rw (c.of_kind.ensures, c.at-none.ensures.0, c.at.ensures.0, c.at-2.ensures.0, c.at-3.ensures.0, c.at-4.ensures.0, c.at-5.ensures.0) (sym (uncaptures_are _ _))
