-- `screen::inner::shown` meets its contract.
use Rattle.screen.proofs.Screened.{retraction_is}
use Rattle.screen.proofs.inner.shown.Goals as goal

pub returns : goal.returns
returns c = let a = c.args in retraction_is a.s a.cursor a.r _ c.one_more-listed.ensures c.pack.ensures c.contains-is_strict.ensures c.one_more_if.ensures c.put_retraction-size.ensures
