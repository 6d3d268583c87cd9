-- `screen::inner::press` meets its contract.
use Rattle.screen.proofs.Screened.{yields_range, press_shown}
use Rattle.screen.proofs.inner.press.Goals as goal

pub shown-requires : goal.shown-requires
shown-requires c = let a = c.args in (c.requires, yields_range a.s _ c.pressed-p.ensures _ c.in-Some.is)

pub returns-in-Some : goal.returns-in-Some
returns-in-Some c = let a = c.args in press_shown a.s _ c.pressed-p.ensures _ _ _ _ _ c.in-Some.is c.shown.ensures

pub returns-in-None : goal.returns-in-None
returns-in-None c = let a = c.args in press_shown a.s _ c.pressed-p.ensures _ _ _ _ _ c.in-None.is c.ended.ensures
