-- `unmake::inner::back::unmade` meets its contract.
use mathlib.Core.Path.{refl}
use Rattle.unmake.proofs.Backs.{unmade_is}
use Rattle.unmake.proofs.inner.back.unmade.Goals as goal

pub returns : goal.returns
returns c = unmade_is c.args.p c.args.r c.args.w c.args.c c.requires _ c.before-m.ensures c.other-d.ensures c.man_number-y.ensures.0 c.rights_before-white.ensures c.rights_before-black.ensures c.state_before-state.ensures refl
