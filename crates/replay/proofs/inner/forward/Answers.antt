-- `replay::inner::forward` meets its contract.
use Rattle.replay.proofs.Forwards.{fits_is, forward_is}
use Rattle.replay.proofs.inner.forward.Goals as goal

pub after-m-requires : goal.after-m-requires
after-m-requires c = ((c.requires.sound, c.requires.target_in, c.requires.source_in), (c.arrives-z.ensures.1, fits_is c.args.p c.args.r c.args.k c.requires c.man_at-x.ensures.0 c.way_of-w.ensures))

pub returns : goal.returns
returns c = forward_is c.args.p c.args.r c.args.k c.requires c.man_at-x.ensures.0 c.way_of-w.ensures c.arrives-z.result c.arrives-z.ensures.0 c.after-m.ensures c.other-turn.ensures c.kept_rights-white.ensures c.kept_rights-black.ensures c.state_after-state.ensures
