-- `volume_body::inner::body_of` meets its contract.
use native.Mathlib.Omega.{arith}
use Rattle.volume_body.proofs.Writing.{body_held, pairs_len}
use Rattle.volume_body.proofs.inner.body_of.Goals as goal

pub push-head-requires : goal.push-head-requires
push-head-requires c = omega (arith, pairs_len _ _ c.put_pairs-men.ensures)

pub push-requires : goal.push-requires
push-requires c = omega (arith, pairs_len _ _ c.put_pairs-men.ensures, c.push-head.ensures.len)

pub returns : goal.returns
returns c = body_held _ _ _ _ _ _ _ c.put_pairs-men.ensures c.head_byte.ensures c.push-head.ensures c.state_byte.ensures c.push.ensures
