-- `history_reply::inner::put_plies` meets its contract.
use native.Mathlib.Omega.{arith}
use lib.Dec.{leb}
use Rattle.history_reply.proofs.Shown.{behind_ply, behind_if, plies_added}
use Rattle.history_reply.proofs.inner.put_plies.Goals as goal

pub put_if-second-requires : goal.put_if-second-requires
put_if-second-requires c = behind_ply _ _ _ _ c.args.h.first 9 (omega (arith, c.requires.0)) c.put_ply-first.ensures

pub put_if-third-requires : goal.put_if-third-requires
put_if-third-requires c = behind_if _ _ _ _ (leb 2 c.args.depth) c.args.h.second 9 (behind_ply _ _ _ _ c.args.h.first 18 (omega (arith, c.requires.0)) c.put_ply-first.ensures) c.put_if-second.ensures

pub put_if-requires : goal.put_if-requires
put_if-requires c = behind_if _ _ _ _ (leb 3 c.args.depth) c.args.h.third 9 (behind_if _ _ _ _ (leb 2 c.args.depth) c.args.h.second 18 (behind_ply _ _ _ _ c.args.h.first 27 (omega (arith, c.requires.0)) c.put_ply-first.ensures) c.put_if-second.ensures) c.put_if-third.ensures

pub returns : goal.returns
returns c = let a = c.args in plies_added a.out.now _ _ _ _ a.len _ _ _ _ a.depth a.h c.requires.0 c.requires.1 c.requires.2 c.put_ply-first.ensures c.put_if-second.ensures c.put_if-third.ensures c.put_if.ensures
