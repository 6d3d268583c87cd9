-- `castling::inner::uncastled` meets its contract.
use mathlib.Core.Path.{◌∙◌, ap}
use borrow.Author.Rules.{rules}
use Rattle.std.specs.Prelude.{Ok}
use Rattle.laws.specs.Boards.{pos_at}
use Rattle.castling.specs.declared.KingsWay.{KingsWay}
use Rattle.castling.specs.Castlings.{way_before, castling_says}
use Rattle.castling.proofs.Castlings.{uncastle_said, earlier_clean, earlier_way}
use Rattle.castling.proofs.inner.uncastled.Goals as goal

pub kings_way-requires : goal.kings_way-requires
kings_way-requires c = let k = earlier_clean c.args.p c.args.side c.other-c.ensures c.taken_back-r.ensures c.unmake-u.ensures c.king_after-v.ensures c.in-Ok.is in search rules

pub returns-in-Err : goal.returns-in-Err
returns-in-Err c =
    let p = c.args.p in
    uncastle_said p c.args.side c.other-c.ensures c.taken_back-r.ensures c.unmake-u.ensures c.king_after-v.ensures (castling_says (Ok (way_before (pos_at p) c.args.side))) c.in-Err.is

pub returns-in-Ok : goal.returns-in-Ok
returns-in-Ok c =
    let p = c.args.p in
    let d = c.args.side in
    ap (λ (w : KingsWay). castling_says (Ok w)) (c.kings_way.ensures ∙ earlier_way p d c.other-c.ensures c.taken_back-r.ensures c.unmake-u.ensures c.king_after-v.ensures c.in-Ok.is)
    ∙ uncastle_said p d c.other-c.ensures c.taken_back-r.ensures c.unmake-u.ensures c.king_after-v.ensures (castling_says (Ok (way_before (pos_at p) d))) c.in-Ok.is
