-- `sliding::inner::get_rook_moves` meets its contract.
use Rattle.sliding.proofs.Seeing.{rook_is}
use Rattle.sliding.proofs.inner.get_rook_moves.Goals as goal

pub returns : goal.returns
returns c =
    rw (c.sideways.ensures, c.upright.ensures, c.get_rank.ensures, c.get_file.ensures) (rook_is c.args.occ c.args.sq c.requires)
