-- `officers::inner::moves` meets its contract.
use borrow.Author.Tests.{eq-eqb, ne_eqb}
use Rattle.officers.specs.Officers.{moves_of}
use Rattle.officers.proofs.Queens.{queen_is}
use Rattle.officers.proofs.inner.moves.Goals as goal

pub returns-then-kind-eq1 : goal.returns-then-kind-eq1
unfolding moves_of
returns-then-kind-eq1 c = rw (eq-eqb _ _ c.if-kind-eq1.true) c.get_knight_moves.ensures

pub returns-then-kind-eq2 : goal.returns-then-kind-eq2
unfolding moves_of
returns-then-kind-eq2 c = rw (ne_eqb _ _ c.if-kind-eq1.false, eq-eqb _ _ c.if-kind-eq2.true) c.get_bishop_moves.ensures

pub returns-then-kind-eq3 : goal.returns-then-kind-eq3
unfolding moves_of
returns-then-kind-eq3 c = rw (ne_eqb _ _ c.if-kind-eq1.false, ne_eqb _ _ c.if-kind-eq2.false, eq-eqb _ _ c.if-kind-eq3.true) c.get_rook_moves.ensures

pub returns : goal.returns
unfolding moves_of
returns c = rw (ne_eqb _ _ c.if-kind-eq1.false, ne_eqb _ _ c.if-kind-eq2.false, ne_eqb _ _ c.if-kind-eq3.false, c.get_queen_moves.ensures) (queen_is c.args.sq c.args.occ c.requires)
