-- `laws::inner::castling::rook_to` meets its contract.
use Rattle.laws.proofs.inner.castling.rook_to.Goals as goal

pub returns-in-Short : goal.returns-in-Short
returns-in-Short c = rw c.in-Short.is c.home_square.ensures

pub returns-in-Long : goal.returns-in-Long
returns-in-Long c = rw c.in-Long.is c.home_square-in-Long.ensures
