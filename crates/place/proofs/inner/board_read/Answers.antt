-- `place::inner::board_read` meets its contract.
use Rattle.place.specs.Words.{board_read}
use Rattle.place.proofs.inner.board_read.Goals as goal

pub returns : goal.returns
unfolding board_read
returns c = rw (c.terms_of-terms.ensures, c.edition_read-edition.ensures, c.color_read-turn.ensures, c.rights_read-white.ensures, c.rights_read-black.ensures, c.state_read-passant.ensures)
