-- `place::inner::words_of` meets its contract.
use Rattle.place.specs.Words.{words_of}
use Rattle.place.proofs.inner.words_of.Goals as goal

pub returns : goal.returns
unfolding words_of
returns c = rw (c.mark_word-mw.ensures, c.color_word-tw.ensures, c.rights_word-ww.ensures, c.rights_word-bw.ensures, c.state_word-sw.ensures)
