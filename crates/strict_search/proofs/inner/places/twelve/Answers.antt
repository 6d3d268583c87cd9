-- `strict_search::inner::places::twelve` meets its contract.
use Rattle.strict_search.proofs.Twelve.{men_lt, twelve_is}
use Rattle.strict_search.proofs.inner.places.twelve.Goals as goal

pub doubled-men-requires : goal.doubled-men-requires
doubled-men-requires c = men_lt c.args.w.men

pub returns : goal.returns
returns c = rw (c.choose-plain.ensures, c.choose-taking.ensures, c.choose-marked.ensures, c.choose-both.ensures, c.has.ensures, c.has-2.ensures, c.has-3.ensures, c.has-4.ensures, c.doubled-men.ensures) (twelve_is c.args.w c.args.q)
