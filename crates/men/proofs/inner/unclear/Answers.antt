-- `men::inner::unclear` meets its contract.
use lib.ListN.{get_or}
use borrow.Author.Rules.{rules}
use mir.Val.{Fits}
use mir.Syntax.{w64}
use Rattle.men.proofs.Having.{unclear_is}
use Rattle.men.proofs.inner.unclear.Goals as goal

pub returns : goal.returns
returns c = unclear_is c.args.pieces c.args.colors (λ i. let f : Fits w64 (get_or c.args.pieces i 0) = search rules in f.fits) (λ i. let f : Fits w64 (get_or c.args.colors i 0) = search rules in f.fits)
