-- `men::inner::man_at` meets its contract.
use mathlib.Core.Path.{◌∙◌}
use lib.ListN.{get_or}
use borrow.Author.Rules.{rules}
use mir.Val.{Fits}
use mir.Syntax.{w64}
use Rattle.men.proofs.Having.{man_at_is}
use Rattle.men.proofs.inner.man_at.Goals as goal

pub man_by-requires : goal.man_by-requires
man_by-requires c = c.kind_by-kind.ensures.1

pub returns : goal.returns
returns c = (c.man_by.ensures.0 ∙ rw (c.kind_by-kind.ensures.0, c.has.ensures, c.has-2.ensures, c.has-3.ensures, c.has-4.ensures, c.has-5.ensures, c.has-6.ensures, c.has-7.ensures) (man_at_is c.args.pieces c.args.colors c.args.sq (λ i. let f : Fits w64 (get_or c.args.colors i 0) = search rules in f.fits)), c.man_by.ensures.1)
