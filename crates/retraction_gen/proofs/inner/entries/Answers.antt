-- `retraction_gen::inner::entries` meets its contract.
use mathlib.Core.Path.{◌≡◌}
use lib.ListN.{get_or, length}
use mir.Syntax.{w64}
use mir.Val.{Fits}
use borrow.Author.Rules.{rules}
use Rattle.retraction_gen.specs.Making.{list_on}
use Rattle.view.proofs.Seen.{ready}
use Rattle.retraction_gen.proofs.Seen.{seen_whole}
use Rattle.retraction_gen.proofs.inner.entries.Goals as goal

pub enumerate-requires : goal.enumerate-requires
enumerate-requires c = let b = c.args.b in rw c.seen-v.ensures (ready _ _ _ _ _ c.requires.0 (seen_whole b (let e : length b.pieces ≡ 6 = search rules in e) (let e : length b.colors ≡ 2 = search rules in e) (λ i. let f : Fits w64 (get_or b.pieces i 0) = search rules in f.fits) (λ i. let f : Fits w64 (get_or b.colors i 0) = search rules in f.fits) c.requires.1))

pub returns : goal.returns
unfolding list_on
returns c = rw c.seen-v.ensures at c.enumerate.ensures
