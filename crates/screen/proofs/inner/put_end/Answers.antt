-- `screen::inner::put_end` meets its contract.
use native.Mathlib.Omega.{arith}
use borrow.Author.Rules.{rules}
use Rattle.words.specs.Words.{bytes_in, bytes}
use Rattle.words.proofs.Chained.{ends}
use Rattle.words.proofs.Lengths.{counted_short}
use Rattle.screen.proofs.Screened.{end_shown}
use Rattle.screen.proofs.inner.put_end.Goals as goal

pub put_counted-b-requires : goal.put_counted-b-requires
unfolding bytes_in
put_counted-b-requires c = omega (arith, ends 30 c.put_counted-a.ensures (counted_short (bytes "\nThe end: ") _ c.ranges.listed.fits))

pub put_counted-c-requires : goal.put_counted-c-requires
unfolding bytes_in
put_counted-c-requires c =
    omega (arith, ends 30 c.put_counted-a.ensures (counted_short (bytes "\nThe end: ") _ c.ranges.listed.fits), ends 29 c.put_counted-b.ensures (counted_short (bytes " listed, ") _ c.ranges.strict.fits))

pub returns : goal.returns
unfolding bytes_in
returns c =
    let a = c.args in
    let f = c.ranges in
    end_shown _ (search rules) a.listed a.strict a.all f.listed.fits f.strict.fits f.all.fits c.put_counted-a.ensures c.put_counted-b.ensures c.put_counted-c.ensures c.put.ensures
