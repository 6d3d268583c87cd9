-- `words::inner::put_counted` meets its contract.
use native.Mathlib.Omega.{arith}
use Rattle.output.proofs.Adding.{adds_then}
use Rattle.words.proofs.Lengths.{counted_short}
use Rattle.words.proofs.inner.put_counted.Goals as goal

pub returns : goal.returns
returns c =
    let a = c.args in
    adds_then _ _ _ a.words.now _ _ _ _ (omega (arith, c.requires, counted_short a.words.now a.x c.ranges.x.fits)) c.put-a.ensures c.put_number.ensures
