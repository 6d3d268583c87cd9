-- `words::inner::put_name` meets its contract.
use Rattle.output.proofs.Adding.{adds_as}
use Rattle.words.specs.Words.{bytes_in}
use Rattle.words.proofs.Worded.{name_rest}
use Rattle.words.proofs.inner.put_name.Goals as goal

pub returns-in-1 : goal.returns-in-1
unfolding bytes_in
returns-in-1 c = rw c.in-1.is c.put.ensures

pub returns-in-2 : goal.returns-in-2
unfolding bytes_in
returns-in-2 c = rw c.in-2.is c.put-in-2.ensures

pub returns-in-3 : goal.returns-in-3
unfolding bytes_in
returns-in-3 c = rw c.in-3.is c.put-in-3.ensures

pub returns-in-4 : goal.returns-in-4
unfolding bytes_in
returns-in-4 c = rw c.in-4.is c.put-in-4.ensures

pub returns-in-5 : goal.returns-in-5
unfolding bytes_in
returns-in-5 c = rw c.in-5.is c.put-in-5.ensures

pub returns-in-6 : goal.returns-in-6
unfolding bytes_in
returns-in-6 c = rw c.in-6.is c.put-in-6.ensures

pub returns-in_default : goal.returns-in_default
unfolding bytes_in
returns-in_default c = adds_as _ _ _ _ _ _ c.put-in_default.ensures (name_rest c.args.kind c.in_default.in_default-own.rest)
