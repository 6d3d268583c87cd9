-- `officers::inner::alone_at` meets its contract.
use mathlib.Core.Path.{◌≡◌}
use lib.Bits.{bit_and}
use Rattle.squares.specs.Members.{compl}
use Rattle.officers.specs.Officers.{quiet_of, alone_at}
use Rattle.retraction_list.proofs.Pushing.{pushed_both}
use Rattle.officers.proofs.inner.alone_at.Goals as goal

pub returns : goal.returns
unfolding alone_at
returns c =
    let a = c.args in
    let q : c.quiet-q.result ≡ quiet_of a.v a.kind (bit_and a.v.combined (compl a.v.checkers)) = c.quiet-q.ensures in
    rw (c.offer.ensures, c.quiet-q2.ensures, c.line-l.ensures, c.offer-one.ensures, c.capture_kind.ensures, q, c.has-p.ensures, c.steps-m.ensures) (pushed_both _ _ _)
