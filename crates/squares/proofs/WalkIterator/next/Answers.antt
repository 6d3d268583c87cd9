-- A walk gives the lowest member and goes on without it.
use native.Mathlib.Omega.{arith}
use mathlib.Core.Path.{◌≡◌, ◌∙◌, ap}
use mathlib.Core.List.{[], ◌∷◌}
use Rattle.std.proofs.Common.{rules}
use Rattle.squares.specs.Members.{members}
use Rattle.squares.proofs.Members.{members_none, members_next, least_of}
use Rattle.squares.proofs.WalkIterator.next.Goals as goal

pub returns-then-left-eq0-clause-steps : goal.returns-then-left-eq0-clause-steps
returns-then-left-eq0-clause-steps c = let e : members c.args.self.now.left ≡ [] = ap members c.if-left-eq0.true ∙ members_none in (e, e)

pub returns-clause-steps : goal.returns-clause-steps
returns-clause-steps c =
    rw c.without-self.ensures
    (members_next c.args.self.now.left c.lowest-k.result (omega (arith, c.if-left-eq0.false)) (least_of (omega arith) c.lowest-k.ensures))

pub returns-clause-goes : goal.returns-clause-goes
returns-clause-goes c =
    let e : members c.args.self.now.left ≡ c.lowest-k.result ∷ members c.without-self.result =
    rw c.without-self.ensures
    (members_next c.args.self.now.left c.lowest-k.result (omega (arith, c.if-left-eq0.false)) (least_of (omega arith) c.lowest-k.ensures))
    in search rules
