-- `diagram::inner::put_ranks` meets its contract.
use Rattle.std.proofs.Common.{◌≡◌, ◌+◌, ◌-◌, arith}
use Rattle.squares.specs.Members.{concat}
use Rattle.output.proofs.Adding.{adds_nothing}
use Rattle.diagram.specs.Diagrams.{rank_text}
use Rattle.diagram.proofs.Drawn.{eight_next, eight_all, all_ranks_length, ranks_most}
use Rattle.diagram.proofs.inner.put_ranks.Goals as goal

pub loop-rank-init : goal.loop-rank-init
unfolding concat
loop-rank-init c = adds_nothing c.args.out.now c.args.len

pub put_rank-at-requires : goal.put_rank-at-requires
put_rank-at-requires c = (omega arith, omega (arith, ranks_most c.args.d (8 - c.loop-rank.rank) (omega arith) c.loop-rank.invariant))

pub loop-rank-preserved : goal.loop-rank-preserved
loop-rank-preserved c =
    let d = c.args.d in
    let l = c.loop-rank in
    let next : 8 - (l.rank - 1) ≡ 8 - l.rank + 1 = omega arith in
    let this : 7 - (8 - l.rank) ≡ l.rank - 1 = omega arith in
    rw next (eight_next (λ j. rank_text d (7 - j)) (8 - l.rank) l.invariant (omega (arith, all_ranks_length d)) (omega arith) (rw this c.put_rank-at.ensures))

pub returns : goal.returns
returns c = eight_all (λ j. rank_text c.args.d (7 - j)) (8 - c.loop-rank.rank) c.loop-rank.invariant (omega arith)
