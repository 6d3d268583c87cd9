-- `diagram::inner::put_squares` meets its contract.
use Rattle.std.proofs.Common.{◌+◌, ◌*◌, arith}
use Rattle.squares.specs.Members.{concat}
use Rattle.output.proofs.Adding.{adds_nothing}
use Rattle.diagram.specs.Diagrams.{square_text}
use Rattle.diagram.proofs.Drawn.{eight_next, eight_all, squares_length}
use Rattle.diagram.proofs.inner.put_squares.Goals as goal

pub loop-file-init : goal.loop-file-init
unfolding concat
loop-file-init c = adds_nothing c.args.out.now c.args.len

pub loop-file-preserved : goal.loop-file-preserved
loop-file-preserved c =
    let a = c.args in
    let l = c.loop-file in
    eight_next (λ f. square_text a.d (8 * a.rank + f)) l.file l.invariant (omega (arith, squares_length a.d a.rank)) c.loop-file-test.true c.put_square-at.ensures

pub returns : goal.returns
returns c =
    let a = c.args in
    eight_all (λ f. square_text a.d (8 * a.rank + f)) c.loop-file.file c.loop-file.invariant (omega arith)
