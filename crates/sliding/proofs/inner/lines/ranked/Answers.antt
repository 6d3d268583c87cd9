-- `sliding::inner::lines::ranked` meets its contract.
use Rattle.sliding.proofs.Diagonals.{ranked_down, ranked_up, ranked_off}
use Rattle.sliding.proofs.inner.lines.ranked.Goals as goal

pub returns-then-up-down : goal.returns-then-up-down
returns-then-up-down c = ranked_down c.args.s c.args.up c.args.down c.if-up-down.true

pub returns-then-up-down-lt8 : goal.returns-then-up-down-lt8
returns-then-up-down-lt8 c = ranked_up c.args.s c.args.up c.args.down c.if-up-down.false

pub returns-else-up-down-lt8 : goal.returns-else-up-down-lt8
returns-else-up-down-lt8 c = ranked_off c.args.s c.args.up c.args.down c.if-up-down.false c.if-up-down-lt8.false
