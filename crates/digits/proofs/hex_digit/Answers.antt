-- `digits::hex_digit` meets its contract.
use mathlib.Core.Path.{refl}
use native.Mathlib.Omega.{arith}
use borrow.Author.Tests.{le-leb, lt-leb}
use Rattle.squares.specs.Tests.{◌and◌}
use Rattle.digits.specs.Digits.{hex_digit}
use Rattle.digits.proofs.hex_digit.Goals as goal

pub returns-in-48-to-57 : goal.returns-in-48-to-57
unfolding hex_digit ◌and◌
returns-in-48-to-57 c = rw (le-leb 48 c.args.b (omega arith), le-leb c.args.b 57 (omega arith)) refl

pub returns-in-97-to-102 : goal.returns-in-97-to-102
unfolding hex_digit ◌and◌
returns-in-97-to-102 c = rw (le-leb 48 c.args.b (omega arith), lt-leb c.args.b 57 (omega arith), le-leb 97 c.args.b (omega arith), le-leb c.args.b 102 (omega arith)) (omega arith)

pub returns-in_default : goal.returns-in_default
unfolding hex_digit ◌and◌
returns-in_default c = rw (lt-leb 48 c.args.b (omega arith), lt-leb 97 c.args.b (omega arith)) refl

pub returns-in_default-2 : goal.returns-in_default-2
unfolding hex_digit ◌and◌
returns-in_default-2 c = rw (le-leb 48 c.args.b (omega arith), lt-leb c.args.b 57 (omega arith), lt-leb 97 c.args.b (omega arith)) refl

pub returns-in_default-3 : goal.returns-in_default-3
unfolding hex_digit ◌and◌
returns-in_default-3 c = rw (le-leb 48 c.args.b (omega arith), lt-leb c.args.b 57 (omega arith), le-leb 97 c.args.b (omega arith), lt-leb c.args.b 102 (omega arith)) refl
