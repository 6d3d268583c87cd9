-- What a walk over a set's members has still to give.
use Rattle.std.specs.Prelude.{List, ℕ}
use Rattle.squares.specs.declared.Walk.{Walk}
use Rattle.squares.specs.Members.{members}

abbrev pub to_come : Walk → List ℕ
to_come w = members w.left
