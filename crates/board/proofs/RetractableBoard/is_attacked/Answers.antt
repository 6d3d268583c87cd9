-- `board::RetractableBoard::is_attacked` meets its contract.
use mathlib.Core.Path.{◌∙◌, ap}
use mathlib.Core.Bool.{Bool}
use Rattle.laws.specs.Attacks.{attacks_from, attackers_of}
use Rattle.refusal.specs.Said.{behind}
use Rattle.board.specs.Gate.{men_on}
use Rattle.board.specs.Said.{attacked_says}
use Rattle.board.specs.Answers.{ask_tests}
use Rattle.squares.proofs.Every.{some_test}
use Rattle.board.proofs.Saying.{told_behind}
use Rattle.board.proofs.RetractableBoard.is_attacked.Goals as goal
use Rattle.std.specs.Prelude.{Ok}

pub returns : goal.returns
unfolding attackers_of
returns c =
    let a = c.args in
    let k = c.attackers-z.ensures in
    record {
      said = ap attacked_says c.told.ensures ∙ told_behind (ask_tests a.self a.sq) (Ok (attackers_of (men_on a.self) a.color a.sq)) c.attackers-z.result.answer k.said
          ∙ ap (λ (t : Bool). behind (ask_tests a.self a.sq) (attacked_says (Ok t))) (some_test (attacks_from (men_on a.self) a.color a.sq));
      board = k.board;
    }
