-- `board::RetractableBoard::piece_on` meets its contract.
use mathlib.Core.Path.{◌≡◌, ◌∙◌, ap, sym}
use lib.ListN.{get_or, length}
use mir.Syntax.{w64}
use mir.Val.{Fits}
use borrow.Author.Rules.{rules}
use borrow.Author.Tests.{ltb-true}
use Rattle.refusal.specs.Refusals.{verdict_number, Verdict}
use Rattle.board.specs.declared.RetractableBoard.{RetractableBoard}
use Rattle.board.specs.Gate.{men_on}
use Rattle.board.specs.Said.{piece_says}
use Rattle.board.specs.Answers.{ask_tests, kind_on}
use Rattle.board.specs.inner.Gates.{kind_read}
use Rattle.board.proofs.Saying.{tells_by}
use Rattle.board.proofs.Passing.{gate_sound, ask_number, ask_accepted, kind_read_lem}
use Rattle.std.specs.Prelude.{Option, Ok}
use Rattle.laws.specs.declared.Piece.{Piece}
use Rattle.board.proofs.RetractableBoard.piece_on.Goals as goal

pub returns-in-Err : goal.returns-in-Err
returns-in-Err c = let b = c.args.self in let sq = c.args.sq in tells_by c.ask_gate-v.result (ask_tests b sq) b (ap (λ (v : Verdict). verdict_number v) c.ask_gate-v.ensures ∙ ask_number b sq) (piece_says (Ok (kind_on (men_on b sq)))) (rw c.in-Err.is) c.kept-self.ensures

pub returns-in-Ok : goal.returns-in-Ok
returns-in-Ok c = let b = c.args.self in let sq = c.args.sq in let e : c.kept-self.result ≡ b = c.kept-self.ensures ∙ rw c.in-Ok.is in let k = ask_accepted b sq (sym c.ask_gate-v.ensures ∙ c.in-Ok.is) in tells_by c.ask_gate-v.result (ask_tests b sq) b (ap (λ (v : Verdict). verdict_number v) c.ask_gate-v.ensures ∙ ask_number b sq) (piece_says (Ok (kind_on (men_on b sq)))) (rw (c.in-Ok.is, c.kind_on.ensures) (ap (λ (x : RetractableBoard). piece_says (Ok (kind_read x sq))) e ∙ ap (λ (o : Option Piece). piece_says (Ok o)) (kind_read_lem b sq (gate_sound b (let e : length b.pieces ≡ 6 = search rules in e) (let e : length b.colors ≡ 2 = search rules in e) (λ i. let f : Fits w64 (get_or b.pieces i 0) = search rules in f.fits) (λ i. let f : Fits w64 (get_or b.colors i 0) = search rules in f.fits) k.0).clean k.0 (ltb-true sq 64 k.1)))) c.kept-self.ensures
