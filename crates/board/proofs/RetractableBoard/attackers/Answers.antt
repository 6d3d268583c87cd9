-- `board::RetractableBoard::attackers` meets its contract.
use mathlib.Core.Path.{◌≡◌, ◌∙◌, ap, sym, subst}
use native.Mathlib.Omega.{arith}
use lib.ListN.{get_or, length}
use mir.Syntax.{w64}
use mir.Val.{Fits}
use borrow.Author.Rules.{rules}
use borrow.Author.Tests.{ltb-true}
use Rattle.laws.specs.Attacks.{attackers_of}
use Rattle.laws.specs.Boards.{Clean}
use Rattle.refusal.specs.Refusals.{verdict_number, Verdict}
use Rattle.board.specs.declared.RetractableBoard.{RetractableBoard}
use Rattle.board.specs.Gate.{men_on}
use Rattle.board.specs.Said.{attackers_says}
use Rattle.board.specs.Answers.{ask_tests}
use Rattle.board.proofs.Saying.{tells_by}
use Rattle.board.proofs.Passing.{ask_number, ask_accepted, gate_sound}
use Rattle.board.proofs.RetractableBoard.attackers.Goals as goal
use Rattle.std.specs.Prelude.{Ok}

pub attackers_on-men-requires : goal.attackers_on-men-requires
attackers_on-men-requires c = let b = c.args.self in let sq = c.args.sq in let e : c.kept-self.result ≡ b = c.kept-self.ensures ∙ rw c.in-Ok.is in let k = ask_accepted b sq (sym c.ask_gate-v.ensures ∙ c.in-Ok.is) in (subst (λ (x : RetractableBoard). Clean x.pieces x.colors) (sym e) (gate_sound b (let e : length b.pieces ≡ 6 = search rules in e) (let e : length b.colors ≡ 2 = search rules in e) (λ i. let f : Fits w64 (get_or b.pieces i 0) = search rules in f.fits) (λ i. let f : Fits w64 (get_or b.colors i 0) = search rules in f.fits) k.0).clean, omega (arith, ltb-true sq 64 k.1))

pub returns-in-Err : goal.returns-in-Err
returns-in-Err c = let a = c.args in let b = a.self in tells_by c.ask_gate-v.result (ask_tests b a.sq) b (ap (λ (v : Verdict). verdict_number v) c.ask_gate-v.ensures ∙ ask_number b a.sq) (attackers_says (Ok (attackers_of (men_on b) a.color a.sq))) (rw c.in-Err.is) c.kept-self.ensures

pub returns-in-Ok : goal.returns-in-Ok
returns-in-Ok c = let a = c.args in let b = a.self in let e : c.kept-self.result ≡ b = c.kept-self.ensures ∙ rw c.in-Ok.is in tells_by c.ask_gate-v.result (ask_tests b a.sq) b (ap (λ (v : Verdict). verdict_number v) c.ask_gate-v.ensures ∙ ask_number b a.sq) (attackers_says (Ok (attackers_of (men_on b) a.color a.sq))) (rw (c.in-Ok.is, c.attackers_on-men.ensures) (ap (λ (x : RetractableBoard). attackers_says (Ok (attackers_of (men_on x) a.color a.sq))) e)) c.kept-self.ensures
