-- `board::inner::state_gate` meets its contract.
use mathlib.Core.Path.{◌∙◌, sym, ◌≡◌, ap, subst}
use mathlib.Core.Bool.{not}
use lib.ListN.{get_or, length}
use mir.Syntax.{w64}
use mir.Val.{Fits}
use Rattle.laws.specs.declared.Position.{Position}
use Rattle.laws.specs.Acceptance.{state_ok}
use Rattle.laws.specs.Boards.{men_in, Clean}
use Rattle.board.proofs.Passing.{gate_sound}
use borrow.Author.Rules.{rules}
use Rattle.refusal.proofs.Saying.{handed_on}
use Rattle.board.proofs.inner.state_gate.Goals as goal

pub bad_passant-requires : goal.bad_passant-requires
bad_passant-requires c = let b = c.args.b in subst (λ (z : Position). Clean z.pieces z.colors) (sym c.position_of.ensures) (gate_sound b (let e : length b.pieces ≡ 6 = search rules in e) (let e : length b.colors ≡ 2 = search rules in e) (λ i. let f : Fits w64 (get_or b.pieces i 0) = search rules in f.fits) (λ i. let f : Fits w64 (get_or b.colors i 0) = search rules in f.fits) (sym c.gate.ensures ∙ c.in_ok-gate.was)).clean

pub returns-then-bad_passant : goal.returns-then-bad_passant
returns-then-bad_passant c = rw (sym c.gate.ensures ∙ c.in_ok-gate.was, sym (c.bad_passant.ensures ∙ ap (λ (z : Position). not (state_ok z.terms.edition (men_in z) z.turn c.args.passant)) c.position_of.ensures) ∙ c.if-bad_passant.true)

pub returns-in_err-gate : goal.returns-in_err-gate
returns-in_err-gate c = handed_on _ _ c.from_residual.ensures.1 ∙ rw (sym c.gate.ensures ∙ c.in_err-gate.was)

pub returns : goal.returns
returns c = rw (sym c.gate.ensures ∙ c.in_ok-gate.was, sym (c.bad_passant.ensures ∙ ap (λ (z : Position). not (state_ok z.terms.edition (men_in z) z.turn c.args.passant)) c.position_of.ensures) ∙ c.if-bad_passant.false)
