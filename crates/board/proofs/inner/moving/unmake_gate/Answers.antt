-- `board::inner::moving::unmake_gate` meets its contract.
use mathlib.Core.Path.{◌∙◌, ◌≡◌, sym, ap, subst}
use lib.ListN.{get_or, length}
use mir.Syntax.{w64}
use mir.Val.{Fits}
use Rattle.laws.specs.Boards.{Clean, pos_at}
use Rattle.laws.specs.declared.Position.{Position}
use Rattle.position.specs.declared.Positioned.{Positioned}
use Rattle.unmake.specs.Retracted.{unmade_to}
use Rattle.board.proofs.Passing.{gate_sound}
use borrow.Author.Rules.{rules}
use Rattle.board.proofs.inner.moving.unmake_gate.Goals as goal

pub unmake-u-requires : goal.unmake-u-requires
unmake-u-requires c = let b = c.args.b in (c.requires, subst (λ (z : Position). Clean z.pieces z.colors) (sym c.position_of-p.ensures) (gate_sound b (let e : length b.pieces ≡ 6 = search rules in e) (let e : length b.colors ≡ 2 = search rules in e) (λ i. let f : Fits w64 (get_or b.pieces i 0) = search rules in f.fits) (λ i. let f : Fits w64 (get_or b.colors i 0) = search rules in f.fits) (sym c.gate-v.ensures ∙ c.in-Ok.is)).clean)

pub returns-in-Err : goal.returns-in-Err
returns-in-Err c = rw (sym c.gate-v.ensures ∙ c.in-Err.is)

pub returns-in-Ok : goal.returns-in-Ok
returns-in-Ok c = ap (λ (u : Positioned). u.verdict) (c.unmake-u.ensures ∙ ap (λ (z : Position). unmade_to (pos_at z) c.args.r) c.position_of-p.ensures) ∙ rw (sym c.gate-v.ensures ∙ c.in-Ok.is)
