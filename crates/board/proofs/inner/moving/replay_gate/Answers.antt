-- `board::inner::moving::replay_gate` meets its contract.
use mathlib.Core.Path.{◌≡◌, ◌∙◌, sym, ap}
use lib.ListN.{get_or, length}
use mir.Val.{Fits}
use mir.Syntax.{w64}
use Rattle.accept.specs.Verdicts.{five_of}
use Rattle.board.specs.Gate.{position_on, stale_after}
use Rattle.board.specs.inner.Gates.{replay_gate}
use Rattle.board.proofs.Passing.{five_sound}
use borrow.Author.Rules.{rules}
use Rattle.board.proofs.inner.moving.replay_gate.Goals as goal
use Rattle.refusal.specs.Refusals.{Verdict}

pub stale_after-requires : goal.stale_after-requires
stale_after-requires c = let b = c.args.b in (c.requires, λ h. five_sound (position_on b) (let e : length b.pieces ≡ 6 = search rules in e) (let e : length b.colors ≡ 2 = search rules in e) (λ i. let f : Fits w64 (get_or b.pieces i 0) = search rules in f.fits) (λ i. let f : Fits w64 (get_or b.colors i 0) = search rules in f.fits) (sym (c.five-v.ensures ∙ ap five_of c.position_of-p.ensures) ∙ h))

pub returns : goal.returns
unfolding replay_gate
returns c = c.stale_after.ensures ∙ ap (λ (v : Verdict). stale_after v c.args.b) (c.five-v.ensures ∙ ap five_of c.position_of-p.ensures)
