-- `board::inner::gate` meets its contract.
use mathlib.Core.Path.{◌≡◌, ◌∙◌, sym, ap}
use lib.ListN.{get_or, length}
use mir.Val.{Fits}
use mir.Syntax.{w64}
use Rattle.accept.specs.Verdicts.{judged_of}
use Rattle.board.specs.Gate.{position_on, stale_after, gate_of}
use Rattle.board.proofs.Passing.{judged_sound}
use borrow.Author.Rules.{rules}
use Rattle.board.proofs.inner.gate.Goals as goal
use Rattle.refusal.specs.Refusals.{Verdict}

pub stale_after-requires : goal.stale_after-requires
stale_after-requires c = let b = c.args.b in (c.requires, λ h. judged_sound (position_on b) (let e : length b.pieces ≡ 6 = search rules in e) (let e : length b.colors ≡ 2 = search rules in e) (λ i. let f : Fits w64 (get_or b.pieces i 0) = search rules in f.fits) (λ i. let f : Fits w64 (get_or b.colors i 0) = search rules in f.fits) (sym (c.judge.ensures ∙ ap judged_of c.position_of.ensures) ∙ h))

pub returns : goal.returns
unfolding gate_of
returns c = c.stale_after.ensures ∙ ap (λ (v : Verdict). stale_after v c.args.b) (c.judge.ensures ∙ ap judged_of c.position_of.ensures)
