-- `accept::inner::judge` meets its contract.
use mathlib.Core.Path.{◌∙◌, sym, ◌≡◌}
use lib.ListN.{get_or, length}
use Rattle.accept.specs.Verdicts.{judged_of}
use mir.Val.{Fits}
use mir.Syntax.{w64}
use Rattle.laws.proofs.Cleaning.{clean}
use Rattle.accept.proofs.Numbered.{five_passes}
use borrow.Author.Rules.{rules}
use Rattle.refusal.proofs.Saying.{handed_on}
use Rattle.accept.proofs.inner.judge.Goals as goal

pub bad_check-requires : goal.bad_check-requires
bad_check-requires c = let p = c.args.p in let w = five_passes p (sym c.five.ensures ∙ c.in_ok-five.was) in (clean p.pieces p.colors (let e : length p.pieces ≡ 6 = search rules in e) (let e : length p.colors ≡ 2 = search rules in e) (λ i. let f : Fits w64 (get_or p.pieces i 0) = search rules in f.fits) (λ i. let f : Fits w64 (get_or p.colors i 0) = search rules in f.fits) w.men_pass, w.passes.kings)

pub returns-then-bad_check : goal.returns-then-bad_check
unfolding judged_of
returns-then-bad_check c = rw (sym c.five.ensures ∙ c.in_ok-five.was, sym c.bad_check.ensures ∙ c.if-bad_check.true)

pub returns-in_err-five : goal.returns-in_err-five
unfolding judged_of
returns-in_err-five c = handed_on _ _ c.from_residual.ensures.1 ∙ rw (sym c.five.ensures ∙ c.in_err-five.was)

pub returns : goal.returns
unfolding judged_of
returns c = rw (sym c.five.ensures ∙ c.in_ok-five.was, sym c.bad_check.ensures ∙ c.if-bad_check.false)
