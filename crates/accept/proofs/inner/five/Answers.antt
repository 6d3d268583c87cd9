-- `accept::inner::five` meets its contract.
use mathlib.Core.Path.{◌∙◌, sym, ◌≡◌}
use lib.ListN.{get_or, length}
use borrow.Author.Tests.{not-true, not-false}
use mir.Val.{Fits}
use mir.Syntax.{w64}
use Rattle.laws.proofs.Cleaning.{clean}
use Rattle.accept.proofs.Numbered.{is_men, is_kings, is_third}
use borrow.Author.Rules.{rules}
use Rattle.accept.proofs.inner.five.Goals as goal

pub returns-then-bad_men : goal.returns-then-bad_men
returns-then-bad_men c = is_men c.args.p (not-true _ (sym c.bad_men.ensures ∙ c.if-bad_men.true))

pub bad_kings-requires : goal.bad_kings-requires
bad_kings-requires c = let p = c.args.p in clean p.pieces p.colors (let e : length p.pieces ≡ 6 = search rules in e) (let e : length p.colors ≡ 2 = search rules in e) (λ i. let f : Fits w64 (get_or p.pieces i 0) = search rules in f.fits) (λ i. let f : Fits w64 (get_or p.colors i 0) = search rules in f.fits) (not-false _ (sym c.bad_men.ensures ∙ c.if-bad_men.false))

pub returns-then-bad_kings : goal.returns-then-bad_kings
returns-then-bad_kings c = is_kings c.args.p (not-false _ (sym c.bad_men.ensures ∙ c.if-bad_men.false)) (not-true _ (sym c.bad_kings.ensures ∙ c.if-bad_kings.true))

pub third-requires : goal.third-requires
third-requires c = let p = c.args.p in clean p.pieces p.colors (let e : length p.pieces ≡ 6 = search rules in e) (let e : length p.colors ≡ 2 = search rules in e) (λ i. let f : Fits w64 (get_or p.pieces i 0) = search rules in f.fits) (λ i. let f : Fits w64 (get_or p.colors i 0) = search rules in f.fits) (not-false _ (sym c.bad_men.ensures ∙ c.if-bad_men.false))

pub returns : goal.returns
returns c = c.third.ensures ∙ is_third c.args.p (not-false _ (sym c.bad_men.ensures ∙ c.if-bad_men.false)) (not-false _ (sym c.bad_kings.ensures ∙ c.if-bad_kings.false))
