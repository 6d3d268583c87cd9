-- `strict_test::inner::earlier_ok` meets its contract.
use mathlib.Core.Path.{sym, ◌∙◌}
use Rattle.strict_test.proofs.Earlier.{miscounts, no_agreement, not_safe, then_calm}
use Rattle.strict_test.proofs.inner.earlier_ok.Goals as goal

pub returns-then-not-counts : goal.returns-then-not-counts
returns-then-not-counts c = miscounts _ _ _ (sym c.counts.ensures ∙ c.if-not-counts.true)

pub returns-then-not-agrees : goal.returns-then-not-agrees
returns-then-not-agrees c = no_agreement _ _ _ c.man_at-x.ensures.0 c.state_after-after.ensures (sym c.counts.ensures ∙ c.if-not-counts.false) (sym c.agrees.ensures ∙ c.if-not-agrees.true)

pub returns-then-not-is_safe : goal.returns-then-not-is_safe
returns-then-not-is_safe c = not_safe _ _ _ c.man_at-x.ensures.0 c.state_after-after.ensures c.way_of-w.result c.way_of-w.ensures (sym c.counts.ensures ∙ c.if-not-counts.false) (sym c.agrees.ensures ∙ c.if-not-agrees.false) (sym c.is_safe.ensures ∙ c.if-not-is_safe.true)

pub returns : goal.returns
returns c = then_calm _ _ _ c.man_at-x.ensures.0 c.state_after-after.ensures c.way_of-w.result c.way_of-w.ensures (sym c.counts.ensures ∙ c.if-not-counts.false) (sym c.agrees.ensures ∙ c.if-not-agrees.false) (sym c.is_safe.ensures ∙ c.if-not-is_safe.false) c.bad_check.ensures
