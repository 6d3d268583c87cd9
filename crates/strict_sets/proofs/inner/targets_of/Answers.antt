-- `strict_sets::inner::targets_of` meets its contract.
use mathlib.Core.Path.{◌∙◌, sym, ap, subst}
use Rattle.geometry.specs.declared.Color.{Color}
use Rattle.squares.specs.Squares.{set_of}
use Rattle.laws.specs.Men.{man_of}
use Rattle.laws.specs.Boards.{pos_at}
use Rattle.strict_sets.specs.declared.Targets.{Targets}
use Rattle.strict_sets.specs.inner.Parts.{special}
use Rattle.strict_sets.specs.inner.Sets.{Exact}
use Rattle.strict_sets.proofs.Placing.{none_told, named_told, goes_there}
use Rattle.strict_sets.proofs.inner.targets_of.Goals as goal

pub may_go-requires : goal.may_go-requires
may_go-requires c = c.man_at-x.ensures.1

pub returns-then-not-may_go : goal.returns-then-not-may_go
returns-then-not-may_go c = subst (λ (w : Targets). Exact (pos_at c.args.p) c.args.s w) (sym c.only_plain.ensures) (none_told c.args.p c.args.s c.man_at-x.ensures c.may_go.ensures c.if-not-may_go.true)

pub special-asked-requires : goal.special-asked-requires
special-asked-requires c = (c.man_at-x.ensures.1, c.requires.2)

pub tested-told-requires : goal.tested-told-requires
tested-told-requires c = (c.requires.0, c.requires.1)

pub returns-then-not-is_open : goal.returns-then-not-is_open
returns-then-not-is_open c = subst (λ (w : Targets). Exact (pos_at c.args.p) c.args.s w) (sym c.only_plain-then-not-is_open.ensures) (named_told c.args.p c.args.s c.man_at-x.result (goes_there c.args.p c.args.s c.man_at-x.ensures c.may_go.ensures c.requires.1 c.requires.2 c.if-not-may_go.false) (c.special-asked.ensures ∙ ap (λ (d : Color). set_of (special d (man_of c.man_at-x.result) c.args.s)) c.other.ensures) c.tested-told.ensures (sym c.is_open.ensures ∙ c.if-not-is_open.true))

pub with_asked-requires : goal.with_asked-requires
with_asked-requires c = (c.requires.0, goes_there c.args.p c.args.s c.man_at-x.ensures c.may_go.ensures c.requires.1 c.requires.2 c.if-not-may_go.false, sym c.is_open.ensures ∙ c.if-not-is_open.false, c.special-asked.ensures ∙ ap (λ (d : Color). set_of (special d (man_of c.man_at-x.result) c.args.s)) c.other.ensures, c.tested-told.ensures)
