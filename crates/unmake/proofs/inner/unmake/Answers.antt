-- `unmake::inner::unmake` meets its contract.
use mathlib.Core.Path.{◌∙◌, sym}
use Rattle.laws.specs.Boards.{pos_at}
use Rattle.unmake.specs.Retracted.{unmade_to}
use Rattle.unmake.proofs.Answering.{source_in, target_in}
use Rattle.unmake.proofs.inner.unmake.Goals as goal

pub returns-then-not-source_ok : goal.returns-then-not-source_ok
unfolding unmade_to
returns-then-not-source_ok c = rw (sym c.source_ok.ensures ∙ c.if-not-source_ok.true) c.refuse.ensures

pub returns-then-not-target_ok : goal.returns-then-not-target_ok
unfolding unmade_to
returns-then-not-target_ok c = rw (sym c.source_ok.ensures ∙ c.if-not-source_ok.false, sym c.target_ok.ensures ∙ c.if-not-target_ok.true) c.refuse-then-not-target_ok.ensures

pub returns-then-is_held : goal.returns-then-is_held
unfolding unmade_to
returns-then-is_held c = rw (sym c.source_ok.ensures ∙ c.if-not-source_ok.false, sym c.target_ok.ensures ∙ c.if-not-target_ok.false, sym c.is_held.ensures ∙ c.if-is_held.true) c.refuse-then-is_held.ensures

pub stepped-requires : goal.stepped-requires
stepped-requires c = ((c.requires.0, c.requires.1), (source_in (pos_at c.args.p) c.args.r (sym c.source_ok.ensures ∙ c.if-not-source_ok.false), target_in (pos_at c.args.p) c.args.r (sym c.target_ok.ensures ∙ c.if-not-target_ok.false)))

pub returns : goal.returns
unfolding unmade_to
returns c = rw (sym c.source_ok.ensures ∙ c.if-not-source_ok.false, sym c.target_ok.ensures ∙ c.if-not-target_ok.false, sym c.is_held.ensures ∙ c.if-is_held.false) c.stepped.ensures
