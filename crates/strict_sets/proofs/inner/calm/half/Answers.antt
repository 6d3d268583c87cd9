-- `strict_sets::inner::calm::half` meets its contract.
use mathlib.Core.Path.{◌∙◌, sym}
use Rattle.laws.specs.Boards.{men_in}
use Rattle.laws.specs.Men.{man_of}
use Rattle.geometry.specs.Colors.{opp}
use mathlib.Core.Bool.{true, false}
use Rattle.strict_sets.proofs.Calming.{half_few, half_many}
use Rattle.strict_sets.proofs.inner.calm.half.Goals as goal

pub few_with-requires : goal.few_with-requires
few_with-requires c = (c.requires.1.sound, c.requires.2.source_in, c.requires.2.man_in)

pub returns-then-not-few_with : goal.returns-then-not-few_with
returns-then-not-few_with c = (half_many (men_in c.args.p) (opp c.args.p.turn) false c.args.s (man_of c.args.x) (sym (rw c.other-c.ensures at c.few_with.ensures) ∙ c.if-not-few_with.true), half_many (men_in c.args.p) (opp c.args.p.turn) true c.args.s (man_of c.args.x) (sym (rw c.other-c.ensures at c.few_with.ensures) ∙ c.if-not-few_with.true))

pub calm-quiet-requires : goal.calm-quiet-requires
calm-quiet-requires c = c.requires

pub returns : goal.returns
returns c = (c.calm-quiet.ensures ∙ half_few (men_in c.args.p) (opp c.args.p.turn) false c.args.s (man_of c.args.x) (sym (rw c.other-c.ensures at c.few_with.ensures) ∙ c.if-not-few_with.false), c.calm-taking.ensures ∙ half_few (men_in c.args.p) (opp c.args.p.turn) true c.args.s (man_of c.args.x) (sym (rw c.other-c.ensures at c.few_with.ensures) ∙ c.if-not-few_with.false))
