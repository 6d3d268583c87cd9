use mathlib.Core.Path.{refl, sym, ◌∙◌, ap}
use Prim.Native.Nat.{ℕ}
use Rattle.volume_add.specs.Adding.{number_tested}
use Rattle.volume_add.specs.inner.Longer.{misnumbered, unjudged}
use Rattle.volume_add.proofs.inner.add_to.Goals as goal

pub returns-in-Err : goal.returns-in-Err
returns-in-Err c = misnumbered _ (ap (λ (k : ℕ). number_tested k c.args.number) (sym c.last.ensures) ∙ sym c.in-Err.ensures) refl refl

pub returns-in-Err-judge : goal.returns-in-Err-judge
returns-in-Err-judge c = unjudged _ (ap (λ (k : ℕ). number_tested k c.args.number) (sym c.last.ensures) ∙ sym c.in_default.ensures) (sym c.judge.ensures ∙ c.in-Err-judge.is) refl refl
