-- `strict_sets::inner::calm::stood_there` meets its contract.
use mathlib.Core.Path.{◌∙◌, sym, ap}
use mathlib.Core.Bool.{Bool}
use Prim.Native.Nat.{ℕ}
use native.Mathlib.Omega.{arith}
use Rattle.geometry.specs.declared.Color.{Color}
use Rattle.laws.specs.declared.Piece.TheVariants.{Knight}
use Rattle.laws.specs.Men.{man, man_of}
use Rattle.position.specs.inner.Edits.{man_with}
use Rattle.geometry.specs.Colors.{opp}
use Rattle.laws.proofs.Mans.{by_number, opp_opp}
use Rattle.strict_sets.specs.inner.Parts.{stood}
use Rattle.strict_sets.proofs.inner.calm.stood_there.Goals as goal

pub returns-then-taking : goal.returns-then-taking
returns-then-taking c = (ap (λ (n : ℕ). man_of n) c.man_number.ensures.0 ∙ by_number (man_with c.args.turn 2) ∙ ap (λ (d : Color). man d Knight) (sym (opp_opp c.args.turn)) ∙ ap (λ (b : Bool). stood (opp c.args.turn) b) (sym c.if-taking.true), c.man_number.ensures.1)

pub returns : goal.returns
returns c = (ap (λ (b : Bool). stood (opp c.args.turn) b) (sym c.if-taking.false), omega arith)
