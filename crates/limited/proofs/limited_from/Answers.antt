-- `limited::limited_from` meets its contract.
use mathlib.Core.Path.{◌≡◌, ◌∙◌, sym, ap}
use mathlib.Core.Bool.{Bool, true, false, not, cond}
use mathlib.Core.List.{[], ◌∷◌}
use lib.Dec.{eqb}
use Rattle.refusal.specs.Said.{told}
use Rattle.limited.specs.Limiting.{names_square, sides_of, limited_from}
use Rattle.squares.specs.Tests.{◌or◌}
use Rattle.limited.proofs.limited_from.Goals as goal

pub returns-then-b-names_a_square : goal.returns-then-b-names_a_square
unfolding limited_from ◌or◌
returns-then-b-names_a_square c = let b = c.args.b in let h : (not (eqb b.checkers 0) or names_square b.passant) ≡ true = ap (λ (t : Bool). not (eqb b.checkers 0) or t) (sym c.names_a_square.ensures) ∙ c.if-b-names_a_square.true in sym (ap (λ (t : Bool). cond t (told (1 ∷ [])) (sides_of b)) h)

pub returns : goal.returns
unfolding limited_from ◌or◌
returns c = let b = c.args.b in let h : (not (eqb b.checkers 0) or names_square b.passant) ≡ false = ap (λ (t : Bool). not (eqb b.checkers 0) or t) (sym c.names_a_square.ensures) ∙ c.if-b-names_a_square.false in c.sides.ensures ∙ sym (ap (λ (t : Bool). cond t (told (1 ∷ [])) (sides_of b)) h)
