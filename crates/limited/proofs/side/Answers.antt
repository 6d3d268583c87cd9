-- `limited::side` meets its contract.
use mathlib.Core.Path.{◌≡◌, refl, ap, ◌∙◌}
use mathlib.Core.Bool.{Bool}
use Rattle.std.specs.Prelude.{Ok, is_none as gives_none}
use borrow.Author.Rules.{rules}
use Rattle.limited.specs.Limiting.{limited_says}
use Rattle.retraction_gen.specs.Making.{masks_on}
use Rattle.view.proofs.Seen.{ready}
use Rattle.limited.proofs.Fitting.{side_full, side_held}
use Rattle.limited.proofs.side.Goals as goal

pub all_but_pawns-list-requires : goal.all_but_pawns-list-requires
all_but_pawns-list-requires c = rw c.seen-v.ensures (ready _ _ _ _ _ c.requires.0 c.requires.1)

pub returns-then-list : goal.returns-then-list
returns-then-list c = side_full c.args.b _ (rw c.seen-v.ensures at c.all_but_pawns-list.ensures) c.if-list.true

pub returns : goal.returns
unfolding masks_on
returns c = let e : c.is_none.result ≡ gives_none c.next.result.next = search rules in ap (λ (t : Bool). limited_says (Ok t)) e ∙ side_held _ _ (rw c.seen-v.ensures at c.all_but_pawns-list.ensures) _ _ _ c.if-list.false (rw c.position_of.ensures at c.candidates-masks.ensures) (rw c.started-g.ensures at c.next.ensures) refl
