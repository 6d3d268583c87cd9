-- `moves::inner::takes_passant` meets its contract.
use mathlib.Core.Path.{◌∙◌, sym}
use Rattle.geometry.specs.Steps.{pawn_takes}
use Rattle.squares.proofs.Comprehension.{has_set_of}
use Rattle.moves.proofs.Steps.{not_then, and_then, came_up}
use Rattle.moves.proofs.inner.takes_passant.Goals as goal

pub returns-then-not-has : goal.returns-then-not-has
returns-then-not-has c = not_then _ _ (sym (c.has.ensures ∙ rw c.get_pawn_attacks.ensures (has_set_of (pawn_takes c.args.p.turn c.args.from) c.args.to c.requires.1)) ∙ c.if-not-has.true)

pub behind-requires : goal.behind-requires
behind-requires c = (c.requires.1, came_up c.args.p.turn c.args.from c.args.to (sym (c.has.ensures ∙ rw c.get_pawn_attacks.ensures (has_set_of (pawn_takes c.args.p.turn c.args.from) c.args.to c.requires.1)) ∙ c.if-not-has.false))

pub returns : goal.returns
returns c = and_then _ _ (sym (c.has.ensures ∙ rw c.get_pawn_attacks.ensures (has_set_of (pawn_takes c.args.p.turn c.args.from) c.args.to c.requires.1)) ∙ c.if-not-has.false) (c.is_named.ensures ∙ rw c.behind.ensures.0)
