-- `strict_sets::inner::asked::special_pawn` meets its contract.
use mathlib.Core.Path.{◌∙◌, sym, ap}
use native.Mathlib.Omega.{arith}
use Rattle.strict_sets.proofs.Asked.{on_sixth, on_fourth, elsewhere}
use Rattle.geometry.specs.Colors.{behind}
use Rattle.strict_sets.proofs.inner.asked.special_pawn.Goals as goal

pub get_pawn_attacks-requires : goal.get_pawn_attacks-requires
get_pawn_attacks-requires c = c.requires

pub returns-then-rank-eq5 : goal.returns-then-rank-eq5
returns-then-rank-eq5 c = on_sixth c.args.c c.args.s c.requires (sym c.rank_for-rank.ensures ∙ c.if-rank-eq5.true) (rw c.other.ensures at c.get_pawn_attacks.ensures)

pub behind-crossed-requires : goal.behind-crossed-requires
behind-crossed-requires c = (c.requires, omega (arith, sym c.rank_for-rank.ensures ∙ c.if-rank-eq3.true))

pub returns-then-rank-eq3 : goal.returns-then-rank-eq3
returns-then-rank-eq3 c = on_fourth c.args.c c.args.s c.requires (sym c.rank_for-rank.ensures ∙ c.if-rank-eq3.true) (c.behind.ensures.0 ∙ ap (behind c.args.c) c.behind-crossed.ensures.0) c.bit.ensures

pub returns : goal.returns
returns c = elsewhere c.args.c c.args.s c.requires (λ e. c.if-rank-eq5.false (c.rank_for-rank.ensures ∙ e)) (λ e. c.if-rank-eq3.false (c.rank_for-rank.ensures ∙ e))
