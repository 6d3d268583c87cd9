-- `exposure::inner::seen_from` meets its contract.
use mathlib.Core.Path.{◌∙◌}
use native.Mathlib.Omega.{arith}
use Rattle.laws.specs.Boards.{men_in}
use Rattle.exposure.proofs.Seen.{none_seen, pawn_seen, knight_seen, bishop_seen, rook_seen, queen_seen, king_seen}
use Rattle.exposure.proofs.inner.seen_from.Goals as goal

pub returns-then-kind-eq1 : goal.returns-then-kind-eq1
returns-then-kind-eq1 c = c.get_pawn_attacks.ensures ∙ rw (c.other.ensures, c.color_of-c.ensures) (pawn_seen (men_in c.args.n) c.args.x c.args.k c.requires.1 c.requires.2 c.if-kind-eq1.true)

pub returns-then-kind-eq2 : goal.returns-then-kind-eq2
returns-then-kind-eq2 c = c.get_knight_moves.ensures ∙ knight_seen (men_in c.args.n) c.args.x c.args.k c.requires.1 c.requires.2 c.if-kind-eq2.true

pub returns-then-kind-eq6 : goal.returns-then-kind-eq6
returns-then-kind-eq6 c = c.get_king_moves.ensures ∙ king_seen (men_in c.args.n) c.args.x c.args.k c.requires.1 c.requires.2 c.if-kind-eq6.true

pub returns-then-kind-eq3 : goal.returns-then-kind-eq3
returns-then-kind-eq3 c = c.get_bishop_moves.ensures ∙ rw c.occupied-occ.ensures (bishop_seen (men_in c.args.n) c.args.x c.args.k c.requires.1 c.requires.2 c.if-kind-eq3.true)

pub returns-then-kind-eq4 : goal.returns-then-kind-eq4
returns-then-kind-eq4 c = c.get_rook_moves.ensures ∙ rw c.occupied-occ.ensures (rook_seen (men_in c.args.n) c.args.x c.args.k c.requires.1 c.requires.2 c.if-kind-eq4.true)

pub returns-then-kind-eq5 : goal.returns-then-kind-eq5
returns-then-kind-eq5 c = c.get_queen_moves.ensures ∙ rw c.occupied-occ.ensures (queen_seen (men_in c.args.n) c.args.x c.args.k c.requires.1 c.requires.2 c.if-kind-eq5.true)

pub returns : goal.returns
returns c = none_seen (men_in c.args.n) c.args.x c.args.k c.requires.1 c.requires.2 (omega arith)
