-- `board::inner::board_from` meets its contract.
use mathlib.Core.Path.{◌≡◌, ◌∙◌, sym}
use lib.ListN.{get_or, length}
use mir.Val.{Fits}
use mir.Syntax.{w64}
use Rattle.board.proofs.Passing.{judged_sound}
use borrow.Author.Rules.{rules}
use Rattle.board.proofs.inner.board_from.Goals as goal

pub worked_after-requires : goal.worked_after-requires
worked_after-requires c = let b = c.args.p in (c.requires, λ h. judged_sound b (let e : length b.pieces ≡ 6 = search rules in e) (let e : length b.colors ≡ 2 = search rules in e) (λ i. let f : Fits w64 (get_or b.pieces i 0) = search rules in f.fits) (λ i. let f : Fits w64 (get_or b.colors i 0) = search rules in f.fits) (sym c.judge-v.ensures ∙ h))

pub returns : goal.returns
returns c = c.worked_after.ensures ∙ rw c.judge-v.ensures
