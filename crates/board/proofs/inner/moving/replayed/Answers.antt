-- `board::inner::moving::replayed` meets its contract.
use mathlib.Core.Path.{◌∙◌, ◌≡◌, sym, ap, subst}
use lib.ListN.{get_or, length}
use mir.Syntax.{w64}
use mir.Val.{Fits}
use Rattle.laws.specs.Boards.{Clean, pos_at}
use Rattle.laws.specs.declared.Position.{Position}
use Rattle.position.specs.declared.Positioned.{Positioned}
use Rattle.replay.specs.Replayed.{replay_to}
use Rattle.board.specs.Gate.{position_on}
use Rattle.board.specs.inner.Gates.{Kept, boarded_of}
use Rattle.board.proofs.Passing.{five_sound}
use Rattle.board.proofs.Moving.{replay_five, replayed_sound, replayed_is}
use borrow.Author.Rules.{rules}
use Rattle.board.proofs.inner.moving.replayed.Goals as goal

pub replay-u-requires : goal.replay-u-requires
replay-u-requires c = let b = c.args.b in let h = sym c.replay_gate-v.ensures ∙ c.in-Ok.is in (c.requires, subst (λ (z : Position). Clean z.pieces z.colors) (sym c.position_of-p.ensures) (five_sound (position_on b) (let e : length b.pieces ≡ 6 = search rules in e) (let e : length b.colors ≡ 2 = search rules in e) (λ i. let f : Fits w64 (get_or b.pieces i 0) = search rules in f.fits) (λ i. let f : Fits w64 (get_or b.colors i 0) = search rules in f.fits) (replay_five b h)).clean)

pub boarded-requires : goal.boarded-requires
boarded-requires c = let a = c.args in let b = a.b in let h = sym c.replay_gate-v.ensures ∙ c.in-Ok.is in (c.requires, subst (λ (u : Positioned). Kept u.verdict u.position) (sym (c.replay-u.ensures ∙ ap (λ (z : Position). replay_to (pos_at z) a.r a.kind) c.position_of-p.ensures)) (replayed_sound b a.r a.kind (five_sound (position_on b) (let e : length b.pieces ≡ 6 = search rules in e) (let e : length b.colors ≡ 2 = search rules in e) (λ i. let f : Fits w64 (get_or b.pieces i 0) = search rules in f.fits) (λ i. let f : Fits w64 (get_or b.colors i 0) = search rules in f.fits) (replay_five b h)).clean h))

pub returns-in-Err : goal.returns-in-Err
returns-in-Err c = c.board_by.ensures ∙ rw (sym c.replay_gate-v.ensures ∙ c.in-Err.is)

pub returns-in-Ok : goal.returns-in-Ok
returns-in-Ok c = let a = c.args in c.boarded.ensures ∙ ap boarded_of (c.replay-u.ensures ∙ ap (λ (z : Position). replay_to (pos_at z) a.r a.kind) c.position_of-p.ensures) ∙ replayed_is a.b a.r a.kind (sym c.replay_gate-v.ensures ∙ c.in-Ok.is)
