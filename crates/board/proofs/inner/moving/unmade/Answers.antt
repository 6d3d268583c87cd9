-- `board::inner::moving::unmade` meets its contract.
use mathlib.Core.Path.{◌≡◌, ◌∙◌, ap}
use lib.ListN.{get_or, length}
use mir.Syntax.{w64}
use mir.Val.{Fits}
use borrow.Author.Rules.{rules}
use Rattle.laws.specs.declared.Board.{Board}
use Rattle.incremental.specs.Moved.{rust_moved}
use Rattle.unmake.specs.Retracted.{unmade_to}
use Rattle.board.specs.Gate.{pos_on, gate_of}
use Rattle.refusal.proofs.Saying.{both_accept}
use Rattle.board.proofs.Passing.{gate_sound}
use Rattle.board.proofs.Moving.{source_on, moved_sound, searched_is}
use Rattle.board.proofs.inner.moving.unmade.Goals as goal

pub moved-earlier-requires : goal.moved-earlier-requires
moved-earlier-requires c = let b = c.args.b in let r = c.args.r in let k = both_accept (gate_of b) (unmade_to (pos_on b) r).verdict c.requires.1 in source_on b r k.0 k.1

pub searched-z-requires : goal.searched-z-requires
searched-z-requires c = let b = c.args.b in let r = c.args.r in let k = both_accept (gate_of b) (unmade_to (pos_on b) r).verdict c.requires.1 in let s = moved_sound b r k.0 k.1 (gate_sound b (let e : length b.pieces ≡ 6 = search rules in e) (let e : length b.colors ≡ 2 = search rules in e) (λ i. let f : Fits w64 (get_or b.pieces i 0) = search rules in f.fits) (λ i. let f : Fits w64 (get_or b.colors i 0) = search rules in f.fits) k.0).clean c.moved-earlier.result (c.moved-earlier.ensures ∙ ap (λ (x : Board). rust_moved x r) c.to_laws-today.ensures) in (c.requires.0, s.clean, s.kings)

pub returns : goal.returns
returns c = let b = c.args.b in let r = c.args.r in let k = both_accept (gate_of b) (unmade_to (pos_on b) r).verdict c.requires.1 in searched_is b r k.0 k.1 (gate_sound b (let e : length b.pieces ≡ 6 = search (rules, c.well_formed) in e) (let e : length b.colors ≡ 2 = search (rules, c.well_formed) in e) (λ i. let f : Fits w64 (get_or b.pieces i 0) = search (rules, c.well_formed) in f.fits) (λ i. let f : Fits w64 (get_or b.colors i 0) = search (rules, c.well_formed) in f.fits) k.0).clean c.moved-earlier.result (c.moved-earlier.ensures ∙ ap (λ (x : Board). rust_moved x r) c.to_laws-today.ensures) c.from_laws.result (c.from_laws.ensures ∙ c.searched-z.ensures)
