-- `castling::attackers` meets its contract.
use mathlib.Core.Path.{◌≡◌, ◌∙◌, ap, sym, subst}
use lib.ListN.{get_or, length}
use mir.Syntax.{w64}
use mir.Val.{Fits}
use borrow.Author.Rules.{rules}
use Rattle.std.specs.Prelude.{Ok}
use Rattle.laws.specs.declared.Position.{Position}
use Rattle.laws.specs.Boards.{pos_at, Clean}
use Rattle.refusal.specs.Said.{behind}
use Rattle.board.specs.Gate.{pos_on}
use Rattle.board.proofs.Passing.{gate_sound}
use Rattle.castling.specs.Castlings.{uncastle_tests, way_before, castling_says}
use Rattle.castling.proofs.Castlings.{gate_said}
use Rattle.castling.proofs.attackers.Goals as goal

pub uncastled-requires : goal.uncastled-requires
uncastled-requires c = let b = c.args.b in (c.between_table-t.ensures, subst (λ (z : Position). Clean z.pieces z.colors) (sym c.position_of-p.ensures) (gate_sound b (let e : length b.pieces ≡ 6 = search rules in e) (let e : length b.colors ≡ 2 = search rules in e) (λ i. let f : Fits w64 (get_or b.pieces i 0) = search rules in f.fits) (λ i. let f : Fits w64 (get_or b.colors i 0) = search rules in f.fits) (sym c.gate-v.ensures ∙ c.in-Ok.is)).clean)

pub returns-in-Err : goal.returns-in-Err
returns-in-Err c =
    let b = c.args.b in
    let d = c.args.side in
    gate_said b (uncastle_tests (pos_on b) d) (castling_says (Ok (way_before (pos_on b) d))) c.gate-v.ensures c.in-Err.is

pub returns-in-Ok : goal.returns-in-Ok
returns-in-Ok c =
    let b = c.args.b in
    let d = c.args.side in
    c.uncastled.ensures ∙ ap (λ (q : Position). behind (uncastle_tests (pos_at q) d) (castling_says (Ok (way_before (pos_at q) d)))) c.position_of-p.ensures
    ∙ gate_said b (uncastle_tests (pos_on b) d) (castling_says (Ok (way_before (pos_on b) d))) c.gate-v.ensures c.in-Ok.is
