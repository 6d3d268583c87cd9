-- `strict::inner::today` meets its contract.
use mathlib.Core.Path.{◌≡◌, sym, subst}
use lib.ListN.{get_or, length}
use mir.Val.{Fits}
use mir.Syntax.{w64}
use Rattle.laws.specs.declared.Position.{Position}
use Rattle.board.proofs.Passing.{gate_sound, gate_passed}
use Rattle.strict_test.specs.inner.Strictly.{Today}
use borrow.Author.Rules.{rules}
use Rattle.strict.proofs.inner.today.Goals as goal

pub returns : goal.returns
returns c =
    let b = c.args.b in (
      c.position_of.ensures,
      subst (λ (z : Position). Today z) (sym c.position_of.ensures) (record {
        sound = (gate_sound b (let e : length b.pieces ≡ 6 = search rules in e) (let e : length b.colors ≡ 2 = search rules in e) (λ i. let f : Fits w64 (get_or b.pieces i 0) = search rules in f.fits) (λ i. let f : Fits w64 (get_or b.colors i 0) = search rules in f.fits) c.requires).clean;
        lawful = (gate_passed b c.requires).lawful;
      }),
    )
