-- `turning::inner::turned` meets its contract.
use mathlib.Core.Path.{◌≡◌, sym, subst}
use lib.ListN.{get_or, length}
use mir.Syntax.{w64}
use mir.Val.{Fits}
use borrow.Author.Rules.{rules}
use Rattle.laws.specs.declared.Position.{Position}
use Rattle.turning.specs.inner.Named.{Turns}
use Rattle.turning.proofs.Turning.{turns}
use Rattle.turning.proofs.inner.turned.Goals as goal

pub state_turned-passant-requires : goal.state_turned-passant-requires
state_turned-passant-requires c = let b = c.args.b in subst (λ (z : Position). Turns z) (sym c.position_of-p.ensures) (turns b c.requires (let e : length b.pieces ≡ 6 = search rules in e) (let e : length b.colors ≡ 2 = search rules in e) (λ i. let f : Fits w64 (get_or b.pieces i 0) = search rules in f.fits) (λ i. let f : Fits w64 (get_or b.colors i 0) = search rules in f.fits))

pub returns : goal.returns
returns c = rw (c.terms_of-terms.ensures, c.other_edition.ensures, c.state_turned-passant.ensures, c.position_of-p.ensures)
