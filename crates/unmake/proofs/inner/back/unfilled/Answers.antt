-- `unmake::inner::back::unfilled` meets its contract.
use mathlib.Core.Path.{◌∙◌, ap}
use Rattle.geometry.specs.declared.Color.{Color}
use Rattle.laws.specs.declared.Piece.TheVariants.{Pawn}
use Rattle.laws.specs.Men.{man, man_number}
use Rattle.position.proofs.Composing.{with_own, puts}
use Rattle.unmake.proofs.inner.back.unfilled.Goals as goal

pub behind-q-requires : goal.behind-q-requires
behind-q-requires c = (c.requires.1, rw c.in-Passant.is at c.requires.2)

pub returns-in-Plain : goal.returns-in-Plain
returns-in-Plain c = rw c.in-Plain.is (with_own c.args.p c.requires.0)

pub returns-in-Passant : goal.returns-in-Passant
returns-in-Passant c = rw c.in-Passant.is (puts c.args.p _ _ c.put_man.ensures c.behind-q.ensures.0 (c.man_number.ensures.0 ∙ ap (λ (d : Color). man_number (man d Pawn)) c.other-d.ensures))

pub returns-in-Castle : goal.returns-in-Castle
returns-in-Castle c = rw c.in-Castle.is (puts c.args.p _ _ c.put_man-in-Castle.ensures c.rook_home-q.ensures.0 c.man_number-in-Castle.ensures.0)
