-- `records::inner::write` meets its contract.
use mathlib.Core.Path.{◌∙◌, sym, ap}
use Rattle.records.specs.Entries.{record_on}
use Rattle.laws.specs.declared.Position.{Position}
use Rattle.records.specs.Form.{record_of}
use Rattle.records.proofs.Writing.{known_writes, unknown_writes}
use Rattle.records.proofs.inner.write.Goals as goal

pub returns-then-not-is_known : goal.returns-then-not-is_known
returns-then-not-is_known c = unknown_writes c.args.b.passant (record_on c.args.b c.args.half c.args.full) c.args.out.now (sym c.is_known.ensures ∙ c.if-not-is_known.true)

pub returns : goal.returns
returns c =
    known_writes c.args.b.passant (record_on c.args.b c.args.half c.args.full) c.args.out.now _ _ _ (sym c.is_known.ensures ∙ c.if-not-is_known.false)
    (ap (λ (p : Position). record_of p c.args.half c.args.full) c.position_of.ensures) c.put.ensures
