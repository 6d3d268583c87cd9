-- `listing::inner::count_entry` meets its contract.
use mathlib.Core.Path.{sym, ap, ap₂, ◌∙◌}
use Prim.Native.Nat.{◌*◌}
use native.Mathlib.Omega.{arith}
use Rattle.squares.specs.Squares.{size}
use Rattle.listing.proofs.Lengths.{entry_length, product_le}
use Rattle.listing.proofs.inner.count_entry.Goals as goal

pub overflow_mul-result : goal.overflow_mul-result
overflow_mul-result c = rw (c.count-targets.ensures, c.count-each.ensures) (omega (arith, product_le c.args.e.targets c.uncaptures.result))

pub returns : goal.returns
returns c = ap₂ ◌*◌ c.count-targets.ensures (c.count-each.ensures ∙ ap size c.uncaptures.ensures) ∙ sym (entry_length _ _)
