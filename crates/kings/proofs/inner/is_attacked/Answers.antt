-- `kings::inner::is_attacked` meets its contract.
use mathlib.Core.Path.{sym}
use Rattle.kings.proofs.Attacked.{same_attack}
use Rattle.kings.proofs.inner.is_attacked.Goals as goal

pub returns : goal.returns
returns c = rw (c.is_attacked.ensures, c.other.ensures) (sym (same_attack _ c.requires.0 _ c.requires.1))
