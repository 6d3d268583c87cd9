-- Bytes that are put let an answer grow.
use mathlib.Core.Path.{◌≡◌, refl}
use mathlib.Core.Bool.{Bool, true, false, cond}
use mathlib.Core.List.{List}
use Prim.Native.Nat.{ℕ, ◌+◌}
use native.Mathlib.Omega.{arith}
use lib.Dec.{leb}
use lib.ListN.{length}
use borrow.Author.Tests.{leb-true}
use Rattle.output.specs.Appending.{used_of, Puts}
use Rattle.output.proofs.Added.{used_adds}
use Rattle.puts.specs.inner.Growing.{Grows}
use Rattle.std.specs.Prelude.{Result}

pub grown : (o b after : List ℕ) (len : ℕ) (p : Result ℕ ℕ) → Puts o len b p after → (r : ℕ) → r ≡ used_of p len → length o ≡ 65536 → Grows len r
grown o b after len p puts r u h =
    by (leb (len + length b) (length o)) refl (used_adds o b after len p puts r u).used
  where
    by : (t : Bool) → leb (len + length b) (length o) ≡ t → r ≡ cond t (len + length b) len → Grows len r
    by true e f = let k = leb-true (len + length b) (length o) e in (omega arith, omega arith)
    by false e f = (omega arith, omega arith)
