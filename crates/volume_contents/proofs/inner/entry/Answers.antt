use Prim.Native.Nat.{◌+◌, ◌*◌}
use native.Mathlib.Omega.{arith}
use mir.Val.{Fits}
use mir.Syntax.{w8}
use borrow.Author.Rules.{rules}
use Rattle.volume_contents.proofs.inner.entry.Goals as goal

-- src/inner.rt:87:1
pub returns : goal.returns
returns c = let a = c.two-number.ensures in let b = c.byte-edition.ensures in let d = c.two-high.ensures in let e = c.two-low.ensures in let f = c.byte-length.ensures in let g : Fits w8 c.byte-length.result = search rules in (λ i. record { number = a.0 i; edition = b i; place = 65536 * d.0 i + e.0 i; length = f i }, a.1, omega (arith, d.1, e.1), g.fits)
