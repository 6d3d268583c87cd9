-- Tests one behind the other: one that fails ends them, and one that passes leaves the others.
use mathlib.Core.Path.{◌≡◌}
use mathlib.Core.Bool.{Bool, true, false}
use mathlib.Core.List.{List}
use Prim.Native.Nat.{ℕ}
use lib.Dec.{eqb}
use lib.ListN.{get_or}
use Rattle.std.specs.Prelude.{Ok, Err}
use Rattle.squares.specs.Tests.{◌and◌}
use Rattle.volume_contents.specs.declared.Flaw.{Flaw}
use Rattle.volume_contents.specs.declared.Flaw.TheVariants.{Mark, Version, Size}
use Rattle.volume_contents.specs.Layout.{size_of}
use Rattle.volume_contents.specs.Contents.{Tested, unless, problems, head_tested}

pub fails : (p : Bool) (w f : Flaw) (t : Tested) → ◌≡◌ {A = Tested} (Err f) (unless p w (Ok tt)) → ◌≡◌ {A = Tested} (Err f) (unless p w t)
fails true w f t e = cc
fails false w f t e = e

pub passed : (p : Bool) (w : Flaw) (t : Tested) {r : Tested} {u : Unit {0}} → ◌≡◌ {A = Tested} (Ok u) (unless p w (Ok tt)) → r ≡ t → r ≡ unless p w t
passed true w t e q = q
passed false w t e q = cc

-- the tests of a head, at bytes that were read
pub head_so : (v : List ℕ) (size : ℕ) {a b c d n : ℕ} → a ≡ get_or v 0 0 → b ≡ get_or v 1 0 → c ≡ get_or v 2 0 → d ≡ get_or v 3 0 → n ≡ problems v
    → unless (eqb a 86 and eqb b 79 and eqb c 76) Mark (unless (eqb d 1) Version (unless (eqb size (size_of n)) Size (Ok tt))) ≡ head_tested v size
unfolding head_tested
head_so v size a b c d n = λ i. unless (eqb (a i) 86 and eqb (b i) 79 and eqb (c i) 76) Mark (unless (eqb (d i) 1) Version (unless (eqb size (size_of (n i))) Size (Ok tt)))
