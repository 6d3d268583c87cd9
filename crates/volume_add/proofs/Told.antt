-- What is answered of a volume whose table and boards have passed.
use mathlib.Core.Path.{sym, ◌∙◌, ap}
use mathlib.Core.Bool.{false}
use mathlib.Core.List.{List, ◌++◌}
use Prim.Native.Nat.{ℕ, ◌+◌}
use native.Mathlib.Omega.{arith}
use lib.ListN.{drop}
use Rattle.laws.specs.declared.Position.{Position}
use Rattle.volume_contents.specs.declared.Why.TheVariants.{Room}
use Rattle.volume_contents.specs.Refusing.{Written}
use Rattle.volume_contents.proofs.Answered.{count_same, why_same}
use Rattle.volume_read.specs.Reading.{Whole}
use Rattle.volume_add.specs.Adding.{Adds, misnumbered, unjudged, narrow, added}
use Rattle.volume_add.specs.inner.Longer.{AddsTo, misnumbered as to_misnumbered, unjudged as to_unjudged, narrow as to_narrow, added as to_added}
use Rattle.volume_add.proofs.Lengthening.{longer_with, with_length}

pub told : (v : List ℕ) (n : ℕ) (ps : List Position) → Whole false v n ps → (k : ℕ) (p : Position) (o : List ℕ) (r : Written) (x : List ℕ) → AddsTo v n k p o r x → Adds v k p o r x
told v n ps w k p o r x (to_misnumbered f t e d) = misnumbered n ps f w t e d
told v n ps w k p o r x (to_unjudged f t j e d) = unjudged n ps f w t j e d
told v n ps w k p o r x (to_narrow t j h e d) =
    let z = with_length v n ps w k p in
    narrow n ps w t j (omega arith) (e ∙ why_same (ap Room (sym z))) d
told v n ps w k p o r x (to_added t j h e d) =
    let z = with_length v n ps w k p in
    added n ps w t j (omega arith) (e ∙ count_same (sym z)) (d ∙ (λ i. longer_with v n ps w k p i ++ drop (sym z i) o))
