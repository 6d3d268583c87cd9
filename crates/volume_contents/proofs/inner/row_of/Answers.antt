use mathlib.Core.Path.{refl, subst}
use mathlib.Core.List.{[], ◌∷◌}
use Prim.Native.Nat.{ℕ}
use Rattle.men_field.specs.inner.Lines.{Added}
use Rattle.men_field.proofs.Adding.{holds_none, holds_more}
use Rattle.volume_contents.proofs.inner.row_of.Goals as goal

-- src/inner.rt:54:1
pub returns : goal.returns
returns c = let e = subst (λ (x : ℕ). Added c.push-b.result (x ∷ []) c.push-c.result) c.edition_byte.ensures c.push-c.ensures in let h = holds_more (holds_more (holds_more (holds_more (holds_more (holds_more (holds_more (holds_more (holds_none _ refl) c.push-a.ensures) c.push-b.ensures) e) c.push-d.ensures) c.push-e.ensures) c.push-f.ensures) c.push-g.ensures) c.push.ensures in (h, h.len)
