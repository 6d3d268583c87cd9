use mathlib.Core.Path.{refl}
use Rattle.men_field.proofs.Adding.{holds_none, holds_more}
use Rattle.volume_contents.proofs.inner.head_of.Goals as goal

-- src/inner.rt:38:1
pub returns : goal.returns
returns c = let h = holds_more (holds_more (holds_more (holds_more (holds_more (holds_more (holds_none _ refl) c.push-a.ensures) c.push-b.ensures) c.push-c.ensures) c.push-d.ensures) c.push-e.ensures) c.push.ensures in (h, h.len)
