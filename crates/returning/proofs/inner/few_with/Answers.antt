-- `returning::inner::few_with` meets its contract.
use mathlib.Core.Path.{◌∙◌, ap}
use Prim.Native.Nat.{ℕ}
use lib.Dec.{leb}
use Rattle.laws.specs.Men.{Men}
use Rattle.laws.specs.Souls.{souls}
use Rattle.laws.proofs.ManSets.{men_on}
use Rattle.position.proofs.Composing.{put_on, then_clean, then_men}
use Rattle.returning.proofs.inner.few_with.Goals as goal

pub souls-requires : goal.souls-requires
souls-requires c = then_clean c.args.p c.put_man-e.result _ c.put_man-e.ensures (put_on c.args.s _ _ c.requires.1 (men_on _ _))

pub returns : goal.returns
returns c = ap (λ (n : ℕ). leb n 8) (c.souls.ensures ∙ ap (λ (m : Men). souls m c.args.c) (then_men c.args.p c.put_man-e.result _ c.put_man-e.ensures (put_on c.args.s _ _ c.requires.1 (men_on _ _))))
