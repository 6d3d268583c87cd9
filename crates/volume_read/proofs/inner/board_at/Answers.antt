use mathlib.Core.Path.{◌≡◌, subst, ap, ◌∙◌}
use Prim.Native.Nat.{ℕ, ◌+◌, ◌-◌, ◌*◌}
use native.Mathlib.Omega.{arith}
use lib.ListN.{take, drop}
use Rattle.laws.specs.declared.Edition.{Edition}
use Rattle.volume_body.specs.Layout.{Answers}
use Rattle.volume_contents.specs.declared.Entry.{Entry}
use Rattle.volume_contents.specs.inner.Walks.{edition_of}
use Rattle.volume_read.specs.Reading.{body_at}
use Rattle.volume_read.proofs.inner.board_at.Goals as goal

pub returns : goal.returns
returns c =
    let at : ℕ = 6 + 8 * c.args.n + 34 * c.args.i in
    let k : at + 34 - at ≡ 34 = omega arith in
    let a = subst (λ (k : ℕ). Answers c.edition_of-edition.result (take k (drop at c.args.v.now)) c.read_body.result) k c.read_body.ensures in
    subst (λ (v : Edition). Answers v (body_at c.args.v.now c.args.n c.args.i) c.read_body.result) (c.edition_of-edition.ensures ∙ ap (λ (e : Entry). edition_of e.edition) c.entry-row.ensures.0) a
