-- The list's flag is the test of 8.
use mathlib.Core.Path.{◌≡◌, refl, sym, ap, ◌∙◌}
use mathlib.Core.Bool.{Bool, true, false, cond}
use mathlib.Core.List.{List}
use lib.Dec.{ltb}
use lib.ListN.{length}
use borrow.Author.Tests.{ltb-true, ltb-false, le-leb, lt-leb}
use Rattle.refusal.specs.declared.Refusal.TheVariants.{Full}
use Rattle.refusal.specs.Refusals.{number_of}
use Rattle.refusal.specs.Said.{first_failing}
use Rattle.retraction_list.specs.declared.SourceAndTargets.{SourceAndTargets}
use Rattle.retraction_list.specs.declared.RetractionList.{RetractionList}
use Rattle.retraction_list.specs.Entries.{holding, full_list}
use Rattle.retraction_list.specs.inner.Pushing.{answer_of}
use Rattle.retraction_gen.specs.Making.{full_test}

flag_of : (es : List SourceAndTargets) (t : Bool) → (cond t full_list (holding es)).full ≡ t
unfolding full_list holding
flag_of es true = refl
flag_of es false = refl

over_is : (es : List SourceAndTargets) (l : RetractionList) → l ≡ answer_of es → ltb 47 (length es) ≡ l.full
unfolding answer_of
over_is es l e = sym (flag_of es (ltb 47 (length es))) ∙ ap (λ (r : RetractionList). r.full) (sym e)

pub held_is : (es : List SourceAndTargets) (l : RetractionList) → l ≡ answer_of es → l.full ≡ false → l ≡ holding es
unfolding answer_of
held_is es l e f = e ∙ ap (λ (t : Bool). cond t full_list (holding es)) (over_is es l e ∙ f)

-- a list that is full fails it, and one that isn't passes
pub full_fails : (es : List SourceAndTargets) (l : RetractionList) → l ≡ answer_of es → l.full ≡ true → number_of Full ≡ first_failing (full_test es)
unfolding first_failing
full_fails es l e f = rw (lt-leb (length es) 47 (ltb-true 47 (length es) (over_is es l e ∙ f)))

pub held_passes : (es : List SourceAndTargets) (l : RetractionList) → l ≡ answer_of es → l.full ≡ false → first_failing (full_test es) ≡ 0
unfolding first_failing
held_passes es l e f = rw (le-leb (length es) 47 (ltb-false 47 (length es) (over_is es l e ∙ f)))
