-- A list that was filled from the empty one: where its flag is set it answers FULL, else it holds the entries.
use mathlib.Core.Path.{◌≡◌, sym, ap, ◌∙◌}
use mathlib.Core.Bool.{Bool, true, false, cond}
use mathlib.Core.Logic.{⊎_elim}
use mathlib.Core.List.{List, []}
use native.Mathlib.Omega.{arith}
use lib.Dec.{ltb}
use lib.ListN.{length}
use borrow.Author.Tests.{lt-ltb, le-ltb, ltb-false}
use Rattle.retraction_list.specs.declared.SourceAndTargets.{SourceAndTargets}
use Rattle.retraction_list.specs.declared.RetractionList.{RetractionList}
use Rattle.retraction_list.specs.inner.Pushing.{answer_of, pushed_all}
use Rattle.retraction_list.specs.Entries.{holding, full_list}
use Rattle.squares.proofs.Testing.{order}
use Rattle.retraction_list.proofs.Pushing.{all_fit, all_over}

-- the flag is the test
flag_is : (es : List SourceAndTargets) → (pushed_all (holding []) es).full ≡ ltb 47 (length es)
unfolding holding
flag_is es =
    ⊎_elim
    (λ h. all_over [] es (omega arith) (omega arith) ∙ sym (lt-ltb 47 (length es) h))
    (λ h. ap (λ (r : RetractionList). r.full) (all_fit es h) ∙ sym (le-ltb 47 (length es) h))
    (order 47 (length es))

pub is_full : (es : List SourceAndTargets) → (pushed_all (holding []) es).full ≡ true → full_list ≡ answer_of es
unfolding answer_of
is_full es e = sym (ap (λ (t : Bool). cond t full_list (holding es)) (sym (flag_is es) ∙ e))

pub is_held : (es : List SourceAndTargets) → (pushed_all (holding []) es).full ≡ false → pushed_all (holding []) es ≡ answer_of es
unfolding answer_of
is_held es e =
    let over : ltb 47 (length es) ≡ false = sym (flag_is es) ∙ e in
    all_fit es (ltb-false 47 (length es) over) ∙ sym (ap (λ (t : Bool). cond t full_list (holding es)) over)
