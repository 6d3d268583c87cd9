-- What pushing does to the list, and what the filled list answers.
use Rattle.std.specs.Prelude.{true, cond, List, [], ◌∷◌, ◌+◌, leb, ltb, length, set}
use Rattle.retraction_list.specs.declared.SourceAndTargets.{SourceAndTargets}
use Rattle.retraction_list.specs.declared.RetractionList.{RetractionList}
use Rattle.retraction_list.specs.Entries.{holding, full_list}

-- one entry more
unfoldable pub pushed : RetractionList → SourceAndTargets → RetractionList
pushed l e =
    cond (leb 47 l.len) (record { entries = l.entries; len = l.len; full = true })
    (record { entries = set l.entries l.len e; len = l.len + 1; full = l.full })

-- several entries more
unfoldable pub pushed_all : RetractionList → List SourceAndTargets → RetractionList
pushed_all l [] = l
pushed_all l (e ∷ es) = pushed_all (pushed l e) es

-- "At most 47 entries": the entries, or FULL where there are more
unfoldable pub answer_of : List SourceAndTargets → RetractionList
answer_of es = cond (ltb 47 (length es)) full_list (holding es)
