-- `new_legal` (retraction_gen.rs, 175 to 183) and `uncaptured_candidates` (116 to 168) of a board.
use Rattle.std.specs.Prelude.{◌≡◌, List, [], ◌∷◌, ◌++◌, ℕ, leb, length, Result, Ok, Err, IfOk}
use Rattle.refusal.specs.declared.Refusal.TheVariants.{Full}
use Rattle.refusal.specs.declared.Refusal.{Refusal}
use Rattle.refusal.specs.Refusals.{number_of}
use Rattle.refusal.specs.Said.{Test, ◌else◌, first_failing}
use Rattle.board.specs.declared.RetractableBoard.{RetractableBoard}
use Rattle.board.specs.Gate.{position_on, board_tests}
use Rattle.view.specs.declared.View.{View}
use Rattle.view.specs.Views.{view_of}
use Rattle.retraction_list.specs.declared.SourceAndTargets.{SourceAndTargets}
use Rattle.retraction_list.specs.declared.RetractionList.{RetractionList}
use Rattle.retraction_list.specs.Entries.{holding}
use Rattle.uncaptured.specs.Masks.{masks_of}
use Rattle.enumerate.specs.Lists.{list_of}
use Rattle.retraction_gen.specs.declared.RetractionGen.{RetractionGen}

-- what the lists see of a board, the ported list, and the six masks
abbrev pub view_on : RetractableBoard → View
view_on b = view_of (position_on b) b.combined b.pinned b.checkers

unfoldable pub list_on : RetractableBoard → List SourceAndTargets
list_on b = list_of (view_on b)

unfoldable pub masks_on : RetractableBoard → List ℕ
masks_on b = masks_of (position_on b)

-- `index: 0, uncaptured_index: 0`
abbrev pub start_of : RetractionList → List ℕ → RetractionGen
start_of l ms = record { entries = l.entries; len = l.len; index = 0; uncaptured = 0; masks = ms }

-- "8 FULL: a list that this very call builds .. would need a 48th entry"
abbrev pub full_test : List SourceAndTargets → List Test
full_test es = (leb (length es) 47 else Full) ∷ []

-- "Making the cursor then tests 8", and so does "listing into slots": 1 to 7, then 8
abbrev pub list_tests : RetractableBoard → List Test
list_tests b = board_tests b ++ full_test (list_on b)

-- the cursor of a board at its start
unfoldable pub cursor_on : RetractableBoard → RetractionGen
cursor_on b = start_of (holding (list_on b)) (masks_on b)

-- the number of a refusal, 0 where there is none
abbrev pub refused_number : {A : Type 0} → Result A Refusal → ℕ
refused_number (Ok x) = 0
refused_number (Err why) = number_of why

-- the number of the first test that fails, or 0 and g
pub record Makes (ts : List Test) (g : RetractionGen) (r : Result RetractionGen Refusal) : Type 0 where
  pub number : refused_number r ≡ first_failing ts
  pub cursor : IfOk r (λ x. x ≡ g)

-- the number of the first test that fails, or 0 and ms
pub record Masked (ts : List Test) (ms : List ℕ) (r : Result (List ℕ) Refusal) : Type 0 where
  pub number : refused_number r ≡ first_failing ts
  pub masks : IfOk r (λ x. x ≡ ms)
