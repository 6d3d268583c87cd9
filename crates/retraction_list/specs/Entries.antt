-- The list of entries: `RetractionList` of the Rust (retraction_gen.rs, 20 to 76).
use Rattle.std.specs.Prelude.{Bool, true, false, cond, List, [], ◌∷◌, ◌++◌, ℕ, ◌-◌, eqb, ltb, length, replicate}
use Rattle.squares.specs.Tests.{◌and◌}
use Rattle.retraction_list.specs.declared.UnCaptureKind.{UnCaptureKind}
use Rattle.retraction_list.specs.declared.UnCaptureKind.TheVariants.{Optional, Necessary}
use Rattle.retraction_list.specs.declared.SourceAndTargets.{SourceAndTargets}
use Rattle.retraction_list.specs.declared.RetractionList.{RetractionList}

-- `SourceAndTargets::new(source, targets, uncapture_kind, unpromotion)`
abbrev pub entry_of : ℕ → ℕ → UnCaptureKind → Bool → SourceAndTargets
entry_of s t k u = record { source = s; targets = t; kind = k; unpromotion = u }

-- what a place beyond the length holds
abbrev pub no_entry : SourceAndTargets
no_entry = entry_of 0 0 Optional false

-- a list that holds these entries, 47 at most
unfoldable pub holding : List SourceAndTargets → RetractionList
holding es = record { entries = es ++ replicate (47 - length es) no_entry; len = length es; full = false }

-- "8 FULL: .. would need a 48th entry": no entry at all
unfoldable pub full_list : RetractionList
full_list = record { entries = replicate 47 no_entry; len = 0; full = true }

-- `if targets != EMPTY { movelist.push_unchecked(SourceAndTargets::new(source, targets, kind, unpromotion)); }`
unfoldable pub offered : ℕ → ℕ → UnCaptureKind → Bool → List SourceAndTargets
offered s t k u = cond (eqb t 0) [] (entry_of s t k u ∷ [])

-- `capture_kind(src)` (piece_type.rs, 30 to 36), of a man that is pinned, or isn't
unfoldable pub capture_kind : Bool → UnCaptureKind
capture_kind true = Necessary
capture_kind false = Optional

-- every source is a square
unfoldable pub sound : List SourceAndTargets → Bool
sound [] = true
sound (e ∷ es) = ltb e.source 64 and sound es
