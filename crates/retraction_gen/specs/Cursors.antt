-- The iterator (retraction_gen.rs, 340 to 385), one turn of `next` at a time. `targets_mask` is `!EMPTY` in all that is taken, so it is left out.
use Rattle.std.specs.Prelude.{◌≡◌, Bool, true, false, not, cond, List, [], ◌∷◌, ℕ, zero, suc, ◌+◌, ◌-◌, ◌*◌, eqb, leb, ltb, length, get_or, set, take, drop, Option, Some, None}
use Rattle.squares.specs.Tests.{◌and◌, ◌or◌}
use Rattle.squares.specs.Squares.{has, set_of, besides, flag}
use Rattle.squares.specs.Members.{members, lowest_of}
use Rattle.laws.specs.declared.ChessRetraction.{ChessRetraction}
use Rattle.refusal.specs.Said.{Said, told}
use Rattle.retraction_list.specs.declared.UnCaptureKind.{UnCaptureKind}
use Rattle.retraction_list.specs.declared.UnCaptureKind.TheVariants.{Optional, Necessary, Forbidden, UnEnPassant}
use Rattle.retraction_list.specs.declared.SourceAndTargets.{SourceAndTargets}
use Rattle.retraction_list.specs.Entries.{no_entry, entry_of, sound}
use Rattle.retraction_gen.specs.declared.RetractionGen.{RetractionGen}
use Rattle.retraction_gen.specs.declared.Turn.{Turn}
use Rattle.retraction_gen.specs.declared.Turn.TheVariants.{Again, Found, Over}
use Rattle.retraction_gen.specs.declared.Turned.{Turned}
use Rattle.retraction_gen.specs.declared.Stepped.{Stepped}

abbrev pub with_entries : RetractionGen → List SourceAndTargets → RetractionGen
with_entries g es = record { entries = es; len = g.len; index = g.index; uncaptured = g.uncaptured; masks = g.masks }

abbrev pub with_index : RetractionGen → ℕ → RetractionGen
with_index g i = record { entries = g.entries; len = g.len; index = i; uncaptured = g.uncaptured; masks = g.masks }

abbrev pub with_uncaptured : RetractionGen → ℕ → RetractionGen
with_uncaptured g u = record { entries = g.entries; len = g.len; index = g.index; uncaptured = u; masks = g.masks }

abbrev pub turned : RetractionGen → Turn → Turned
turned g t = record { cursor = g; turn = t }

-- "A retraction is source (today), target (earlier), uncaptured .. and un-promotion"
abbrev pub retraction_said : ChessRetraction → Said
retraction_said r = told (r.source ∷ r.target ∷ r.uncaptured ∷ flag r.unpromotion ∷ [])

-- the end has no values
abbrev pub end_said : Said
end_said = told []

abbrev pub next_says : Option ChessRetraction → Said
next_says (Some r) = retraction_said r
next_says None = end_said

-- "the cursor goes in and comes back with the next retraction or the end"
pub record Answered : Type 0 where
  pub cursor : RetractionGen
  pub said : Said

abbrev pub back : RetractionGen → Said → Answered
back g x = record { cursor = g; said = x }

-- `self.retractions[self.index]`
abbrev pub entry_at : RetractionGen → SourceAndTargets
entry_at g = get_or g.entries g.index no_entry

-- "targets from the lowest square": `retraction.targets ^= BitBoard::from_square(target)`, of the lowest target
abbrev pub lessened : SourceAndTargets → SourceAndTargets
lessened e = entry_of e.source (set_of (besides e.targets (lowest_of e.targets))) e.kind e.unpromotion

unfoldable pub spent : RetractionGen → RetractionGen
spent g = with_entries g (set g.entries g.index (lessened (entry_at g)))

-- `retraction.uncapture_kind == UnCaptureKind::UnEnPassant`
abbrev pub is_un_en_passant : UnCaptureKind → Bool
is_un_en_passant Optional = false
is_un_en_passant Necessary = false
is_un_en_passant Forbidden = false
is_un_en_passant UnEnPassant = true

-- `uncapture_kind == Necessary && uncaptured.is_none() || uncapture_kind == Forbidden && uncaptured.is_some()`
abbrev pub against : UnCaptureKind → ℕ → Bool
against Optional u = false
against Necessary u = eqb u 0
against Forbidden u = not (eqb u 0)
against UnEnPassant u = false

-- `uncaptured_mask & BitBoard::from_square(retraction.source) == EMPTY || ..`
unfoldable pub barred : ℕ → ℕ → UnCaptureKind → ℕ → Bool
barred mask s k u = not (has mask s) or against k u

-- `ChessRetraction::new(retraction.source, target, None, false)`
abbrev pub un_en_passant_to : SourceAndTargets → ℕ → ChessRetraction
un_en_passant_to e t = record { source = e.source; target = t; uncaptured = 0; unpromotion = false }

-- `ChessRetraction::new(retraction.source, target, uncaptured, retraction.unpromotion)`
abbrev pub uncaptured_to : SourceAndTargets → ℕ → ℕ → ChessRetraction
uncaptured_to e t u = record { source = e.source; target = t; uncaptured = u; unpromotion = e.unpromotion }

-- a turn at an entry that has a target (353 to 384)
unfoldable pub turn_in : RetractionGen → SourceAndTargets → Turned
turn_in g e =
    cond (is_un_en_passant e.kind) (turned (spent g) (Found (un_en_passant_to e (lowest_of e.targets))))
    (cond (leb 6 g.uncaptured) (turned (with_uncaptured (spent g) 0) Again)
    (cond (barred (get_or g.masks g.uncaptured 0) e.source e.kind g.uncaptured) (turned (with_uncaptured g (g.uncaptured + 1)) Again)
    (turned (with_uncaptured g (g.uncaptured + 1)) (Found (uncaptured_to e (lowest_of e.targets) g.uncaptured)))))

-- `if self.index >= self.retractions.len()` (344); there are 47 places
unfoldable pub on_entry : RetractionGen → Bool
on_entry g = ltb g.index g.len and ltb g.index 47

-- one turn: the end, an entry without targets (348 to 351), or a turn at a target
unfoldable pub turn_of : RetractionGen → Turned
turn_of g =
    cond (on_entry g)
    (cond (ltb 63 (lowest_of (entry_at g).targets)) (turned (with_index g (g.index + 1)) Again) (turn_in g (entry_at g)))
    (turned g Over)

-- how many targets are left
unfoldable pub weigh : List SourceAndTargets → ℕ
weigh [] = 0
weigh (e ∷ es) = length (members e.targets) + weigh es

-- more than the turns that are left
unfoldable pub fuel : RetractionGen → ℕ
fuel g = (47 - g.index) + weigh (drop g.index g.entries) * 7 + (6 - g.uncaptured)

abbrev pub answered : Turn → RetractionGen → Answered → Answered
answered Again g later = later
answered (Found r) g later = back g (retraction_said r)
answered Over g later = back g end_said

-- turns (`return self.next()`), until one answers
unfoldable pub run_of : ℕ → RetractionGen → Answered
run_of zero g = back g end_said
run_of (suc n) g = answered (turn_of g).turn (turn_of g).cursor (run_of n (turn_of g).cursor)

unfoldable pub step_of : RetractionGen → Answered
step_of g = run_of (suc (fuel g)) g

-- "A cursor with a length above 47 or, below its length, a source above 63" is none of these
unfoldable pub well_formed : RetractionGen → Bool
well_formed g = leb g.len 47 and sound (take g.len g.entries)

-- ".. answers the end and comes back unchanged"
abbrev pub next_of : RetractionGen → Answered
next_of g = cond (well_formed g) (step_of g) (back g end_said)

-- what `next` hands back
pub record Steps (g : RetractionGen) (r : Stepped) : Type 0 where
  pub cursor : r.cursor ≡ (next_of g).cursor
  pub answer : next_says r.next ≡ (next_of g).said
