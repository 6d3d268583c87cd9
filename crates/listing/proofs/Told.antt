-- From the gate, and from the list of a board that it let pass, to the answer.
use mathlib.Core.Path.{◌≡◌, refl, sym, ap, ◌∙◌, subst}
use mathlib.Core.Bool.{true, false}
use mathlib.Core.List.{List, [], map}
use Prim.Native.Nat.{ℕ, ◌-◌, ◌≤◌}
use native.Mathlib.Omega.{arith}
use lib.ListN.{length, replicate, length-append}
use lib.Seq.{take-append_seam}
use Rattle.laws.specs.Retractions.{packed}
use Rattle.refusal.specs.declared.Refusal.{Refusal}
use Rattle.refusal.specs.declared.Refusal.TheVariants.{Full}
use Rattle.refusal.specs.Said.{first_failing, Writes}
use Rattle.board.specs.declared.RetractableBoard.{RetractableBoard}
use Rattle.board.specs.Gate.{gate_of, board_tests}
use Rattle.retraction_list.specs.declared.SourceAndTargets.{SourceAndTargets}
use Rattle.retraction_list.specs.declared.RetractionList.{RetractionList}
use Rattle.retraction_list.specs.Entries.{no_entry, holding, sound}
use Rattle.retraction_list.specs.inner.Pushing.{answer_of}
use Rattle.retraction_gen.specs.Making.{list_on, masks_on, full_test, list_tests}
use Rattle.retraction_gen.specs.Sequence.{sequence_of, sequence_on}
use Rattle.slots.specs.declared.Unlisted.{Unlisted}
use Rattle.slots.specs.Slots.{listed_says}
use Rattle.refusal.proofs.Tested.{pass_on, stop_on}
use Rattle.refusal.proofs.Writing.{writes_behind, writes_refused}
use Rattle.board.proofs.Numbers.{gate_refuses, gate_passes}
use Rattle.retraction_gen.proofs.Filled.{held_is, full_fails, held_passes}
use Rattle.retraction_gen.proofs.Gated.{list_passed}
use Rattle.retraction_gen.proofs.Sources.{list_sound}
use Rattle.listing.specs.inner.Giving.{entries_of, Sound}
use Rattle.refusal.specs.Refusals.{Verdict, nothing_refused}
use Rattle.std.specs.Prelude.{Err, Result}
use Rattle.slots.specs.declared.Unlisted.TheVariants.{Refused as notListed}

pub gate_told : (b : RetractableBoard) {s : List ℕ} (v : Verdict) → v ≡ gate_of b → (why : Refusal) → v ≡ Err why
    → Writes (list_tests b) (map packed (sequence_on b)) s (listed_says (Err (notListed why))) s
gate_told b v e why h = writes_refused why (stop_on (board_tests b) (full_test (list_on b)) why (gate_refuses b v e why h))

held_entries : (es : List SourceAndTargets) → entries_of (holding es) ≡ es
unfolding entries_of holding
held_entries es = take-append_seam es (replicate (47 - length es) no_entry)

held_sound : (es : List SourceAndTargets) → length es ≤ 47 → sound es ≡ true → Sound (holding es)
unfolding holding
held_sound es h s = record { most = h; there = omega (arith, length-append es (replicate (47 - length es) no_entry)); squares = ap sound (held_entries es) ∙ s }

-- a list that is full is refused, and of any other its sequence is told
module _ (b : RetractableBoard) (l : RetractionList) (g : gate_of b ≡ nothing_refused) (e : l ≡ answer_of (list_on b)) where
  on : first_failing (full_test (list_on b)) ≡ first_failing (list_tests b)
  on = pass_on (board_tests b) (full_test (list_on b)) (gate_passes b (gate_of b) refl g)

  pub full_told : (s : List ℕ) → l.full ≡ true → Writes (list_tests b) (map packed (sequence_on b)) s (listed_says (Err (notListed Full))) s
  full_told s f = writes_refused Full (full_fails (list_on b) l e f ∙ on)

  module _ (f : l.full ≡ false) where
    passed : first_failing (list_tests b) ≡ 0
    passed = sym on ∙ held_passes (list_on b) l e f

    held : l ≡ holding (list_on b)
    held = held_is (list_on b) l e f

    pub list_ready : Sound l
    list_ready = subst Sound (sym held) (held_sound (list_on b) (list_passed b passed).1 (list_sound b))

    pub told : (ms s after : List ℕ) (r : Result ℕ Unlisted) → ms ≡ masks_on b → Writes [] (map packed (sequence_of ms (entries_of l))) s (listed_says r) after
        → Writes (list_tests b) (map packed (sequence_on b)) s (listed_says r) after
    unfolding sequence_on
    told ms s after r m x = writes_behind passed (rw (m, ap entries_of held ∙ held_entries (list_on b)) at x)
