-- The test of a cursor's sources, one entry at a time; the ported list passes it, whatever the board.
use mathlib.Core.Path.{◌≡◌, refl, ap, ◌∙◌}
use mathlib.Core.Bool.{Bool, true, false}
use mathlib.Core.List.{List, [], ◌∷◌}
use Prim.Native.Nat.{ℕ, zero, suc, ◌+◌, ◌≤◌, ◌<◌}
use native.Mathlib.Nat.{le_of_suc-le-suc, not-suc-le-zero}
use native.Mathlib.Numerals.{add-one}
use native.Mathlib.Omega.{arith}
use lib.Dec.{ltb}
use lib.ListN.{get_or, take}
use borrow.Author.Tests.{lt-ltb, le-ltb}
use Rattle.squares.specs.Tests.{◌and◌}
use Rattle.retraction_list.specs.declared.SourceAndTargets.{SourceAndTargets}
use Rattle.retraction_list.specs.Entries.{no_entry, sound}
use Rattle.board.specs.declared.RetractableBoard.{RetractableBoard}
use Rattle.view.specs.Views.{view_of}
use Rattle.retraction_gen.specs.Making.{view_on, list_on}
use Rattle.squares.proofs.Testing.{both, left, right, and_false}
use Rattle.squares.proofs.Members.{first_lt}
use Rattle.enumerate.proofs.Sources.{sources_are}

more : (es : List SourceAndTargets) (i : ℕ) → sound (take i es) ≡ true → (get_or es i no_entry).source < 64 → sound (take (suc i) es) ≡ true
unfolding sound
more [] i h s = refl
more (e ∷ es) zero h s = both (lt-ltb e.source 64 s) refl
more (e ∷ es) (suc i) h s = both (left (ltb e.source 64) _ h) (more es i (right (ltb e.source 64) _ h) s)

pub sound_more : (es : List SourceAndTargets) (i : ℕ) → sound (take i es) ≡ true → (get_or es i no_entry).source < 64 → sound (take (i + 1) es) ≡ true
sound_more es i h s = rw add-one (more es i h s)

pub sound_bad : (es : List SourceAndTargets) (i n : ℕ) → i < n → 64 ≤ (get_or es i no_entry).source → sound (take n es) ≡ false
unfolding sound ◌and◌
sound_bad [] i n h s = absurd (omega arith)
sound_bad (e ∷ es) i zero h s = absurd (not-suc-le-zero h)
sound_bad (e ∷ es) zero (suc n) h s = ap (λ (t : Bool). t and sound (take n es)) (le-ltb e.source 64 s)
sound_bad (e ∷ es) (suc i) (suc n) h s = ap (λ (t : Bool). ltb e.source 64 and t) (sound_bad es i n (le_of_suc-le-suc h) s) ∙ and_false (ltb e.source 64)

pub list_sound : (b : RetractableBoard) → sound (list_on b) ≡ true
unfolding list_on view_of
list_sound b = sources_are (view_on b) (first_lt _)
