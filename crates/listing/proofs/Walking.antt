-- What is left of a target's, an entry's and a list's retractions after a turn of the loops.
use mathlib.Core.Path.{◌≡◌, sym, ap, ◌∙◌}
use mathlib.Core.Bool.{Bool, true}
use mathlib.Core.List.{List, [], ◌∷◌, ◌++◌, map}
use Prim.Native.Nat.{ℕ, suc, ◌+◌, ◌≤◌, ◌<◌, ◌^◌}
use native.Mathlib.Numerals.{add-one}
use native.Mathlib.Omega.{arith}
use lib.ListN.{length, get_or, take, drop, length-append, drop_of_length-le}
use lib.Seq.{length-take-le, drop-cons, get_or-take}
use Rattle.squares.specs.Squares.{has}
use Rattle.squares.specs.Members.{members, concat}
use Rattle.laws.specs.declared.ChessRetraction.{ChessRetraction}
use Rattle.laws.specs.Retractions.{InRange}
use Rattle.retraction_list.specs.declared.SourceAndTargets.{SourceAndTargets}
use Rattle.retraction_list.specs.declared.RetractionList.{RetractionList}
use Rattle.retraction_list.specs.Entries.{no_entry}
use Rattle.retraction_gen.specs.Sequence.{sequence_of}
use Rattle.retraction_gen.proofs.Whole.{sound_at}
use Rattle.squares.proofs.Comprehension.{member_below}
use Rattle.squares.proofs.Turns.{taken_in, kept_in}
use Rattle.listing.specs.inner.Giving.{retraction, of_target, of_entry, entries_of, Sound}
use Rattle.listing.proofs.Lengths.{sequence_fits}
use Rattle.listing.proofs.Filling.{Filling, filling_room}

-- each member is below 6
abbrev pub Low : ℕ → Type 0
Low s = (j : ℕ) → j < 64 → has s j ≡ true → j < 6

pub low_starts : {s : ℕ} → s < 64 → Low s
low_starts {s} h j l = member_below {n = 6} {s = s} j h

-- a turn that takes the member k
module _ (left next : ℕ) {k : ℕ} (m : members left ≡ k ∷ members next) where
  pub target_after : (s : ℕ) (p : Bool) (t : ℕ) → of_target s p left t ≡ (retraction s p t k ∷ []) ++ of_target s p next t
  unfolding of_target
  target_after s p t = ap (map (retraction s p t)) m

  pub entry_after : (f : ℕ → List ChessRetraction) → concat f (members left) ≡ f k ++ concat f (members next)
  unfolding concat
  entry_after f = ap (concat f) m

  pub entry_room : (f : ℕ → List ChessRetraction) {whole : List ChessRetraction} {s₀ : List ℕ} {n₀ : ℕ} {s : List ℕ} {m : ℕ} → Filling whole s₀ n₀ s m (concat f (members left))
      → m + length (f k) ≤ length s
  entry_room f g = filling_room g (f k) (concat f (members next)) (entry_after f)

  pub low_on : Low left → Low next
  low_on low j l h = low j l (kept_in left next m j l h)

  pub in_range : {s t : ℕ} {p : Bool} → s < 64 → t < 64 → Low left → InRange (retraction s p t k)
  in_range h i low =
      let taken = taken_in left m in
      let below : k < 6 = low k taken.0 taken.1 in
      record { source_in = h; target_in = i; uncaptured_in = omega arith }

module _ (left : ℕ) (e : members left ≡ []) where
  pub target_over : (s : ℕ) (p : Bool) (t : ℕ) → of_target s p left t ≡ []
  unfolding of_target
  target_over s p t = ap (map (retraction s p t)) e

  pub entry_over : (f : ℕ → List ChessRetraction) → concat f (members left) ≡ []
  unfolding concat
  entry_over f = ap (concat f) e

-- the entries from i on
module _ (ms : List ℕ) {l : RetractionList} (sound_list : Sound l) (i : ℕ) where
  held : length (take l.len l.entries) ≡ l.len
  held = length-take-le l.len l.entries sound_list.there

  pub list_after : i < l.len → sequence_of ms (drop i (entries_of l)) ≡ of_entry ms (get_or l.entries i no_entry) ++ sequence_of ms (drop (i + 1) (entries_of l))
  unfolding sequence_of of_entry entries_of
  list_after h =
      ap (sequence_of ms) (drop-cons (take l.len l.entries) i no_entry (omega (arith, held)))
      ∙ ap (λ (e : SourceAndTargets). of_entry ms e ++ sequence_of ms (drop (suc i) (take l.len l.entries))) (get_or-take l.len l.entries i no_entry h)
      ∙ ap (λ (j : ℕ). of_entry ms (get_or l.entries i no_entry) ++ sequence_of ms (drop j (take l.len l.entries))) (sym (add-one i))

  pub list_room : {whole : List ChessRetraction} {s₀ : List ℕ} {n₀ : ℕ} {s : List ℕ} {m : ℕ} → i < l.len → Filling whole s₀ n₀ s m (sequence_of ms (drop i (entries_of l)))
      → m + length (of_entry ms (get_or l.entries i no_entry)) ≤ length s
  list_room h f = filling_room f (of_entry ms (get_or l.entries i no_entry)) (sequence_of ms (drop (i + 1) (entries_of l))) (list_after h)

  pub list_source : i < l.len → (get_or l.entries i no_entry).source < 64
  unfolding entries_of
  list_source h = sound_at l.entries l.len i sound_list.squares h

  pub list_over : l.len ≤ i → sequence_of ms (drop i (entries_of l)) ≡ []
  unfolding sequence_of entries_of
  list_over h =
      let short : length (take l.len l.entries) ≤ i = omega (arith, held) in ap (sequence_of ms) (drop_of_length-le (take l.len l.entries) short)

  list_fits : length (sequence_of ms (entries_of l)) < 2 ^ 64
  unfolding entries_of
  list_fits = sequence_fits ms (take l.len l.entries) (omega (arith, held))

  -- one entry counted
  pub list_counts : (n : ℕ) {m : ℕ} → i < l.len → n + length (sequence_of ms (drop i (entries_of l))) ≡ length (sequence_of ms (entries_of l))
      → m ≡ length (of_entry ms (get_or l.entries i no_entry))
      → (n + m < 2 ^ 64) × (n + m + length (sequence_of ms (drop (i + 1) (entries_of l))) ≡ length (sequence_of ms (entries_of l)))
  list_counts n {m} h e c =
      let both = ap length (list_after h) ∙ length-append (of_entry ms (get_or l.entries i no_entry)) (sequence_of ms (drop (i + 1) (entries_of l))) in
      let all : n + m + length (sequence_of ms (drop (i + 1) (entries_of l))) ≡ length (sequence_of ms (entries_of l)) = omega arith in
      (omega (arith, list_fits), all)
