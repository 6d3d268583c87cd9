-- What a cursor has still to give, and that a turn gives its head or nothing of it.
use mathlib.Core.Path.{◌≡◌, refl, sym, ap, ap₂, ◌∙◌}
use mathlib.Core.Bool.{Bool, true, false, not, cond}
use mathlib.Core.List.{List, [], ◌∷◌, ◌++◌, map}
use Prim.Native.Nat.{ℕ, zero, suc, ◌+◌, ◌-◌, ◌≤◌, ◌<◌}
use native.Mathlib.Nat.{le_of_suc-le-suc, not-suc-le-zero}
use native.Mathlib.Numerals.{add-one}
use native.Mathlib.Omega.{arith}
use lib.Dec.{leb, ltb}
use lib.ListN.{get_or, set}
use borrow.Author.Tests.{ltb-true, ltb-false, leb-true, leb-false}
use Rattle.squares.specs.Tests.{◌and◌}
use Rattle.squares.specs.Members.{members, concat, lowest_of, numbers_from}
use Rattle.laws.specs.declared.ChessRetraction.{ChessRetraction}
use Rattle.retraction_list.specs.declared.SourceAndTargets.{SourceAndTargets}
use Rattle.retraction_list.specs.Entries.{no_entry}
use Rattle.retraction_gen.specs.declared.RetractionGen.{RetractionGen}
use Rattle.retraction_gen.specs.declared.Turn.{Turn}
use Rattle.retraction_gen.specs.declared.Turn.TheVariants.{Again, Found, Over}
use Rattle.retraction_gen.specs.declared.Turned.{Turned}
use Rattle.retraction_gen.specs.Cursors.{with_index, with_uncaptured, turned, entry_at, lessened, spent, is_un_en_passant, barred, un_en_passant_to, uncaptured_to, turn_in, on_entry, turn_of}
use Rattle.retraction_gen.specs.inner.Rest.{listed, later, rest_in, window_of, rest_of}
use Rattle.retraction_gen.specs.Sequence.{allowed, sequence_of}
use Rattle.retraction_gen.proofs.Lowest.{members_lowest, members_empty}
use Rattle.retraction_gen.proofs.Going.{on_len, lowest_none}

-- at the start it is the sequence
at_first : (once : ℕ → ChessRetraction) (each : ℕ → ℕ → ChessRetraction) (ok : ℕ → Bool) (p : Bool) (ts : List ℕ)
    → listed once each ok p 0 ts ≡ concat (λ t. cond p (once t ∷ []) (map (each t) (numbers_from ok 0 6))) ts
unfolding listed concat
at_first once each ok true ts = refl
at_first once each ok false [] = refl
at_first once each ok false (t ∷ ts) = refl

stays_first : (p : Bool) (ts : List ℕ) → later p 0 ts ≡ 0
unfolding later
stays_first true ts = refl
stays_first false [] = refl
stays_first false (t ∷ ts) = refl

pub rest_sequence : (ms : List ℕ) (es : List SourceAndTargets) → rest_in ms 0 es ≡ sequence_of ms es
unfolding rest_in sequence_of
rest_sequence ms [] = refl
rest_sequence ms (e ∷ es) =
    ap₂ ◌++◌ (at_first (un_en_passant_to e) (uncaptured_to e) (allowed ms e) (is_un_en_passant e.kind) (members e.targets))
    (ap (λ (u : ℕ). rest_in ms u es) (stays_first (is_un_en_passant e.kind) (members e.targets)) ∙ rest_sequence ms es)

-- stores beside the window
get_other : (es : List SourceAndTargets) (i j : ℕ) (x : SourceAndTargets) → i < j → get_or (set es i x) j no_entry ≡ get_or es j no_entry
get_other [] i j x h = refl
get_other (e ∷ es) i zero x h = absurd (not-suc-le-zero h)
get_other (e ∷ es) zero (suc j) x h = refl
get_other (e ∷ es) (suc i) (suc j) x h = get_other es i j x (le_of_suc-le-suc h)

get_same : (es : List SourceAndTargets) (i : ℕ) (x : SourceAndTargets) → lowest_of (get_or es i no_entry).targets < 64 → get_or (set es i x) i no_entry ≡ x
get_same [] i x h = absurd (omega (arith, lowest_none))
get_same (e ∷ es) zero x h = refl
get_same (e ∷ es) (suc i) x h = get_same es i x h

window_other : (n : ℕ) (es : List SourceAndTargets) (i j : ℕ) (x : SourceAndTargets) → i < j → window_of n j (set es i x) ≡ window_of n j es
unfolding window_of
window_other zero es i j x h = refl
window_other (suc n) es i j x h = ap₂ ◌∷◌ (get_other es i j x h) (window_other n es i (suc j) x (omega arith))

-- the window at an entry
window_at : (es : List SourceAndTargets) (len i : ℕ) → i < len → window_of (len - i) i es ≡ get_or es i no_entry ∷ window_of (len - suc i) (suc i) es
unfolding window_of
window_at es len i h = let e : len - i ≡ suc (len - suc i) = omega arith in ap (λ (n : ℕ). window_of n i es) e

-- what a turn gives
abbrev pub found : Turn → List ChessRetraction → List ChessRetraction
found Again l = l
found (Found r) l = r ∷ l
found Over l = []

-- an entry's part, turn by turn
no_target : (once : ℕ → ChessRetraction) (each : ℕ → ℕ → ChessRetraction) (ok : ℕ → Bool) (p : Bool) (u : ℕ) → listed once each ok p u [] ≡ []
unfolding listed concat
no_target once each ok true u = refl
no_target once each ok false u = refl

no_later : (p : Bool) (u : ℕ) → later p u [] ≡ u
unfolding later
no_later true u = refl
no_later false u = refl

others_from : (once : ℕ → ChessRetraction) (each : ℕ → ℕ → ChessRetraction) (ok : ℕ → Bool) (u t : ℕ) (ts : List ℕ) → 6 ≤ u
    → listed once each ok false u (t ∷ ts) ≡ listed once each ok false 0 ts
unfolding listed
others_from once each ok u t ts h =
    let e : 6 - u ≡ 0 = omega arith in
    ap (λ (n : ℕ). map (each t) (numbers_from ok u n) ++ concat (λ k. map (each k) (numbers_from ok 0 6)) ts) e ∙ sym (at_first once each ok false ts)

number_at : (ok : ℕ → Bool) (u : ℕ) → u < 6 → numbers_from ok u (6 - u) ≡ cond (ok u) (u ∷ numbers_from ok (u + 1) (6 - (u + 1))) (numbers_from ok (u + 1) (6 - (u + 1)))
number_at ok u h =
    let e : 6 - u ≡ suc (6 - (u + 1)) = omega arith in
    ap (λ (n : ℕ). numbers_from ok u n) e ∙ at (ok u)
  where
    at : (t : Bool) → elim t as (λ _. List ℕ) [ true ↦ u ∷ numbers_from ok (suc u) (6 - (u + 1)) | false ↦ numbers_from ok (suc u) (6 - (u + 1)) ]
        ≡ cond t (u ∷ numbers_from ok (u + 1) (6 - (u + 1))) (numbers_from ok (u + 1) (6 - (u + 1)))
    at true = ap (λ (v : ℕ). u ∷ numbers_from ok v (6 - (u + 1))) (sym (add-one u))
    at false = ap (λ (v : ℕ). numbers_from ok v (6 - (u + 1))) (sym (add-one u))

barred_from : (once : ℕ → ChessRetraction) (each : ℕ → ℕ → ChessRetraction) (ok : ℕ → Bool) (u t : ℕ) (ts : List ℕ) → u < 6 → ok u ≡ false
    → listed once each ok false u (t ∷ ts) ≡ listed once each ok false (u + 1) (t ∷ ts)
unfolding listed
barred_from once each ok u t ts h b =
    ap (λ (l : List ℕ). map (each t) l ++ concat (λ k. map (each k) (numbers_from ok 0 6)) ts)
    (number_at ok u h ∙ ap (λ (x : Bool). cond x (u ∷ numbers_from ok (u + 1) (6 - (u + 1))) (numbers_from ok (u + 1) (6 - (u + 1)))) b)

found_from : (once : ℕ → ChessRetraction) (each : ℕ → ℕ → ChessRetraction) (ok : ℕ → Bool) (u t : ℕ) (ts : List ℕ) → u < 6 → ok u ≡ true
    → listed once each ok false u (t ∷ ts) ≡ each t u ∷ listed once each ok false (u + 1) (t ∷ ts)
unfolding listed
found_from once each ok u t ts h b =
    ap (λ (l : List ℕ). map (each t) l ++ concat (λ k. map (each k) (numbers_from ok 0 6)) ts)
    (number_at ok u h ∙ ap (λ (x : Bool). cond x (u ∷ numbers_from ok (u + 1) (6 - (u + 1))) (numbers_from ok (u + 1) (6 - (u + 1)))) b)

-- the rest of a cursor that is on an entry
module _ (g : RetractionGen) (on : on_entry g ≡ true) where
  tail : List SourceAndTargets
  tail = window_of (g.len - suc g.index) (suc g.index) g.entries

  -- the part of the entry, with its uncaptured and targets, and what comes after
  abbrev part_of : Bool → ℕ → List ℕ → List ChessRetraction
  part_of p u ts = listed (un_en_passant_to (entry_at g)) (uncaptured_to (entry_at g)) (allowed g.masks (entry_at g)) p u ts ++ rest_in g.masks (later p u ts) tail

  rest_on : (u : ℕ) → rest_of (with_uncaptured g u) ≡ part_of (is_un_en_passant (entry_at g).kind) u (members (entry_at g).targets)
  unfolding rest_of rest_in tail
  rest_on u = ap (rest_in g.masks u) (window_at g.entries g.len g.index (on_len g on))

  rest_spent : (u : ℕ) → lowest_of (entry_at g).targets < 64
      → rest_of (with_uncaptured (spent g) u) ≡ part_of (is_un_en_passant (entry_at g).kind) u (members (lessened (entry_at g)).targets)
  unfolding rest_of rest_in spent tail
  rest_spent u h =
      ap (rest_in g.masks u)
      (window_at (set g.entries g.index (lessened (entry_at g))) g.len g.index (on_len g on)
      ∙ ap₂ ◌∷◌ (get_same g.entries g.index (lessened (entry_at g)) h)
      (window_other (g.len - suc g.index) g.entries g.index (suc g.index) (lessened (entry_at g)) (omega arith)))

  -- an entry without targets
  rest_skip : 64 ≤ lowest_of (entry_at g).targets → rest_of g ≡ rest_of (with_index g (g.index + 1))
  unfolding rest_of tail
  rest_skip h =
      rest_on g.uncaptured
      ∙ ap (part_of (is_un_en_passant (entry_at g).kind) g.uncaptured) (members_empty (entry_at g).targets h)
      ∙ ap₂ ◌++◌ (no_target (un_en_passant_to (entry_at g)) (uncaptured_to (entry_at g)) (allowed g.masks (entry_at g)) (is_un_en_passant (entry_at g).kind) g.uncaptured)
      (ap (λ (u : ℕ). rest_in g.masks u tail) (no_later (is_un_en_passant (entry_at g).kind) g.uncaptured))
      ∙ ap (λ (i : ℕ). rest_in g.masks g.uncaptured (window_of (g.len - i) i g.entries)) (sym (add-one g.index))

  -- the turns at a target
  abbrev Gives : Turned → Type 0
  Gives t = rest_of g ≡ found t.turn (rest_of t.cursor)

  in_ways : (p u b : Bool) → is_un_en_passant (entry_at g).kind ≡ p → leb 6 g.uncaptured ≡ u
      → barred (get_or g.masks g.uncaptured 0) (entry_at g).source (entry_at g).kind g.uncaptured ≡ b → lowest_of (entry_at g).targets < 64
      → Gives
      (cond p (turned (spent g) (Found (un_en_passant_to (entry_at g) (lowest_of (entry_at g).targets))))
      (cond u (turned (with_uncaptured (spent g) 0) Again)
      (cond b (turned (with_uncaptured g (g.uncaptured + 1)) Again)
      (turned (with_uncaptured g (g.uncaptured + 1)) (Found (uncaptured_to (entry_at g) (lowest_of (entry_at g).targets) g.uncaptured))))))
  unfolding listed later concat spent
  in_ways true u b pe ue be h =
      rest_on g.uncaptured ∙ ap₂ (λ (p : Bool) (ts : List ℕ). part_of p g.uncaptured ts) pe (members_lowest (entry_at g).targets h)
      ∙ ap (λ (l : List ChessRetraction). un_en_passant_to (entry_at g) (lowest_of (entry_at g).targets) ∷ l)
      (sym (rest_spent g.uncaptured h ∙ ap (λ (p : Bool). part_of p g.uncaptured (members (lessened (entry_at g)).targets)) pe))
  in_ways false true b pe ue be h =
      rest_on g.uncaptured ∙ ap₂ (λ (p : Bool) (ts : List ℕ). part_of p g.uncaptured ts) pe (members_lowest (entry_at g).targets h)
      ∙ ap₂ (λ (l : List ChessRetraction) (v : ℕ). l ++ rest_in g.masks v tail)
      (others_from (un_en_passant_to (entry_at g)) (uncaptured_to (entry_at g)) (allowed g.masks (entry_at g)) g.uncaptured (lowest_of (entry_at g).targets)
      (members (lessened (entry_at g)).targets) (leb-true 6 g.uncaptured ue))
      (sym (stays_first false (members (lessened (entry_at g)).targets)))
      ∙ sym (rest_spent 0 h ∙ ap (λ (p : Bool). part_of p 0 (members (lessened (entry_at g)).targets)) pe)
  in_ways false false true pe ue be h =
      rest_on g.uncaptured ∙ ap₂ (λ (p : Bool) (ts : List ℕ). part_of p g.uncaptured ts) pe (members_lowest (entry_at g).targets h)
      ∙ ap (λ (l : List ChessRetraction). l ++ rest_in g.masks 0 tail)
      (barred_from (un_en_passant_to (entry_at g)) (uncaptured_to (entry_at g)) (allowed g.masks (entry_at g)) g.uncaptured (lowest_of (entry_at g).targets)
      (members (lessened (entry_at g)).targets) (leb-false 6 g.uncaptured ue) (ap not be))
      ∙ sym (rest_on (g.uncaptured + 1) ∙ ap₂ (λ (p : Bool) (ts : List ℕ). part_of p (g.uncaptured + 1) ts) pe (members_lowest (entry_at g).targets h))
  in_ways false false false pe ue be h =
      rest_on g.uncaptured ∙ ap₂ (λ (p : Bool) (ts : List ℕ). part_of p g.uncaptured ts) pe (members_lowest (entry_at g).targets h)
      ∙ ap (λ (l : List ChessRetraction). l ++ rest_in g.masks 0 tail)
      (found_from (un_en_passant_to (entry_at g)) (uncaptured_to (entry_at g)) (allowed g.masks (entry_at g)) g.uncaptured (lowest_of (entry_at g).targets)
      (members (lessened (entry_at g)).targets) (leb-false 6 g.uncaptured ue) (ap not be))
      ∙ ap (λ (l : List ChessRetraction). uncaptured_to (entry_at g) (lowest_of (entry_at g).targets) g.uncaptured ∷ l)
      (sym (rest_on (g.uncaptured + 1) ∙ ap₂ (λ (p : Bool) (ts : List ℕ). part_of p (g.uncaptured + 1) ts) pe (members_lowest (entry_at g).targets h)))

  in_gives : lowest_of (entry_at g).targets < 64 → Gives (turn_in g (entry_at g))
  unfolding turn_in
  in_gives h =
      in_ways (is_un_en_passant (entry_at g).kind) (leb 6 g.uncaptured)
      (barred (get_or g.masks g.uncaptured 0) (entry_at g).source (entry_at g).kind g.uncaptured) refl refl refl h

-- at the end
off_empty : (g : RetractionGen) → g.len ≤ 47 → on_entry g ≡ false → rest_of g ≡ []
unfolding rest_of on_entry rest_in window_of ◌and◌
off_empty g w off = let e : g.len - g.index ≡ 0 = none (ltb g.index g.len) refl in ap (λ (n : ℕ). rest_in g.masks g.uncaptured (window_of n g.index g.entries)) e
  where
    none : (t : Bool) → ltb g.index g.len ≡ t → g.len - g.index ≡ 0
    none false e = omega (arith, ltb-false g.index g.len e)
    none true e =
        let f : ltb g.index 47 ≡ false = sym (ap (λ (t : Bool). t and ltb g.index 47) e) ∙ off in
        omega (arith, ltb-false g.index 47 f)

ways : (g : RetractionGen) (o z : Bool) → g.len ≤ 47 → on_entry g ≡ o → ltb 63 (lowest_of (entry_at g).targets) ≡ z
    → (let t : Turned = cond o (cond z (turned (with_index g (g.index + 1)) Again) (turn_in g (entry_at g))) (turned g Over) in rest_of g ≡ found t.turn (rest_of t.cursor))
ways g false z w h k = off_empty g w h
ways g true true w h k = rest_skip g h (ltb-true 63 (lowest_of (entry_at g).targets) k)
ways g true false w h k = in_gives g h (let l : lowest_of (entry_at g).targets ≤ 63 = ltb-false 63 (lowest_of (entry_at g).targets) k in omega arith)

-- a turn gives the head of what remains, or nothing, and ends where nothing remains
pub turn_gives : (g : RetractionGen) → g.len ≤ 47 → rest_of g ≡ found (turn_of g).turn (rest_of (turn_of g).cursor)
unfolding turn_of
turn_gives g w = ways g (on_entry g) (ltb 63 (lowest_of (entry_at g).targets)) w refl refl
