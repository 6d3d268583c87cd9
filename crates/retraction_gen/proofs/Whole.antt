-- The whole sequence: the cursor that `new_legal` makes yields the sequence of the board, in order, and then the end.
use mathlib.Core.Path.{◌≡◌, refl, sym, ap, ◌∙◌, subst}
use mathlib.Core.Bool.{Bool, true, false, cond}
use mathlib.Core.List.{List, [], ◌∷◌, ◌++◌}
use Prim.Native.Nat.{ℕ, zero, suc, ◌+◌, ◌-◌, ◌≤◌, ◌<◌}
use native.Mathlib.Nat.{le_refl, le_of_suc-le-suc, not-suc-le-zero, lt_of_lt_of_le}
use native.Mathlib.Omega.{arith}
use lib.Dec.{leb, ltb, lit<}
use lib.ListN.{length, get_or, set, take, replicate}
use borrow.Author.Tests.{leb-true, le-leb, ltb-false, ltb-true, leb-false}
use Rattle.squares.specs.Tests.{◌and◌}
use Rattle.refusal.specs.Said.{first_failing}
use Rattle.board.specs.declared.RetractableBoard.{RetractableBoard}
use Rattle.laws.specs.declared.ChessRetraction.{ChessRetraction}
use Rattle.laws.specs.Retractions.{InRange}
use Rattle.retraction_list.specs.declared.SourceAndTargets.{SourceAndTargets}
use Rattle.retraction_list.specs.Entries.{no_entry, holding, sound}
use Rattle.retraction_gen.specs.declared.RetractionGen.{RetractionGen}
use Rattle.retraction_gen.specs.declared.Turn.{Turn}
use Rattle.retraction_gen.specs.declared.Turn.TheVariants.{Again, Found, Over}
use Rattle.retraction_gen.specs.Making.{list_on, masks_on, start_of, list_tests, cursor_on, Makes}
use Rattle.retraction_gen.specs.Cursors.{with_index, with_uncaptured, turned, retraction_said, end_said, Answered, back, entry_at, lessened, spent, is_un_en_passant, barred, un_en_passant_to, uncaptured_to, turn_in, on_entry, turn_of, fuel, step_of, well_formed, next_of}
use Rattle.squares.specs.Members.{lowest_of}
use Rattle.retraction_gen.specs.Sequence.{sequence_of, sequence_on, Yields}
use Rattle.retraction_gen.specs.inner.Rest.{rest_in, window_of, rest_of}
use Rattle.retraction_gen.proofs.Going.{on_len, again_less, turn_less, step_again, step_found, step_over}
use Rattle.squares.proofs.Testing.{both, left, right}
use Rattle.retraction_gen.proofs.Remaining.{found, turn_gives, rest_sequence}
use Rattle.std.specs.Prelude.{Ok}
use Rattle.retraction_gen.proofs.Gated.{list_passed}
use Rattle.retraction_gen.proofs.Sources.{list_sound}

-- a turn keeps a cursor well formed
sound_set : (es : List SourceAndTargets) (i n : ℕ) → sound (take n (set es i (lessened (get_or es i no_entry)))) ≡ sound (take n es)
unfolding sound
sound_set [] i n = refl
sound_set (e ∷ es) i zero = refl
sound_set (e ∷ es) zero (suc n) = refl
sound_set (e ∷ es) (suc i) (suc n) = ap (λ (t : Bool). ltb e.source 64 and t) (sound_set es i n)

spent_formed : (g : RetractionGen) (u : ℕ) → well_formed (with_uncaptured (spent g) u) ≡ well_formed g
unfolding well_formed spent
spent_formed g u = ap (λ (t : Bool). leb g.len 47 and t) (sound_set g.entries g.index g.len)

in_formed : (g : RetractionGen) (r r' : ChessRetraction) (p u b : Bool)
    → well_formed
    (cond p (turned (spent g) (Found r))
    (cond u (turned (with_uncaptured (spent g) 0) Again)
    (cond b (turned (with_uncaptured g (g.uncaptured + 1)) Again) (turned (with_uncaptured g (g.uncaptured + 1)) (Found r'))))).cursor
    ≡ well_formed g
unfolding well_formed spent
in_formed g r r' true u b = spent_formed g g.uncaptured
in_formed g r r' false true b = spent_formed g 0
in_formed g r r' false false true = refl
in_formed g r r' false false false = refl

ways_formed : (g : RetractionGen) (o z : Bool)
    → well_formed (cond o (cond z (turned (with_index g (g.index + 1)) Again) (turn_in g (entry_at g))) (turned g Over)).cursor ≡ well_formed g
unfolding well_formed turn_in
ways_formed g false z = refl
ways_formed g true true = refl
ways_formed g true false =
    in_formed g (un_en_passant_to (entry_at g) (lowest_of (entry_at g).targets)) (uncaptured_to (entry_at g) (lowest_of (entry_at g).targets) g.uncaptured)
    (is_un_en_passant (entry_at g).kind) (leb 6 g.uncaptured)
    (barred (get_or g.masks g.uncaptured 0) (entry_at g).source (entry_at g).kind g.uncaptured)

pub turn_formed : (g : RetractionGen) → well_formed (turn_of g).cursor ≡ well_formed g
unfolding turn_of
turn_formed g = ways_formed g (on_entry g) (ltb 63 (lowest_of (entry_at g).targets))

pub formed_len : (g : RetractionGen) → well_formed g ≡ true → g.len ≤ 47
unfolding well_formed
formed_len g w = leb-true g.len 47 (left (leb g.len 47) _ w)

-- of a well formed cursor `next` is the step
is_step : (g : RetractionGen) → well_formed g ≡ true → next_of g ≡ step_of g
is_step g w = ap (λ (t : Bool). cond t (step_of g) (back g end_said)) w

same_yields : (g h : RetractionGen) (l : List ChessRetraction) → next_of g ≡ next_of h → Yields h l → Yields g l
unfolding Yields
same_yields g h [] e y = ap (λ (s : Answered). s.said) e ∙ y
same_yields g h (r ∷ rs) e y = (ap (λ (s : Answered). s.said) e ∙ y.0, subst (λ (k : RetractionGen). Yields k rs) (sym (ap (λ (s : Answered). s.cursor) e)) y.1)

yields_end : (g h : RetractionGen) → next_of g ≡ back h end_said → Yields g []
unfolding Yields
yields_end g h e = ap (λ (s : Answered). s.said) e

yields_one : (g h : RetractionGen) (r : ChessRetraction) (rs : List ChessRetraction) → next_of g ≡ back h (retraction_said r) → Yields h rs → Yields g (r ∷ rs)
unfolding Yields
yields_one g h r rs e y = (ap (λ (s : Answered). s.said) e, subst (λ (k : RetractionGen). Yields k rs) (sym (ap (λ (s : Answered). s.cursor) e)) y)

no_over : (r : ChessRetraction) → ◌≡◌ {A = Turn} (Found r) Over → ⊥
no_over r e = omega (arith, (let z : ◌≡◌ {A = ℕ} 0 1 = cc in z))

yields_turn : (g : RetractionGen) (t : Turn) → (turn_of g).turn ≡ t → well_formed g ≡ true → well_formed (turn_of g).cursor ≡ true
    → (fuel (turn_of g).cursor < fuel g → Yields (turn_of g).cursor (rest_of (turn_of g).cursor)) → Yields g (found t (rest_of (turn_of g).cursor))
yields_turn g Again e w w' k =
    same_yields g (turn_of g).cursor (rest_of (turn_of g).cursor) (is_step g w ∙ step_again g e ∙ sym (is_step (turn_of g).cursor w')) (k (again_less g e))
yields_turn g (Found r) e w w' k =
    yields_one g (turn_of g).cursor r (rest_of (turn_of g).cursor) (is_step g w ∙ step_found g r e) (k (turn_less g (λ o. no_over r (sym e ∙ o))))
yields_turn g Over e w w' k = yields_end g (turn_of g).cursor (is_step g w ∙ step_over g e)

yields_in : (n : ℕ) (g : RetractionGen) → fuel g < n → well_formed g ≡ true → Yields g (rest_of g)
yields_in zero g f w = absurd (not-suc-le-zero f)
yields_in (suc n) g f w =
    subst (Yields g) (sym (turn_gives g (formed_len g w)))
    (yields_turn g (turn_of g).turn refl w (turn_formed g ∙ w)
    (λ l. yields_in n (turn_of g).cursor (lt_of_lt_of_le l (le_of_suc-le-suc f)) (turn_formed g ∙ w)))

-- every well formed cursor yields what remains, and then the end
yields_rest : (g : RetractionGen) → well_formed g ≡ true → Yields g (rest_of g)
yields_rest g w = yields_in (suc (fuel g)) g (le_refl _) w

-- the start
take_front : (xs ys : List SourceAndTargets) → take (length xs) (xs ++ ys) ≡ xs
take_front [] ys = refl
take_front (x ∷ xs) ys = ap (λ (l : List SourceAndTargets). x ∷ l) (take_front xs ys)

window_tail : (n i : ℕ) (x : SourceAndTargets) (xs : List SourceAndTargets) → window_of n (suc i) (x ∷ xs) ≡ window_of n i xs
unfolding window_of
window_tail zero i x xs = refl
window_tail (suc n) i x xs = ap (λ (l : List SourceAndTargets). get_or xs i no_entry ∷ l) (window_tail n (suc i) x xs)

window_front : (xs ys : List SourceAndTargets) → window_of (length xs) 0 (xs ++ ys) ≡ xs
unfolding window_of
window_front [] ys = refl
window_front (x ∷ xs) ys = ap (λ (l : List SourceAndTargets). x ∷ l) (window_tail (length xs) 0 x (xs ++ ys) ∙ window_front xs ys)

pub start_formed : (es : List SourceAndTargets) (ms : List ℕ) → length es ≤ 47 → sound es ≡ true → well_formed (start_of (holding es) ms) ≡ true
unfolding well_formed holding
start_formed es ms h s = both (le-leb (length es) 47 h) (ap sound (take_front es (replicate (47 - length es) no_entry)) ∙ s)

pub start_rest : (es : List SourceAndTargets) (ms : List ℕ) → rest_of (start_of (holding es) ms) ≡ sequence_of ms es
unfolding rest_of holding
start_rest es ms =
    let e : length es - 0 ≡ length es = omega arith in
    ap (λ (n : ℕ). rest_in ms 0 (window_of n 0 (es ++ replicate (47 - length es) no_entry))) e
    ∙ ap (rest_in ms 0) (window_front es (replicate (47 - length es) no_entry)) ∙ rest_sequence ms es

-- whatever `new_legal` answers: where nothing is refused, the cursor is the start of the board's list
module _ (b : RetractableBoard) (g : RetractionGen) (k : Makes (list_tests b) (cursor_on b) (Ok g)) where
  none_failed : first_failing (list_tests b) ≡ 0
  none_failed = sym k.number

  pub made_start : g ≡ start_of (holding (list_on b)) (masks_on b)
  unfolding cursor_on
  made_start = k.cursor

  pub made_fits : length (list_on b) ≤ 47
  made_fits = (list_passed b none_failed).1

  -- "a cursor that yields its first retraction and then pretends to be at the end" is shut out
  pub whole_sequence : Yields g (sequence_on b)
  unfolding sequence_on
  whole_sequence =
      subst (λ (h : RetractionGen). Yields h (sequence_of (masks_on b) (list_on b))) (sym made_start)
      (subst (Yields (start_of (holding (list_on b)) (masks_on b))) (start_rest (list_on b) (masks_on b))
      (yields_rest (start_of (holding (list_on b)) (masks_on b)) (start_formed (list_on b) (masks_on b) made_fits (list_sound b))))

-- what a well formed cursor finds is in range
pub sound_at : (es : List SourceAndTargets) (n i : ℕ) → sound (take n es) ≡ true → i < n → (get_or es i no_entry).source < 64
unfolding sound
sound_at [] n i h l = lit< tt
sound_at (e ∷ es) zero i h l = absurd (not-suc-le-zero l)
sound_at (e ∷ es) (suc n) zero h l = ltb-true e.source 64 (left (ltb e.source 64) _ h)
sound_at (e ∷ es) (suc n) (suc i) h l = sound_at es n i (right (ltb e.source 64) _ h) (le_of_suc-le-suc l)

abbrev InTurn : Turn → Type 0
InTurn t = (r : ChessRetraction) → t ≡ Found r → InRange r

no_again : (r : ChessRetraction) {A : Type 0} → ◌≡◌ {A = Turn} Again (Found r) → A
no_again r e = absurd (omega (arith, (let z : ◌≡◌ {A = ℕ} 0 1 = cc in z)))

over_no : (r : ChessRetraction) {A : Type 0} → ◌≡◌ {A = Turn} Over (Found r) → A
over_no r e = absurd (omega (arith, (let z : ◌≡◌ {A = ℕ} 0 1 = cc in z)))

found_or : ChessRetraction → Turn → ChessRetraction
found_or d (Found r) = r
found_or d Again = d
found_or d Over = d

same_found : (r r' : ChessRetraction) → ◌≡◌ {A = Turn} (Found r) (Found r') → InRange r → InRange r'
unfolding found_or
same_found r r' e h = subst InRange (ap (found_or r) e) h

in_range : (g : RetractionGen) (p u b : Bool) → leb 6 g.uncaptured ≡ u → lowest_of (entry_at g).targets < 64 → (entry_at g).source < 64
    → InTurn
    (cond p (turned (spent g) (Found (un_en_passant_to (entry_at g) (lowest_of (entry_at g).targets))))
    (cond u (turned (with_uncaptured (spent g) 0) Again)
    (cond b (turned (with_uncaptured g (g.uncaptured + 1)) Again)
    (turned (with_uncaptured g (g.uncaptured + 1)) (Found (uncaptured_to (entry_at g) (lowest_of (entry_at g).targets) g.uncaptured)))))).turn
in_range g true u b h l s r e = same_found _ r e (record { source_in = s; target_in = l; uncaptured_in = omega arith })
in_range g false true b h l s r e = no_again r e
in_range g false false true h l s r e = no_again r e
in_range g false false false h l s r e = same_found _ r e (record { source_in = s; target_in = l; uncaptured_in = le_of_suc-le-suc (leb-false 6 g.uncaptured h) })

ways_range : (g : RetractionGen) (o z : Bool) → well_formed g ≡ true → on_entry g ≡ o → ltb 63 (lowest_of (entry_at g).targets) ≡ z
    → InTurn (cond o (cond z (turned (with_index g (g.index + 1)) Again) (turn_in g (entry_at g))) (turned g Over)).turn
unfolding turn_in well_formed
ways_range g false z w h k r e = over_no r e
ways_range g true true w h k r e = no_again r e
ways_range g true false w h k r e =
    in_range g (is_un_en_passant (entry_at g).kind) (leb 6 g.uncaptured)
    (barred (get_or g.masks g.uncaptured 0) (entry_at g).source (entry_at g).kind g.uncaptured) refl
    (let l : lowest_of (entry_at g).targets ≤ 63 = ltb-false 63 (lowest_of (entry_at g).targets) k in omega arith)
    (sound_at g.entries g.len g.index (right (leb g.len 47) _ w) (on_len g h)) r e

pub turn_range : (g : RetractionGen) → well_formed g ≡ true → (r : ChessRetraction) → (turn_of g).turn ≡ Found r → InRange r
unfolding turn_of
turn_range g w r e = ways_range g (on_entry g) (ltb 63 (lowest_of (entry_at g).targets)) w refl refl r e
