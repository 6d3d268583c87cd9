-- A turn that isn't the last uses up fuel, so `step_of` does not depend on how much there is.
use mathlib.Core.Path.{◌≡◌, refl, ap, ◌∙◌}
use mathlib.Core.Bool.{Bool, true, false, cond}
use mathlib.Core.List.{List, [], ◌∷◌}
use Prim.Native.Nat.{ℕ, zero, suc, ◌+◌, ◌≤◌, ◌<◌}
use native.Mathlib.Nat.{le_refl, le_of_suc-le-suc, not-suc-le-zero, lt_of_lt_of_le}
use native.Mathlib.Numerals.{add-one}
use native.Mathlib.Omega.{arith}
use lib.Dec.{leb, ltb}
use lib.ListN.{length, get_or, set, drop}
use borrow.Author.Tests.{ltb-true, ltb-false, leb-false}
use Rattle.squares.specs.Squares.{set_of, besides}
use Rattle.squares.specs.Members.{members, head_or, lowest_of}
use Rattle.laws.specs.declared.ChessRetraction.{ChessRetraction}
use Rattle.retraction_list.specs.declared.SourceAndTargets.{SourceAndTargets}
use Rattle.retraction_list.specs.Entries.{no_entry}
use Rattle.retraction_gen.specs.declared.RetractionGen.{RetractionGen}
use Rattle.retraction_gen.specs.declared.Turn.{Turn}
use Rattle.retraction_gen.specs.declared.Turn.TheVariants.{Again, Found, Over}
use Rattle.retraction_gen.specs.declared.Turned.{Turned}
use Rattle.retraction_gen.specs.Cursors.{with_index, with_uncaptured, turned, retraction_said, end_said, Answered, back, entry_at, lessened, spent, is_un_en_passant, barred, un_en_passant_to, uncaptured_to, turn_in, on_entry, turn_of, weigh, fuel, answered, run_of, step_of}
use Rattle.squares.proofs.Testing.{left, right}
use Rattle.squares.proofs.Members.{members_none}
use Rattle.retraction_gen.proofs.Lowest.{members_lowest}

pub on_index : (g : RetractionGen) → on_entry g ≡ true → g.index < 47
unfolding on_entry
on_index g e = ltb-true g.index 47 (right (ltb g.index g.len) _ e)

pub on_len : (g : RetractionGen) → on_entry g ≡ true → g.index < g.len
unfolding on_entry
on_len g e = ltb-true g.index g.len (left (ltb g.index g.len) _ e)

weigh_drop : (es : List SourceAndTargets) (i : ℕ) → weigh (drop (suc i) es) ≤ weigh (drop i es)
unfolding weigh
weigh_drop [] zero = le_refl 0
weigh_drop [] (suc i) = le_refl 0
weigh_drop (e ∷ es) zero = omega arith
weigh_drop (e ∷ es) (suc i) = weigh_drop es i

-- an entry with a lowest target has one target more than without it
one_less : (s : ℕ) → lowest_of s < 64 → length (members (set_of (besides s (lowest_of s)))) < length (members s)
one_less s h = omega (arith, ap length (members_lowest s h))

pub lowest_none : lowest_of 0 ≡ 64
unfolding lowest_of
lowest_none = ap (head_or 64) members_none

weigh_set : (es : List SourceAndTargets) (i : ℕ) → lowest_of (get_or es i no_entry).targets < 64
    → weigh (drop i (set es i (lessened (get_or es i no_entry)))) < weigh (drop i es)
unfolding weigh
weigh_set [] i h = absurd (omega (arith, lowest_none))
weigh_set (e ∷ es) zero h = omega (arith, one_less e.targets h)
weigh_set (e ∷ es) (suc i) h = weigh_set es i h

index_less : (g : RetractionGen) → g.index < 47 → fuel (with_index g (g.index + 1)) < fuel g
unfolding fuel
index_less g h = rw add-one (omega (arith, weigh_drop g.entries g.index))

spent_less : (g : RetractionGen) (u : ℕ) → lowest_of (entry_at g).targets < 64 → fuel (with_uncaptured (spent g) u) < fuel g
unfolding fuel spent
spent_less g u h = omega (arith, weigh_set g.entries g.index h)

kind_less : (g : RetractionGen) → g.uncaptured < 6 → fuel (with_uncaptured g (g.uncaptured + 1)) < fuel g
unfolding fuel
kind_less g h = omega arith

-- each test is taken apart by its Bool
abbrev Less : RetractionGen → Turned → Type 0
Less g t = (t.turn ≡ Over → ⊥) → fuel t.cursor < fuel g

in_ways : (g : RetractionGen) (r r' : ChessRetraction) (p u b : Bool) → leb 6 g.uncaptured ≡ u → lowest_of (entry_at g).targets < 64
    → Less g
    (cond p (turned (spent g) (Found r))
    (cond u (turned (with_uncaptured (spent g) 0) Again)
    (cond b (turned (with_uncaptured g (g.uncaptured + 1)) Again) (turned (with_uncaptured g (g.uncaptured + 1)) (Found r')))))
unfolding spent
in_ways g r r' true u b h k e = spent_less g g.uncaptured k
in_ways g r r' false true b h k e = spent_less g 0 k
in_ways g r r' false false true h k e = kind_less g (leb-false 6 g.uncaptured h)
in_ways g r r' false false false h k e = kind_less g (leb-false 6 g.uncaptured h)

in_less : (g : RetractionGen) → lowest_of (entry_at g).targets < 64 → Less g (turn_in g (entry_at g))
unfolding turn_in
in_less g k e =
    in_ways g (un_en_passant_to (entry_at g) (lowest_of (entry_at g).targets)) (uncaptured_to (entry_at g) (lowest_of (entry_at g).targets) g.uncaptured)
    (is_un_en_passant (entry_at g).kind) (leb 6 g.uncaptured)
    (barred (get_or g.masks g.uncaptured 0) (entry_at g).source (entry_at g).kind g.uncaptured)
    refl k e

ways : (g : RetractionGen) (o z : Bool) → on_entry g ≡ o → ltb 63 (lowest_of (entry_at g).targets) ≡ z
    → Less g (cond o (cond z (turned (with_index g (g.index + 1)) Again) (turn_in g (entry_at g))) (turned g Over))
ways g false z h k e = absurd (e refl)
ways g true true h k e = index_less g (on_index g h)
ways g true false h k e = in_less g (let l : lowest_of (entry_at g).targets ≤ 63 = ltb-false 63 (lowest_of (entry_at g).targets) k in omega arith) e

pub turn_less : (g : RetractionGen) → Less g (turn_of g)
unfolding turn_of
turn_less g e = ways g (on_entry g) (ltb 63 (lowest_of (entry_at g).targets)) refl refl e

not_over : (t : Turn) → t ≡ Again → t ≡ Over → ⊥
not_over t a o = omega (arith, (let z : ◌≡◌ {A = ℕ} 0 1 = cc in z))

pub again_less : (g : RetractionGen) → (turn_of g).turn ≡ Again → fuel (turn_of g).cursor < fuel g
again_less g e = turn_less g (not_over (turn_of g).turn e)

-- with more fuel than is needed the answer is the same
same_way : (g : RetractionGen) (t : Turn) (x y : Answered) → (t ≡ Again → x ≡ y) → answered t g x ≡ answered t g y
same_way g Again x y h = h refl
same_way g (Found r) x y h = refl
same_way g Over x y h = refl

enough : (n m : ℕ) (g : RetractionGen) → fuel g < n → fuel g < m → run_of n g ≡ run_of m g
unfolding run_of
enough zero m g p q = absurd (not-suc-le-zero p)
enough (suc n) zero g p q = absurd (not-suc-le-zero q)
enough (suc n) (suc m) g p q =
    same_way (turn_of g).cursor (turn_of g).turn (run_of n (turn_of g).cursor) (run_of m (turn_of g).cursor)
    (λ e. enough n m (turn_of g).cursor (lt_of_lt_of_le (again_less g e) (le_of_suc-le-suc p)) (lt_of_lt_of_le (again_less g e) (le_of_suc-le-suc q)))

pub step_again : (g : RetractionGen) → (turn_of g).turn ≡ Again → step_of g ≡ step_of (turn_of g).cursor
unfolding step_of run_of
step_again g e =
    ap (λ (t : Turn). answered t (turn_of g).cursor (run_of (fuel g) (turn_of g).cursor)) e
    ∙ enough (fuel g) (suc (fuel (turn_of g).cursor)) (turn_of g).cursor (again_less g e) (le_refl _)

pub step_found : (g : RetractionGen) (r : ChessRetraction) → (turn_of g).turn ≡ Found r → step_of g ≡ back (turn_of g).cursor (retraction_said r)
unfolding step_of run_of
step_found g r e = ap (λ (t : Turn). answered t (turn_of g).cursor (run_of (fuel g) (turn_of g).cursor)) e

pub step_over : (g : RetractionGen) → (turn_of g).turn ≡ Over → step_of g ≡ back (turn_of g).cursor end_said
unfolding step_of run_of
step_over g e = ap (λ (t : Turn). answered t (turn_of g).cursor (run_of (fuel g) (turn_of g).cursor)) e
