-- A slice that is set up is a fresh table.
use mathlib.Core.Path.{◌≡◌, refl, ap, ◌∙◌}
use mathlib.Core.Bool.{Bool, true, false, cond}
use mathlib.Core.List.{List, []}
use Prim.Native.Nat.{ℕ, zero, suc, ◌+◌, ◌<◌, ◌≤◌}
use native.Mathlib.Omega.{arith}
use lib.Dec.{eqb}
use lib.ListN.{length, get_or, set, replicate, length-set}
use lib.Seq.{get_or-set_same, get_or-set_other}
use borrow.Author.Tests.{eqb-true, eqb-false}
use Rattle.refusal.specs.Said.{number_said}
use Rattle.desks.specs.declared.Why.TheVariants.{Quota}
use Rattle.desks.specs.Desks.{free, held, fresh, Answer, grants, refuses}
use Rattle.desks.specs.Layout.{base, mark_at, board_at, place_at, places_from, room, fits, table_of}
use Rattle.desks.specs.Calls.{cleared}
use Rattle.desks.specs.Runs.{FreshlySetUp}
use Rattle.desks.proofs.Room.{has_room}
use Rattle.desks.proofs.Calling.{length_cleared}

-- the two quotas stay
cleared_head : (s : List ℕ) (n j : ℕ) → j < 2 → get_or (cleared s n) j 0 ≡ get_or s j 0
unfolding cleared
cleared_head s zero j h = refl
cleared_head s (suc n) j h = get_or-set_other (cleared s n) (base n) j 0 0 (λ e. omega arith) ∙ cleared_head s n j h

cleared_last : (s : List ℕ) (n i : ℕ) → base (suc n) ≤ length s → (i < n → get_or (cleared s n) (base i) 0 ≡ 0) → i < suc n → (y : Bool) → eqb i n ≡ y → get_or (set (cleared s n) (base n) 0) (base i) 0 ≡ 0
cleared_last s n i r ih h true e =
    let q : i ≡ n = eqb-true i n e in
    let l : base n < length (cleared s n) = omega (arith, length_cleared s n) in
    rw q (get_or-set_same (cleared s n) (base n) 0 0 l)
cleared_last s n i r ih h false e =
    let q : i ≡ n → ⊥ = eqb-false i n e in
    get_or-set_other (cleared s n) (base n) (base i) 0 0 (λ f. q (omega arith)) ∙ ih (omega (arith, q))

cleared_mark : (s : List ℕ) (n i : ℕ) → base n ≤ length s → i < n → get_or (cleared s n) (base i) 0 ≡ 0
unfolding cleared
cleared_mark s zero i r h = absurd (omega arith)
cleared_mark s (suc n) i r h = cleared_last s n i r (λ u. cleared_mark s n i (omega arith) u) h (eqb i n) refl

all_free : (s : List ℕ) (p n : ℕ) → ((i : ℕ) → p ≤ i → i < p + n → mark_at s i ≡ 0) → places_from s p n ≡ replicate n free
unfolding places_from place_at
all_free s p zero h = refl
all_free s p (suc n) h =
    let m : mark_at s p ≡ 0 = h p (omega arith) (omega arith) in
    let a : cond (eqb (mark_at s p) 0) free (held (board_at s p)) ≡ free = ap (λ (x : ℕ). cond (eqb x 0) free (held (board_at s p))) m in
    let b : places_from s (suc p) n ≡ replicate n free = all_free s (suc p) n (λ i l u. h i (omega arith) (omega arith)) in
    cc

module _ (s : List ℕ) (p q : ℕ) (e : room (length s) p q ≡ true) where
  abbrev made : List ℕ
  made = cleared (set (set s 0 p) 1 q) (p + q)

  made_length : length made ≡ length s
  made_length = length_cleared (set (set s 0 p) 1 q) (p + q) ∙ length-set (set s 0 p) 1 q ∙ length-set s 0 p

  made_first : get_or made 0 0 ≡ p
  made_first =
      cleared_head (set (set s 0 p) 1 q) (p + q) 0 (omega arith) ∙ get_or-set_other (set s 0 p) 1 0 q 0 (λ f. omega arith)
      ∙ get_or-set_same s 0 p 0 (omega (arith, (has_room (length s) p q e).0))

  made_second : get_or made 1 0 ≡ q
  made_second =
      cleared_head (set (set s 0 p) 1 q) (p + q) 1 (omega arith)
      ∙ get_or-set_same (set s 0 p) 1 q 0 (omega (arith, (has_room (length s) p q e).0, length-set s 0 p))

  made_mark : (i : ℕ) → i < p + q → mark_at made i ≡ 0
  made_mark i h = cleared_mark (set (set s 0 p) 1 q) (p + q) i (omega (arith, (has_room (length s) p q e).1, length-set (set s 0 p) 1 q, length-set s 0 p)) h

  made_fresh : table_of made ≡ fresh p q
  unfolding table_of fits
  made_fresh =
      let g : room (length made) (get_or made 0 0) (get_or made 1 0) ≡ true = rw (made_length, made_first, made_second) e in
      rw (g, made_first, made_second, all_free made 0 p (λ i l u. made_mark i (omega arith)), all_free made p q (λ i l u. made_mark i (omega arith)))

-- a set-up that is granted had the room
granted : (y : Bool) → grants [] ≡ cond y (grants []) (refuses Quota) → y ≡ true
granted true e = refl
granted false e = let z : ◌≡◌ {A = ℕ} 0 21 = ap (λ (r : Answer). number_said r.said) e in absurd (omega arith)

pub set_up_fresh : (p q : ℕ) (t : List ℕ) → FreshlySetUp p q t → table_of t ≡ fresh p q
set_up_fresh p q t f = ap table_of f.1.holds ∙ made_fresh f.0 p q (granted (room (length f.0) p q) f.1.answer)
