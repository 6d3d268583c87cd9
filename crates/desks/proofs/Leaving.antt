-- A call leaves the table that the two lists say.
use mathlib.Core.Path.{◌≡◌, refl, sym, ap, ◌∙◌}
use mathlib.Core.Bool.{Bool, true, false, cond}
use mathlib.Core.List.{List, [], ◌∷◌}
use Prim.Native.Nat.{ℕ, zero, suc, ◌+◌, ◌<◌, ◌≤◌}
use native.Mathlib.Omega.{arith}
use lib.Dec.{eqb, leb, ltb}
use lib.ListN.{length, get_or, set, length-set, get_or-eq_default}
use lib.Seq.{paste, set_out, set-get_or, get_or-set_same}
use borrow.Author.Tests.{eqb-true, leb-true, leb-false, ltb-true, ltb-false}
use Rattle.laws.specs.Boards.{Shaped}
use Rattle.refusal.specs.Said.{first_failing, says, number_said}
use Rattle.board.specs.declared.RetractableBoard.{RetractableBoard}
use Rattle.board.specs.Gate.{to_laws, board_tests, no_board}
use Rattle.desks.specs.declared.Why.TheVariants.{Quota}
use Rattle.desks.specs.Desks.{Place, free, held, lowest, Found, unfit, table, Ask, put, fetch, drop, Answer, refuses, grants, dropped_from, answer_in, places_after, met_at, answer_met, found_after, tests_first, passes, answer_of, after_of}
use Rattle.place.specs.Words.{board_read, words_of, words_at}
use Rattle.desks.specs.Layout.{base, board_at, mark_at, place_at, places_from, quota_at, room, fits, table_of}
use Rattle.desks.specs.Calls.{first_of, left_by, Answers}
use Rattle.desks.specs.Runs.{Sized}
use Rattle.desks.proofs.Room.{fit_room}
use Rattle.desks.proofs.Pasting.{Apart, paste_apart, paste_length, paste_at, set_apart, places_same, places_set, places_length}
use Rattle.place.proofs.Keeping.{words_length, words_held, keeps}
use Rattle.desks.proofs.Standing.{neither_met}

-- one desk's places become ps, and all else of the slice stays
record After (t s : List ℕ) (p n : ℕ) (ps : List Place) : Type 0 where
  long : length t ≡ length s
  first : get_or t 0 0 ≡ get_or s 0 0
  second : get_or t 1 0 ≡ get_or s 1 0
  own : places_from t p n ≡ ps
  before : (q m : ℕ) → q + m ≤ p → places_from t q m ≡ places_from s q m
  behind : (q m : ℕ) → p + n ≤ q → places_from t q m ≡ places_from s q m

module _ (s : List ℕ) (p n : ℕ) where
  same_after : (ps : List Place) → ps ≡ places_from s p n → After s s p n ps
  same_after ps e = record { long = refl; first = refl; second = refl; own = sym e; before = λ q m h. refl; behind = λ q m h. refl }

  apart_after : (t : List ℕ) (i : ℕ) (x : Place) → i < n → Apart t s (base (p + i)) → length t ≡ length s → place_at t (p + i) ≡ x → After t s p n (set (places_from s p n) i x)
  apart_after t i x h o l e = record {
    long = l;
    first = o.below 0 (omega arith);
    second = o.below 1 (omega arith);
    own = places_set s t p n i x h o e;
    before = λ q m u. places_same s t q m (λ k a b. o.below k (omega arith));
    behind = λ q m u. places_same s t q m (λ k a b. o.above k (omega arith));
  }

-- a place into which a board was written holds it
words_shift : (t w : List ℕ) (k j n : ℕ) → ((i : ℕ) → i < j + n → get_or t (k + i) 0 ≡ get_or w i 0) → words_at t (k + j) n ≡ words_at w j n
words_shift t w k j zero h = refl
words_shift t w k j (suc n) h =
    let q : suc (k + j) ≡ k + suc j = omega arith in
    let a : get_or t (k + j) 0 ≡ get_or w j 0 = h j (omega arith) in
    let b : words_at t (k + suc j) n ≡ words_at w (suc j) n = words_shift t w k (suc j) n (λ i u. h i (omega arith)) in
    rw (q, a, b)

own_words : (b : RetractableBoard) → words_at (words_of b) 0 16 ≡ words_of b
unfolding words_of
own_words b = refl

held_there : (t : List ℕ) (p : ℕ) (b : RetractableBoard) → Shaped (to_laws b) → first_failing (board_tests b) ≡ 0 → ((i : ℕ) → i < 16 → get_or t (base p + i) 0 ≡ get_or (words_of b) i 0) → place_at t p ≡ held b
unfolding place_at
held_there t p b z g h =
    let q : base p + 0 ≡ base p = omega arith in
    let m : eqb (mark_at t p) 0 ≡ false = ap (λ (x : ℕ). eqb x 0) (rw q at (h 0 (omega arith))) ∙ words_held b in
    let w : words_at t (base p) 16 ≡ words_of b = (rw q at (words_shift t (words_of b) (base p) 0 16 (λ i u. h i (omega arith)))) ∙ own_words b in
    ap (λ (y : Bool). cond y free (held (board_at t p))) m ∙ ap held (ap board_read w ∙ keeps b z g)

module _ (s : List ℕ) (p n : ℕ) (r : base (p + n) ≤ length s) where
  put_after : (b : RetractableBoard) → Shaped (to_laws b) → first_failing (board_tests b) ≡ 0 → (y : Bool) → ltb (lowest (places_from s p n)) (length (places_from s p n)) ≡ y
      → After (left_by s p (put b) (cond y (grants (lowest (places_from s p n) ∷ [])) (refuses Quota))) s p n (set (places_from s p n) (lowest (places_from s p n)) (held b))
  put_after b z g true e =
      let i : ℕ = lowest (places_from s p n) in
      let h : lowest (places_from s p n) < n = rw (places_length s p n) at (ltb-true (lowest (places_from s p n)) (length (places_from s p n)) e) in
      let l : base (p + lowest (places_from s p n)) + 16 ≤ length s = omega arith in
      apart_after s p n (paste s (base (p + i)) (words_of b) 16) i (held b) h
      (paste_apart s (base (p + i)) (words_of b) (words_length b) l)
      (paste_length s (base (p + i)) (words_of b) (words_length b) l)
      (held_there (paste s (base (p + i)) (words_of b) 16) (p + i) b z g (paste_at s (base (p + i)) (words_of b) (words_length b) l))
  put_after b z g false e =
      same_after s p n (set (places_from s p n) (lowest (places_from s p n)) (held b))
      (set_out (places_from s p n) (lowest (places_from s p n)) (held b) (ltb-false (lowest (places_from s p n)) (length (places_from s p n)) e))

  fetch_after : (y : Bool) → After (cond y s s) s p n (places_from s p n)
  fetch_after true = same_after s p n (places_from s p n) refl
  fetch_after false = same_after s p n (places_from s p n) refl

  in_quota : (i : ℕ) (b : RetractableBoard) → get_or (places_from s p n) i free ≡ held b → (y : Bool) → leb n i ≡ y → i < n
  in_quota i b e true h =
      let out : get_or (places_from s p n) i free ≡ free = get_or-eq_default (places_from s p n) free (omega (arith, places_length s p n, leb-true n i h)) in
      let z : ◌≡◌ {A = ℕ} 0 1 = cc in
      absurd (omega arith)
  in_quota i b e false h = leb-false n i h

  drop_after : (i : ℕ) (x : Place) → get_or (places_from s p n) i free ≡ x → After (left_by s p (drop i) (dropped_from x)) s p n (set (places_from s p n) i free)
  unfolding place_at
  drop_after i free e =
      same_after s p n (set (places_from s p n) i free)
      (ap (λ (x : Place). set (places_from s p n) i x) (sym e) ∙ set-get_or (places_from s p n) i free)
  drop_after i (held b) e =
      let h : i < n = in_quota i b e (leb n i) refl in
      let l : base (p + i) < length s = omega arith in
      let m : mark_at (set s (base (p + i)) 0) (p + i) ≡ 0 = get_or-set_same s (base (p + i)) 0 0 l in
      apart_after s p n (set s (base (p + i)) 0) i free h (set_apart s (base (p + i)) 0) (length-set s (base (p + i)) 0)
      (ap (λ (x : ℕ). cond (eqb x 0) free (held (board_at (set s (base (p + i)) 0) (p + i)))) m)

  desk_after : (a : Ask) → Sized a → passes a ≡ true → After (left_by s p a (answer_in (places_from s p n) a)) s p n (places_after (places_from s p n) a)
  unfolding answer_in places_after
  desk_after (put b) z g = put_after b z (eqb-true (first_failing (board_tests b)) 0 g) (ltb (lowest (places_from s p n)) (length (places_from s p n))) refl
  desk_after (fetch i) z g = fetch_after (eqb (number_said (answer_in (places_from s p n) (fetch i)).said) 0)
  desk_after (drop i) z g = drop_after i (get_or (places_from s p n) i free) refl

module _ (s : List ℕ) where
  first_after : (t : List ℕ) (ps : List Place) → fits s ≡ true → After t s 0 (quota_at s 0) ps → table_of t ≡ table ps (places_from s (quota_at s 0) (quota_at s 1))
  unfolding table_of fits
  first_after t ps f o =
      let g : room (length t) (get_or t 0 0) (get_or t 1 0) ≡ true = rw (o.long, o.first, o.second) f in
      rw (g, o.first, o.second, o.own, o.behind (quota_at s 0) (quota_at s 1) (omega arith))

  second_after : (t : List ℕ) (ps : List Place) → fits s ≡ true → After t s (quota_at s 0) (quota_at s 1) ps → table_of t ≡ table (places_from s 0 (quota_at s 0)) ps
  unfolding table_of fits
  second_after t ps f o =
      let g : room (length t) (get_or t 0 0) (get_or t 1 0) ≡ true = rw (o.long, o.first, o.second) f in
      rw (g, o.first, o.second, o.own, o.before 0 (quota_at s 0) (omega arith))

  table_by : (y : Bool) → fits s ≡ y → table_of s ≡ cond y (table (places_from s 0 (quota_at s 0)) (places_from s (quota_at s 0) (quota_at s 1))) unfit
  unfolding table_of
  table_by y e = rw e

  neither_after : (t : Found) (d : ℕ) (a : Ask) → found_after t (suc (suc d)) a ≡ t
  neither_after unfit d a = refl
  neither_after (table p q) d a = refl

  module _ (a : Ask) (z : Sized a) where
    met_after : (d : ℕ) → passes a ≡ true → (y : Bool) → fits s ≡ y → table_of (left_by s (first_of s d) a (answer_met (met_at (table_of s) d) a)) ≡ found_after (table_of s) d a
    met_after zero g true e =
        let r : base (0 + quota_at s 0) ≤ length s = omega (arith, (fit_room s e).1) in
        rw (table_by true e) (first_after _ _ e (desk_after s 0 (quota_at s 0) r a z g))
    met_after (suc zero) g true e = rw (table_by true e) (second_after _ _ e (desk_after s (quota_at s 0) (quota_at s 1) (fit_room s e).1 a z g))
    met_after zero g false e = rw (table_by false e) (table_by false e)
    met_after (suc zero) g false e = rw (table_by false e) (table_by false e)
    met_after (suc (suc d)) g y e = rw (neither_met (table_of s) d, neither_after (table_of s) d a)

    -- what is refused by 1 to 7 writes nothing either
    left_by_lem : (d : ℕ) (y : Bool) → passes a ≡ y
        → table_of (left_by s (first_of s d) a (cond y (answer_met (met_at (table_of s) d) a) (record { said = says (first_failing (tests_first a)) []; board = no_board }))) ≡ cond y (found_after (table_of s) d a) (table_of s)
    left_by_lem d true g = met_after d g (fits s) refl
    left_by_lem d false g = rw g

    pub leaves : {d : ℕ} {r : Answer} {after : List ℕ} → Answers s d a r after → table_of after ≡ after_of (table_of s) d a
    unfolding answer_of after_of
    leaves {d} {r} {after} k = ap table_of (k.holds ∙ ap (left_by s (first_of s d) a) k.answer) ∙ left_by_lem d (passes a) refl
