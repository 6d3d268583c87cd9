-- A board that is fetched is accepted, whoever wrote the slice; and a board that is put comes back as it was, while every other number keeps its own.
use mathlib.Core.Path.{◌≡◌, refl, sym, ap, subst, ◌∙◌}
use mathlib.Core.Bool.{Bool, true, false, cond}
use mathlib.Core.List.{List, [], ◌∷◌}
use Prim.Native.Nat.{ℕ, zero, suc, ◌^◌, ◌<◌}
use native.Mathlib.Omega.{arith}
use lib.Dec.{eqb, ltb}
use lib.ListN.{length, get_or, set}
use lib.Seq.{get_or-set_same, get_or-set_other}
use Rattle.std.specs.Prelude.{Result, Ok, Err}
use borrow.Author.Tests.{eqb-true, eqb-false, ltb-true}
use Rattle.geometry.specs.declared.Color.{Color}
use Rattle.geometry.specs.declared.Color.TheVariants.{White, Black}
use Rattle.laws.specs.declared.Piece.{Piece}
use Rattle.laws.specs.declared.Piece.TheVariants.{Pawn, Knight, Bishop, Rook, Queen, King}
use Rattle.laws.specs.Boards.{kind_set, color_set, Shaped}
use Rattle.refusal.specs.Said.{first_failing, Said, says, number_said, told, behind}
use Rattle.board.specs.declared.RetractableBoard.{RetractableBoard}
use Rattle.board.specs.Gate.{to_laws, board_tests, no_board}
use Rattle.desks.specs.declared.Why.{Why}
use Rattle.desks.specs.declared.Why.TheVariants.{Absent, Quota}
use Rattle.desks.specs.Desks.{Place, free, held, lowest, Found, put, fetch, Answer, refuses, grants, fetched_from, Met, none, places, met_at, answer_met, answer_in, places_after, found_after, passes, answer_of, after_of}
use Rattle.place.specs.Words.{words_at, board_read}
use Rattle.desks.specs.Layout.{base, board_at, mark_at, place_at, places_from, table_of}
use Rattle.desks.specs.Calls.{value_said}
use Rattle.desks.specs.inner.Within.{stand_of}
use Rattle.desks.specs.Runs.{FetchesAccepted, KeepsBoards}
use Rattle.desks.proofs.Standing.{some_why, met_by, stand_met}
use Rattle.desks.proofs.Leaving.{leaves}
use Rattle.desks.proofs.Alone.{met_after, own_met, other_met}

-- what stands in a slice of 64-bit words is a board by its type
module _ (s : List ℕ) (fit : (i : ℕ) → get_or s i 0 < 2 ^ 64) where
  read_shaped : (k : ℕ) → Shaped (to_laws (board_read (words_at s k 16)))
  unfolding board_read
  read_shaped k = record { six = refl; two = refl; kinds_fit = kinds; colors_fit = colors }
    where
      kinds : (x : Piece) → kind_set (board_read (words_at s k 16)).pieces x < 2 ^ 64
      kinds Pawn = fit _
      kinds Knight = fit _
      kinds Bishop = fit _
      kinds Rook = fit _
      kinds Queen = fit _
      kinds King = fit _

      colors : (x : Color) → color_set (board_read (words_at s k 16)).colors x < 2 ^ 64
      colors White = fit _
      colors Black = fit _

  abbrev Held : Place → Type 0
  Held x = (b : RetractableBoard) → x ≡ held b → Shaped (to_laws b)

  place_shaped : (p : ℕ) (y : Bool) → Held (cond y free (held (board_at s p)))
  place_shaped p true b e = let z : ◌≡◌ {A = ℕ} 0 1 = cc in absurd (omega arith)
  place_shaped p false b e = let q : board_at s p ≡ b = cc in subst (λ (x : RetractableBoard). Shaped (to_laws x)) q (read_shaped (base p))

  places_shaped : (p n i : ℕ) → Held (get_or (places_from s p n) i free)
  unfolding places_from place_at
  places_shaped p zero i b e = let z : ◌≡◌ {A = ℕ} 0 1 = cc in absurd (omega arith)
  places_shaped p (suc n) zero b e = place_shaped p (eqb (mark_at s p) 0) b e
  places_shaped p (suc n) (suc i) b e = places_shaped (suc p) n i b e

  abbrev Good : Answer → Type 0
  Good r = number_said r.said ≡ 0 → Shaped (to_laws r.board) × (first_failing (board_tests r.board) ≡ 0)

  refused_good : (w : Why) → Good (refuses w)
  refused_good w h = let z : ◌≡◌ {A = Bool} false true = sym (some_why w) ∙ ap (λ (n : ℕ). eqb n 0) h in let o : ◌≡◌ {A = ℕ} 0 1 = cc in absurd (omega arith)

  -- a board that 1 to 7 let pass
  tested_good : (b : RetractableBoard) (y : Bool) → eqb (first_failing (board_tests b)) 0 ≡ y → Shaped (to_laws b)
      → number_said (cond y (told []) (says (first_failing (board_tests b)) [])) ≡ 0 → Shaped (to_laws (cond y b no_board)) × (first_failing (board_tests (cond y b no_board)) ≡ 0)
  tested_good b true e z h = (z, eqb-true (first_failing (board_tests b)) 0 e)
  tested_good b false e z h = absurd (eqb-false (first_failing (board_tests b)) 0 e h)

  place_good : (x : Place) → Held x → Good (fetched_from x)
  unfolding behind
  place_good free k h = refused_good Absent h
  place_good (held b) k h = tested_good b (eqb (first_failing (board_tests b)) 0) refl (k b refl) h

  stand_good : (n : ℕ) (st : Result (ℕ × ℕ) Why) → Good (answer_met (met_by st s) (fetch n))
  unfolding answer_in
  stand_good n (Err w) h = refused_good w h
  stand_good n (Ok st) h = place_good (get_or (places_from s st.0 st.1) n free) (places_shaped st.0 st.1 n) h

pub fetches_accepted : FetchesAccepted
unfolding FetchesAccepted answer_of first_failing
fetches_accepted s after d n r fit k h =
    let e : r ≡ answer_met (met_by (stand_of s d) s) (fetch n) = k.answer ∙ ap (λ (m : Met). answer_met m (fetch n)) (stand_met s d) in
    subst (Good s fit) (sym e) (stand_good s fit n (stand_of s d)) h

-- a put that gives a number met free places
many : Said → ℕ
many (says n vs) = length vs

record Granted (n : ℕ) (m : Met) : Type 0 where
  own : List Place
  met : m ≡ places own
  number : n ≡ lowest own
  free_one : lowest own < length own

put_granted : (b : RetractableBoard) (n k : ℕ) (m : Met) (y : Bool) → grants (n ∷ []) ≡ cond y (answer_met m (put b)) (record { said = says k []; board = no_board }) → (y ≡ true) × Granted n m
unfolding answer_in many
put_granted b n k m false e = let z : ◌≡◌ {A = ℕ} 1 0 = ap (λ (r : Answer). many r.said) e in absurd (omega arith)
put_granted b n k (none w) true e = let z : ◌≡◌ {A = ℕ} 1 0 = ap (λ (r : Answer). many r.said) e in absurd (omega arith)
put_granted b n k (places ps) true e = (refl, go (ltb (lowest ps) (length ps)) refl e)
  where
    go : (y : Bool) → ltb (lowest ps) (length ps) ≡ y → grants (n ∷ []) ≡ cond y (grants (lowest ps ∷ [])) (refuses Quota) → Granted n (places ps)
    go true l f = record { own = ps; met = refl; number = ap (λ (r : Answer). value_said r.said) f; free_one = ltb-true (lowest ps) (length ps) l }
    go false l f = let z : ◌≡◌ {A = ℕ} 1 0 = ap (λ (r : Answer). many r.said) f in absurd (omega arith)

granted : (t : Found) (d n : ℕ) (b : RetractableBoard) → grants (n ∷ []) ≡ answer_of t d (put b) → (passes (put b) ≡ true) × Granted n (met_at t d)
unfolding answer_of
granted t d n b g = put_granted b n (first_failing (board_tests b)) (met_at t d) (passes (put b)) g

module _ (t : Found) (d n : ℕ) (b : RetractableBoard) (ok : passes (put b) ≡ true) (g : Granted n (met_at t d)) where
  after_is : after_of t d (put b) ≡ found_after t d (put b)
  unfolding after_of
  after_is = rw ok

  -- the desk's own places, with the board at its number
  own_after : met_at (after_of t d (put b)) d ≡ places (set g.own n (held b))
  unfolding places_after
  own_after =
      ap (λ (u : Found). met_at u d) after_is ∙ own_met t d (put b) ∙ ap (λ (m : Met). met_after m (put b)) g.met
      ∙ ap (λ (i : ℕ). places (set g.own i (held b))) (sym g.number)

  own_fetched : answer_of (after_of t d (put b)) d (fetch n) ≡ record { said = told []; board = b }
  unfolding answer_of first_failing answer_in behind
  own_fetched =
      let l : n < length g.own = omega (arith, g.number, g.free_one) in
      ap (λ (m : Met). answer_met m (fetch n)) own_after ∙ ap fetched_from (get_or-set_same g.own n (held b) free l) ∙ rw ok

  own_other : (m : ℕ) → (m ≡ n → ⊥) → answer_of (after_of t d (put b)) d (fetch m) ≡ answer_of t d (fetch m)
  unfolding answer_of first_failing answer_in
  own_other m h =
      ap (λ (x : Met). answer_met x (fetch m)) own_after ∙ ap fetched_from (get_or-set_other g.own n m (held b) free h)
      ∙ sym (ap (λ (x : Met). answer_met x (fetch m)) g.met)

  desk_other : (e m : ℕ) → (d ≡ e → ⊥) → answer_of (after_of t d (put b)) e (fetch m) ≡ answer_of t e (fetch m)
  unfolding answer_of
  desk_other e m h = rw (after_is, other_met t d e (put b) h)

  all_other : (e m : ℕ) → ((e ≡ d) × (m ≡ n) → ⊥) → (y : Bool) → eqb d e ≡ y → answer_of (after_of t d (put b)) e (fetch m) ≡ answer_of t e (fetch m)
  all_other e m h true q =
      let same : d ≡ e = eqb-true d e q in
      subst (λ (x : ℕ). answer_of (after_of t d (put b)) x (fetch m) ≡ answer_of t x (fetch m)) same (own_other m (λ f. h (sym same, f)))
  all_other e m h false q = desk_other e m (eqb-false d e q)

pub keeps_boards : KeepsBoards
unfolding KeepsBoards
keeps_boards s t d n b z k =
    let u : table_of t ≡ after_of (table_of s) d (put b) = leaves s (put b) z k in
    let g = granted (table_of s) d n b k.answer in (
      rw u (own_fetched (table_of s) d n b g.0 g.1),
      λ e m h. rw u (all_other (table_of s) d n b g.0 g.1 e m h (eqb d e) refl),
    )
