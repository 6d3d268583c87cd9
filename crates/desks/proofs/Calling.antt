-- What a call does at each of its ends, once its desk is found.
use mathlib.Core.Path.{◌≡◌, refl, sym, ap, ◌∙◌}
use mathlib.Core.Bool.{Bool, true, false, cond}
use mathlib.Core.List.{List, []}
use Prim.Native.Nat.{ℕ, zero, suc, ◌+◌, ◌-◌, ◌<◌, ◌≤◌}
use native.Mathlib.Omega.{arith}
use lib.Dec.{eqb, ltb}
use lib.ListN.{length, get_or, set, length-set, get_or-eq_default}
use lib.Seq.{paste}
use Rattle.std.specs.Prelude.{Result, Ok, Err}
use borrow.Author.Tests.{lt-ltb, le-ltb, eq-eqb, ne_eqb}
use Rattle.refusal.specs.declared.Refusal.{Refusal}
use Rattle.refusal.specs.Refusals.{number_of, verdict_number, nothing_refused}
use Rattle.refusal.specs.Said.{first_failing, number_said, told, behind}
use Rattle.board.specs.declared.RetractableBoard.{RetractableBoard}
use Rattle.board.specs.declared.Boarded.{Boarded}
use Rattle.board.specs.Gate.{board_tests}
use Rattle.board.specs.Said.{Boards}
use Rattle.desks.specs.declared.Why.{Why}
use Rattle.desks.specs.declared.Why.TheVariants.{Board, Quota, Absent}
use Rattle.desks.specs.Desks.{free, held, lowest, put, fetch, drop, fetched_from, answer_in}
use Rattle.place.specs.Words.{board_read, words_of, words_at}
use Rattle.desks.specs.Layout.{base, board_at, mark_at, place_at, places_from, room}
use Rattle.desks.specs.Calls.{placed_answer, told_answer, fetched_answer, cleared, SetsUp}
use Rattle.desks.specs.inner.Within.{AnswersAt}
use Rattle.refusal.proofs.Saying.{some_number, said_by, behind_by}
use Rattle.desks.proofs.Pasting.{places_length, places_at}

module _ (s : List ℕ) (p n : ℕ) where
  -- the place with a number
  module _ (i : ℕ) where
    pub past_free : n ≤ i → get_or (places_from s p n) i free ≡ free
    past_free h = get_or-eq_default (places_from s p n) free (omega (arith, places_length s p n))

    pub unmarked_free : i < n → get_or s (base (p + i)) 0 ≡ 0 → get_or (places_from s p n) i free ≡ free
    unfolding place_at
    unmarked_free h m = places_at s p n i h ∙ ap (λ (y : Bool). cond y free (held (board_at s (p + i)))) (eq-eqb (mark_at s (p + i)) 0 m)

    pub marked_held : i < n → (get_or s (base (p + i)) 0 ≡ 0 → ⊥) → get_or (places_from s p n) i free ≡ held (board_at s (p + i))
    unfolding place_at
    marked_held h m = places_at s p n i h ∙ ap (λ (y : Bool). cond y free (held (board_at s (p + i)))) (ne_eqb (mark_at s (p + i)) 0 m)

  -- the lowest free place: those before the i-th are held
  abbrev pub Passed : ℕ → Type 0
  Passed i = lowest (places_from s p n) ≡ i + lowest (places_from s (p + i) (n - i))

  pub low_start : Passed 0
  low_start =
      let a : p + 0 ≡ p = omega arith in
      let b : n - 0 ≡ n = omega arith in
      rw (a, b) (omega arith)

  module _ (i : ℕ) (k : Passed i) where
    pub low_found : i < n → get_or s (base (p + i)) 0 ≡ 0 → i ≡ lowest (places_from s p n)
    unfolding lowest places_from place_at
    low_found h e =
        let m : n - i ≡ suc (n - (i + 1)) = omega arith in
        let z : lowest (places_from s (p + i) (n - i)) ≡ 0 = rw (m, eq-eqb _ _ e) in
        omega (arith, k, z)

    pub low_next : i < n → (get_or s (base (p + i)) 0 ≡ 0 → ⊥) → Passed (i + 1)
    unfolding lowest places_from place_at
    low_next h ne =
        let m : n - i ≡ suc (n - (i + 1)) = omega arith in
        let q : p + (i + 1) ≡ suc (p + i) = omega arith in
        let one : lowest (places_from s (p + i) (n - i)) ≡ suc (lowest (places_from s (suc (p + i)) (n - (i + 1)))) = rw (m, ne_eqb _ _ ne) in
        rw q (omega (arith, k, one))

    pub low_none : i ≡ n → n ≡ lowest (places_from s p n)
    unfolding lowest places_from
    low_none h =
        let z : n - i ≡ 0 = omega arith in
        let l : lowest (places_from s (p + i) (n - i)) ≡ 0 = rw z in
        omega (arith, k, l)

  module _ (b : RetractableBoard) (i : ℕ) (e : i ≡ lowest (places_from s p n)) where
    pub put_done : (w last : List ℕ) → w ≡ words_of b → last ≡ paste s (base (p + i)) w 16 → i < n → AnswersAt s p n (put b) (placed_answer (Ok i)) last
    unfolding answer_in
    put_done w last f l h =
        let y : ltb (lowest (places_from s p n)) (length (places_from s p n)) ≡ true = rw (← e, places_length s p n) (lt-ltb i n h) in
        record { answer = rw (y, ← e); holds = rw f at l }

    pub put_full : n ≤ i → AnswersAt s p n (put b) (placed_answer (Err Quota)) s
    unfolding answer_in
    put_full h =
        let y : ltb (lowest (places_from s p n)) (length (places_from s p n)) ≡ false = rw (← e, places_length s p n) (le-ltb i n h) in
        record { answer = rw y; holds = refl }

  -- a fetch leaves the slice as it is, whatever it says
  stays : (y : Bool) → s ≡ cond y s s
  stays true = refl
  stays false = refl

  module _ (i : ℕ) where
    pub fetch_absent : get_or (places_from s p n) i free ≡ free → AnswersAt s p n (fetch i) (fetched_answer (Err Absent)) s
    unfolding answer_in
    fetch_absent e = record { answer = rw e; holds = refl }

    pub fetch_held : (r : Result RetractableBoard Why) (w : List ℕ) (b : RetractableBoard) → get_or (places_from s p n) i free ≡ held (board_at s (p + i)) → w ≡ words_at s (base (p + i)) 16 → b ≡ board_read w
        → fetched_answer r ≡ fetched_from (held b) → AnswersAt s p n (fetch i) (fetched_answer r) s
    unfolding answer_in
    fetch_held r w b e f g h =
        let k : b ≡ board_at s (p + i) = g ∙ ap board_read f in
        record { answer = rw e (h ∙ ap (λ (x : RetractableBoard). fetched_from (held x)) k); holds = stays (eqb (number_said (fetched_answer r).said) 0) }

    pub drop_absent : get_or (places_from s p n) i free ≡ free → AnswersAt s p n (drop i) (told_answer (Err Absent)) s
    unfolding answer_in
    drop_absent e = record { answer = rw e; holds = refl }

    pub drop_held : (b : RetractableBoard) → get_or (places_from s p n) i free ≡ held b → AnswersAt s p n (drop i) (told_answer (Ok tt)) (set s (base (p + i)) 0)
    unfolding answer_in
    drop_held b e = record { answer = rw e; holds = refl }

-- what is found, tested by 1 to 7
module _ (b : RetractableBoard) (z : Boarded) (k : Boards (board_tests b) b z) where
  pub tested_refused : (w : Refusal) → z.verdict ≡ Err w → fetched_answer (Err (Board w)) ≡ fetched_from (held b)
  tested_refused w e =
      let q : said_by z.verdict (told []) ≡ behind (board_tests b) (told []) = behind_by z.verdict (board_tests b) (told []) k.number in
      let n : number_of w ≡ first_failing (board_tests b) = ap verdict_number (sym e) ∙ k.number in
      rw (← q, e, ← n, some_number w)

  pub tested_done : z.verdict ≡ nothing_refused → fetched_answer (Ok z.board) ≡ fetched_from (held b)
  tested_done e =
      let q : said_by z.verdict (told []) ≡ behind (board_tests b) (told []) = behind_by z.verdict (board_tests b) (told []) k.number in
      rw (← q, e, ← k.board)

pub length_cleared : (s : List ℕ) (n : ℕ) → length (cleared s n) ≡ length s
unfolding cleared
length_cleared s zero = refl
length_cleared s (suc n) = length-set (cleared s n) (base n) 0 ∙ length_cleared s n

module _ (s : List ℕ) (p q : ℕ) where
  pub set_refused : room (length s) p q ≡ false → SetsUp s p q (told_answer (Err Quota)) s
  set_refused e = record { answer = rw e; holds = refl }

  pub set_done : (last : List ℕ) → room (length s) p q ≡ true → last ≡ cleared (set (set s 0 p) 1 q) (p + q) → SetsUp s p q (told_answer (Ok tt)) last
  set_done last e h = record { answer = rw e; holds = h }
