-- The answer to a line, by what the reader, the lists and the printer told, and that there is one.
use mathlib.Core.Path.{◌≡◌, refl, sym, ◌∙◌, ap, subst}
use mathlib.Core.Bool.{Bool, true, false}
use mathlib.Core.List.{List, [], map}
use Prim.Native.Nat.{ℕ}
use lib.Dec.{eqb}
use lib.ListN.{length, take}
use borrow.Author.Tests.{eqb-true, eqb-false}
use Rattle.laws.specs.declared.Edition.{Edition}
use Rattle.laws.specs.declared.ChessRetraction.{ChessRetraction}
use Rattle.laws.specs.Retractions.{packed}
use Rattle.refusal.specs.declared.Refusal.{Refusal}
use Rattle.refusal.specs.declared.Refusal.TheVariants.{Room as room}
use Rattle.refusal.specs.Refusals.{number_of, verdict_number, nothing_refused}
use Rattle.refusal.specs.Said.{first_failing, Writes}
use Rattle.board.specs.declared.RetractableBoard.{RetractableBoard}
use Rattle.board.specs.declared.Boarded.{Boarded}
use Rattle.board.specs.Gate.{pos_on, gate_of}
use Rattle.text.specs.Entries.{Reads}
use Rattle.retraction_gen.specs.Making.{list_tests}
use Rattle.retraction_gen.specs.Sequence.{sequence_on}
use Rattle.slots.specs.declared.Unlisted.{Unlisted}
use Rattle.slots.specs.Slots.{listed_says}
use Rattle.strict_search.specs.inner.Searching.{strict_moves}
use Rattle.strict.specs.Demand.{IsStrictList, Lists}
use Rattle.reply.specs.Replies.{refused_text, room_test, listed_tests, both_tests, number_then, board_text, answer_text, over, slots_then, Shows, AnswersBoard, listed_then, Replies}
use Rattle.refusal.proofs.Saying.{some_number}
use Rattle.refusal.proofs.Tested.{stop_on}
use Rattle.text.proofs.RoundTrip.{read_one}
use Rattle.slots.proofs.Telling.{listing_tells}
use Rattle.strict.proofs.Unique.{one_list}
use Rattle.strict.proofs.Told.{demanded}
use Rattle.reply.proofs.Slots.{roomy, roomless, passed_board, written_is}
use Rattle.std.specs.Prelude.{Err, Ok, Result}
use Rattle.slots.specs.declared.Unlisted.TheVariants.{Room, Refused as notListed}

-- the board is shown with its lists, or refused
module _ (b : RetractableBoard) (moves : List ChessRetraction) {n : ℕ} {o out q : List ℕ} where
  answers_shown : IsStrictList b moves → first_failing (both_tests b moves) ≡ 0 → {strict : List ℕ} → strict ≡ over (map packed moves) q
      → Shows (board_text b (map packed (sequence_on b)) (map packed moves)) n o out → AnswersBoard 0 b n o out q strict
  answers_shown x k e s = record { moves = moves; exact = λ _. x; shows = rw k s; slots = e ∙ rw k }

  pub answers_refused : {m x : ℕ} → eqb x 0 ≡ false → (m ≡ 0 → IsStrictList b moves) → x ≡ number_then m (both_tests b moves) → {strict : List ℕ} → strict ≡ q
      → Shows (refused_text x) n o out → AnswersBoard m b n o out q strict
  answers_refused z a k e s = record { moves = moves; exact = a; shows = rw (← k, z) s; slots = e ∙ rw (← k, z) }

-- by what the strict list's slots told
module _ (b : RetractableBoard) (passed : first_failing (listed_tests b) ≡ 0) {q after : List ℕ} (size : length q ≡ 8192) (r : Result ℕ Unlisted) (x : Lists b q r after) where
  exact : IsStrictList b x.moves
  exact = x.exact (passed_board b passed)

  module _ {n : ℕ} {o out : List ℕ} where
    pub strict_shown : (k : ℕ) → r ≡ Ok k → (p : List ℕ) → p ≡ map packed (sequence_on b) → Shows (board_text b p (take k after)) n o out
        → AnswersBoard 0 b n o out q after
    strict_shown k e p d s =
        let w = listing_tells x.moves r x.into (Ok k) e in
        answers_shown b x.moves exact (roomy (listed_tests b) x.moves q passed size w.fits) w.holds
        (subst (λ (l : List ℕ). Shows (board_text b l (map packed x.moves)) n o out) d
        (subst (λ (l : List ℕ). Shows (board_text b p l) n o out) (written_is w) s))

    pub strict_roomless : (k : ℕ) → r ≡ Err (Room k) → Shows (refused_text (number_of room)) n o out → AnswersBoard 0 b n o out q after
    strict_roomless k e s =
        let w = listing_tells x.moves r x.into (Err (Room k)) e in
        answers_refused b x.moves (some_number room) (λ _. exact) (roomless (listed_tests b) x.moves q passed size w.short) w.holds s

-- by what the ported list's slots told
module _ (b : RetractableBoard) (g : gate_of b ≡ nothing_refused) {p after : List ℕ} (size : length p ≡ 8192) (r : Result ℕ Unlisted)
    (x : Writes (list_tests b) (map packed (sequence_on b)) p (listed_says r) after) where
  pub listed_passes : (k : ℕ) → r ≡ Ok k → first_failing (listed_tests b) ≡ 0
  listed_passes k e = let w = listing_tells (sequence_on b) r x (Ok k) e in roomy (list_tests b) (sequence_on b) p w.passed size w.fits

  module _ {n : ℕ} {o out q : List ℕ} where
    pub board_shown : (k : ℕ) → r ≡ Ok k → {strict : List ℕ} → AnswersBoard 0 b n o out q strict → AnswersBoard 0 b n o out q strict × (after ≡ listed_then 0 b p)
    board_shown k e s = (s, (listing_tells (sequence_on b) r x (Ok k) e).holds ∙ rw (listed_passes k e))

    stopped : (why : Refusal) → number_of why ≡ first_failing (listed_tests b) → after ≡ p → Shows (refused_text (number_of why)) n o out
        → AnswersBoard 0 b n o out q q × (after ≡ listed_then 0 b p)
    stopped why h e s =
        let l = strict_moves (pos_on b) in
        (answers_refused b l (some_number why) (λ _. demanded b g) (stop_on (listed_tests b) (room_test l) why h) refl s, e ∙ rw (← h, some_number why))

    pub board_roomless : (k : ℕ) → r ≡ Err (Room k) → Shows (refused_text (number_of room)) n o out → AnswersBoard 0 b n o out q q × (after ≡ listed_then 0 b p)
    board_roomless k e s =
        let w = listing_tells (sequence_on b) r x (Err (Room k)) e in
        stopped room (roomless (list_tests b) (sequence_on b) p w.passed size w.short) w.holds s

    pub board_refused : (why : Refusal) → r ≡ Err (notListed why) → Shows (refused_text (number_of why)) n o out → AnswersBoard 0 b n o out q q × (after ≡ listed_then 0 b p)
    board_refused why e s =
        let w = listing_tells (sequence_on b) r x (Err (notListed why)) e in stopped why (stop_on (list_tests b) (room_test (sequence_on b)) why w.number) w.holds s

-- a line that its reader refuses by the number x is answered by it alone
pub line_refused : (b : RetractableBoard) {m x n : ℕ} {o out p q : List ℕ} → eqb x 0 ≡ false → m ≡ x → Shows (refused_text x) n o out
    → AnswersBoard m b n o out q q × (p ≡ listed_then m b p)
line_refused b {x = x} z e s = (answers_refused b [] z (λ h. absurd (eqb-false x 0 z (sym e ∙ h))) (rw (e, z)) refl s, rw (e, z, z))

-- what is read is answered
module _ (v : Edition) (t : List ℕ) (b : Boarded) (a : Reads v t b) {n : ℕ} {o out p q : List ℕ} where
  pub reply_refused : (why : Refusal) → b.verdict ≡ Err why → Shows (refused_text (number_of why)) n o out → Replies v t n o out p p q q
  reply_refused why e s = let w = line_refused b.board (some_number why) (ap verdict_number e) s in record { read = b; reads = a; answers = w.0; slots = w.1 }

  pub reply_accepted : b.verdict ≡ nothing_refused → {listed strict : List ℕ} → AnswersBoard 0 b.board n o out q strict × (listed ≡ listed_then 0 b.board p)
      → Replies v t n o out p listed q strict
  reply_accepted e s = record { read = b; reads = a; answers = rw e s.0; slots = rw e s.1 }

pub shows_one : {t u o x y : List ℕ} {n m : ℕ} → t ≡ u → Shows t n o x → Shows u m o y → (n ≡ m) × (x ≡ y)
shows_one {o = o} e a b = (a.size ∙ ap length e ∙ sym b.size, a.holds ∙ ap (λ (t : List ℕ). over t o) e ∙ sym b.holds)

-- there is one answer to a board: its bytes, all of the buffer and of the strict slots
pub answers_one : {m : ℕ} {b : RetractableBoard} {n k : ℕ} {o x y q s u : List ℕ} → AnswersBoard m b n o x q s → AnswersBoard m b k o y q u → (n ≡ k) × (x ≡ y) × (s ≡ u)
answers_one {m} {b} {q = q} c d =
    let e = by (eqb m 0) refl in let h = shows_one e.0 c.shows d.shows in (h.0, h.1, c.slots ∙ e.1 ∙ sym d.slots)
  where
    text : List ChessRetraction → List ℕ
    text l = answer_text (number_then m (both_tests b l)) b l

    slots : List ChessRetraction → List ℕ
    slots l = slots_then (number_then m (both_tests b l)) l q

    by : (t : Bool) → eqb m 0 ≡ t → (text c.moves ≡ text d.moves) × (slots c.moves ≡ slots d.moves)
    by true e =
        let h = eqb-true m 0 e in
        let l = one_list b c.moves d.moves (c.exact h) (d.exact h) in (ap text l, ap slots l)
    by false e = (rw (e, e), rw (e, e))

-- there is one answer to a line: its bytes, all of the buffer and of both slots
pub reply_one : (v : Edition) (t : List ℕ) (n m : ℕ) (o x y p l k q s u : List ℕ) → Replies v t n o x p l q s → Replies v t m o y p k q u → (n ≡ m) × (x ≡ y) × (l ≡ k) × (s ≡ u)
reply_one v t n m o x y p l k q s u a b =
    let e : b.read ≡ a.read = read_one v t b.read a.read b.reads a.reads in
    let h = answers_one a.answers (subst (λ (r : Boarded). AnswersBoard (verdict_number r.verdict) r.board m o y q u) e b.answers) in
    (h.0, h.1, a.slots ∙ sym (ap (λ (r : Boarded). listed_then (verdict_number r.verdict) r.board p) e) ∙ sym b.slots, h.2)
