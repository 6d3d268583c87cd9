-- The two entries: one answer to a text, 14 and 15 exactly where they are due, and each entry inverts the other.
use mathlib.Core.Path.{◌≡◌, refl, sym, ◌∙◌, ap, subst}
use mathlib.Core.Logic.{◌↔◌}
use mathlib.Core.Bool.{Bool, true, false, cond}
use mathlib.Core.List.{List, [], ◌∷◌}
use Prim.Native.Nat.{ℕ, ◌≤◌, ◌<◌}
use native.Mathlib.Omega.{arith}
use lib.ListN.{length, take, drop}
use lib.Seq.{take_at}
use borrow.Author.Tests.{eqb-true, leb-true}
use Rattle.squares.proofs.Testing.{left, right}
use Rattle.geometry.specs.Colors.{opp, rank_for}
use Rattle.geometry.specs.declared.Color.{Color}
use Rattle.geometry.specs.declared.Color.TheVariants.{White, Black}
use Rattle.laws.specs.declared.EnPassantFlag.{EnPassantFlag}
use Rattle.laws.specs.declared.EnPassantFlag.TheVariants.{Any, Some, None}
use Rattle.laws.specs.declared.Edition.{Edition}
use Rattle.laws.specs.declared.Position.{Position}
use Rattle.laws.specs.Men.{Men}
use Rattle.laws.specs.Acceptance.{state_ok}
use Rattle.laws.proofs.Cleaning.{Bounded}
use Rattle.refusal.specs.Said.{first_failing, Said, told, Writes}
use Rattle.refusal.proofs.Saying.{verdict_one}
use Rattle.refusal.proofs.Writing.{writes_passed, tells_count}
use Rattle.accept.specs.Verdicts.{judged_of, raw_tests}
use Rattle.accept.proofs.Numbered.{judged_number, judged_passes}
use Rattle.board.specs.declared.RetractableBoard.{RetractableBoard}
use Rattle.board.specs.declared.Boarded.{Boarded}
use Rattle.board.specs.Gate.{position_on, men_on, gate_of, board_tests}
use Rattle.board.specs.Answers.{worked_of}
use Rattle.board.proofs.Passing.{gate_sound, gate_judged}
use Rattle.board.proofs.Numbers.{gate_passes, passed_gate}
use Rattle.text.proofs.RoundTrip.{number_six, board_said, gate_worked}
use Rattle.record_fields.specs.Counters.{in_range}
use Rattle.record_fields.specs.Passed.{StateNamed, is_known}
use Rattle.record_fields.proofs.Counters.{four_long}
use Rattle.record_fields.proofs.Pawns.{named_known}
use Rattle.records.specs.declared.Why.{Why}
use Rattle.records.specs.declared.Record.{Record}
use Rattle.records.specs.Form.{Says}
use Rattle.records.specs.Entries.{outcome_number, taken, number_for, Reads, said, unsaid, record_on, WritesRecord}
use Rattle.records.specs.inner.Answering.{recorded_by, record_said}
use Rattle.records.proofs.Giving.{verdict_low, why_one, said_is, within_range}
use Rattle.records.proofs.Parts.{says_same}
use Rattle.records.proofs.Writing.{record_length}
use Rattle.records.proofs.Saying.{writes_known}
use Rattle.refusal.specs.Refusals.{nothing_refused}
use Rattle.std.specs.Prelude.{Result, Ok, Err}

same_said : (ed : Edition) (t : List ℕ) (f g : Position) (h n k m : ℕ) → Says ed f h n t → Says ed g k m t → record_said f h n ≡ record_said g k m
same_said ed t f g h n k m s u = let w = says_same ed t f g h n k m s u in λ i. record_said (w.0 i) (w.1 i) (w.2 i)

-- 14 is one answer
text_one : (a b : Result Record Why) → outcome_number a ≡ 14 → outcome_number b ≡ 14 → a ≡ b
text_one (Ok r) b e d = absurd (omega (arith, e))
text_one (Err w) (Ok q) e d = absurd (omega (arith, d))
text_one (Err w) (Err v) e d = ap Err (why_one w v (e ∙ sym d))

-- any two answers to a text that the contract allows are the same
pub read_one : (ed : Edition) (t : List ℕ) (a b : Result Record Why) → Reads ed t a → Reads ed t b → a ≡ b
read_one ed t a b (said f h n s e) (said g k m u d) = said_is f h n a e ∙ same_said ed t f g h n k m s u ∙ sym (said_is g k m b d)
read_one ed t a b (said f h n s e) (unsaid z d) = absurd (z f h n s)
read_one ed t a b (unsaid z e) (said f h n s d) = absurd (z f h n s)
read_one ed t a b (unsaid z e) (unsaid y d) = text_one a b e d

read_said : (ed : Edition) (t : List ℕ) (r : Result Record Why) (f : Position) (h n : ℕ) → Reads ed t r → Says ed f h n t → r ≡ record_said f h n
read_said ed t r f h n (said g k m u e) s = said_is g k m r e ∙ same_said ed t g f k m h n u s
read_said ed t r f h n (unsaid z e) s = absurd (z f h n s)

-- 15 and 1 to 6 are never 14, and 1 to 6 never 15
never_text : (f : Position) (h n : ℕ) → number_for f h n ≡ 14 → ⊥
never_text f h n = go (in_range h n)
  where
    go : (x : Bool) → cond x (first_failing (raw_tests f)) 15 ≡ 14 → ⊥
    go true e = number_six f e
    go false e = omega arith

never_counter : (f : Position) (h n : ℕ) → number_for f h n ≡ 15 → in_range h n ≡ false
never_counter f h n = go (in_range h n)
  where
    go : (x : Bool) → cond x (first_failing (raw_tests f)) 15 ≡ 15 → x ≡ false
    go true e = absurd (omega (arith, verdict_low (judged_of f), judged_number f))
    go false e = refl

-- 14 exactly where the text says nothing
pub text_exactly : (ed : Edition) (t : List ℕ) (r : Result Record Why) → Reads ed t r → (outcome_number r ≡ 14) ↔ ((f : Position) (h n : ℕ) → Says ed f h n t → ⊥)
text_exactly ed t r (said f h n s e) = (
  (λ k. absurd (never_text f h n (sym e.number ∙ k))),
  (λ z. absurd (z f h n s)),
)
text_exactly ed t r (unsaid z e) = ((λ _. z), (λ _. e))

-- the text says counters out of range
pub record SaysBeyond (ed : Edition) (t : List ℕ) : Type 0 where
  pub position : Position
  pub half : ℕ
  pub full : ℕ
  pub says : Says ed position half full t
  pub beyond : in_range half full ≡ false

-- "15 COUNTER after 14": exactly where the text is in form and a counter is out of range
pub counter_exactly : (ed : Edition) (t : List ℕ) (r : Result Record Why) → Reads ed t r → (outcome_number r ≡ 15) ↔ SaysBeyond ed t
counter_exactly ed t r (said f h n s e) = (
  (λ k. record { position = f; half = h; full = n; says = s; beyond = never_counter f h n (sym e.number ∙ k) }),
  (λ b.
      let w = says_same ed t f b.position h n b.half b.full s b.says in
      let q : in_range h n ≡ false = (λ i. in_range (w.1 i) (w.2 i)) ∙ b.beyond in
      e.number ∙ rw q),
)
counter_exactly ed t r (unsaid z e) = (
  (λ k. absurd (omega (arith, e))),
  (λ b. absurd (z b.position b.half b.full b.says)),
)

-- a square that 5 lets pass is on rank 4 or 5
state_named : (v : Edition) (m : Men) (c : Color) (e : EnPassantFlag) → state_ok v m c e ≡ true → is_known e ≡ true → StateNamed e
state_named v m c Any h k = let z : ◌≡◌ {A = ℕ} 0 1 = cc in absurd (omega arith)
state_named v m c None h k = tt
state_named v m c (Some q) h k = ranked c (eqb-true (rank_for (opp c) q) 3 (right _ _ (left _ _ (left _ _ (left _ _ h)))))
  where
    ranked : (d : Color) → rank_for (opp d) q ≡ 3 → (24 ≤ q) × (q < 40)
    ranked White r = (omega arith, omega arith)
    ranked Black r = (omega arith, omega arith)

-- the record of an accepted board whose state is known says that board, and with counters in range is read as it
module _ (b : RetractableBoard) (six : length b.pieces ≡ 6) (two : length b.colors ≡ 2) (bp : Bounded b.pieces) (bc : Bounded b.colors) (h n : ℕ) where
  record_said_lem : gate_of b ≡ nothing_refused → is_known b.passant ≡ true → Says b.terms.edition (position_on b) h n (record_on b h n)
  record_said_lem g k = record {
    edition = refl;
    clean = (gate_sound b six two bp bc g).clean;
    state = state_named b.terms.edition (men_on b) b.turn b.passant (judged_passes (position_on b) (gate_judged b g)).0.passes.state k;
    text = refl;
  }

  pub read_record : gate_of b ≡ nothing_refused → is_known b.passant ≡ true → in_range h n ≡ true → (r : Result Record Why) → Reads b.terms.edition (record_on b h n) r → r ≡ taken b h n
  read_record g k i r a =
      read_said b.terms.edition (record_on b h n) r (position_on b) h n a (record_said_lem g k) ∙ sym (within_range (position_on b) h n i)
      ∙ ap (λ (x : Boarded). recorded_by x.verdict x.board h n) (board_said b six two bp bc g)

  -- read after write: what was written, with counters in range, is read as the board and the counters
  pub read_after_write : (o after : List ℕ) (m : ℕ) → WritesRecord (board_tests b) b.passant (record_on b h n) o (told (m ∷ [])) after → in_range h n ≡ true
      → (r : Result Record Why) → Reads b.terms.edition (take m after) r → r ≡ taken b h n
  read_after_write o after m w i r a =
      let k = writes_known m after w in
      let v = tells_count k.1 m refl in
      let e : take m after ≡ record_on b h n = ap (take m) v.holds ∙ take_at (record_on b h n) (drop (length (record_on b h n)) o) m (sym v.size) in
      read_record (passed_gate b v.passed) k.0 i r (subst (λ (t : List ℕ). Reads b.terms.edition t r) e a)

-- a record that is taken
pub record Took (ed : Edition) (t : List ℕ) (r : Record) : Type 0 where
  pub gate : gate_of r.board ≡ nothing_refused
  pub known : is_known r.board.passant ≡ true
  pub range : in_range r.half r.full ≡ true
  pub text : record_on r.board r.half r.full ≡ t

took_said : (ed : Edition) (t : List ℕ) (f : Position) (h n : ℕ) → Says ed f h n t → in_range h n ≡ true → judged_of f ≡ nothing_refused
    → Took ed t (record { board = worked_of f; half = h; full = n })
took_said ed t f h n s i j = record { gate = gate_worked f j; known = named_known f.passant s.state; range = i; text = s.text }

pub took : (ed : Edition) (t : List ℕ) (r : Record) → Reads ed t (Ok r) → Took ed t r
took ed t r (unsaid z e) = absurd (omega (arith, e))
took ed t r (said f h n s e) = go (in_range h n) refl (sym e.number)
  where
    go : (x : Bool) → in_range h n ≡ x → cond x (first_failing (raw_tests f)) 15 ≡ 0 → Took ed t r
    go true i k =
        let j : judged_of f ≡ nothing_refused = verdict_one (judged_of f) nothing_refused (judged_number f ∙ k) in
        let d : r ≡ record { board = worked_of f; half = h; full = n } = cc (e.given (sym e.number)) in
        subst (Took ed t) (sym d) (took_said ed t f h n s i j)
    go false i k = absurd (omega arith)

-- write after read gives the bytes: what writing the board and its counters answers, and leaves in a slice, is what copying t does
pub write_after_read : (ed : Edition) (t : List ℕ) (r : Record) → Reads ed t (Ok r) → (o after : List ℕ) (x : Said)
    → WritesRecord (board_tests r.board) r.board.passant (record_on r.board r.half r.full) o x after → Writes [] t o x after
write_after_read ed t r a o after x w =
    let k = took ed t r a in
    let v : Writes (board_tests r.board) (record_on r.board r.half r.full) o x after = record { answer = w.answer ∙ rw k.known; holds = w.holds } in
    subst (λ (s : List ℕ). Writes [] s o x after) k.text (writes_passed (gate_passes r.board (gate_of r.board) refl k.gate) v)

-- a record that is taken has at most 91 bytes
pub taken_short : (ed : Edition) (t : List ℕ) (r : Record) → Reads ed t (Ok r) → length t ≤ 91
taken_short ed t r a =
    let k = took ed t r a in
    let p = leb-true r.half 9999 (left _ _ (left _ _ k.range)) in
    let q = leb-true r.full 9999 (right _ _ k.range) in
    subst (λ (l : List ℕ). length l ≤ 91) k.text
    (omega (arith, record_length (position_on r.board) r.half r.full, four_long r.half p, four_long r.full q))
