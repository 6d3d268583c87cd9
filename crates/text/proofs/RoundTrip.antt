-- The two entries: one answer to a text, 14 exactly where it has not the form, and each entry inverts the other.
use mathlib.Core.Path.{◌≡◌, refl, sym, ◌∙◌, ap, ap₂, subst}
use mathlib.Core.Logic.{◌↔◌}
use mathlib.Core.Bool.{Bool, true, false}
use mathlib.Core.List.{List, [], ◌∷◌}
use Prim.Native.Nat.{ℕ, ◌<◌}
use native.Mathlib.Omega.{arith}
use lib.ListN.{length}
use lib.Dec.{eqb}
use borrow.Author.Tests.{ltb-true, eqb-false}
use Rattle.squares.specs.Tests.{◌and◌}
use Rattle.geometry.specs.declared.Color.{Color}
use Rattle.laws.specs.declared.EnPassantFlag.{EnPassantFlag}
use Rattle.laws.specs.declared.Edition.{Edition}
use Rattle.laws.specs.declared.EnPassantFlag.TheVariants.{Any, Some, None}
use Rattle.laws.specs.Men.{Men}
use Rattle.laws.specs.Acceptance.{kings_ok, pawns_ok, rights_ok, state_ok, quiet}
use Rattle.laws.specs.Boards.{men_ok, men_in, pos_at}
use Rattle.refusal.specs.declared.Refusal.TheVariants.{Men as men, Kings as kings, Pawn as pawn, Rights as rights, Passant as passant, Check as check, Stale, Text}
use Rattle.refusal.specs.Refusals.{verdict_number, unless, and_then, Verdict, nothing_refused}
use Rattle.accept.specs.Verdicts.{judged_of, raw_tests}
use Rattle.refusal.specs.Said.{◌else◌, first_failing, Said, Writes}
use Rattle.board.specs.declared.RetractableBoard.{RetractableBoard}
use Rattle.board.specs.declared.Boarded.{Boarded}
use Rattle.board.specs.Gate.{position_on, men_on, gate_of, board_tests, no_board, boarded_by}
use Rattle.board.specs.Answers.{worked_of}
use Rattle.board.specs.inner.Gates.{new_of}
use Rattle.board.specs.Said.{Boards}
use Rattle.position_text.specs.declared.Form.{Form}
use Rattle.position_text.specs.declared.Form.TheVariants.{InForm, OutOfForm}
use Rattle.position_text.specs.declared.Raw.{Raw}
use Rattle.laws.specs.declared.Position.{Position}
use Rattle.position_text.specs.Form.{Says, StateFits, AnswersBy, Answers}
use Rattle.text.specs.Entries.{Reads, said, unsaid, text_on}
use Rattle.squares.proofs.Testing.{left, agree, agree_eq}
use Rattle.laws.proofs.Cases.{by_cases}
use Rattle.laws.proofs.Cleaning.{Bounded}
use Rattle.accept.proofs.Numbered.{judged_passes, judged_number}
use Rattle.refusal.proofs.Saying.{verdict_one}
use Rattle.refusal.proofs.Writing.{writes_passed}
use Rattle.board.proofs.Saying.{boards_by, boards_one}
use Rattle.board.proofs.Passing.{new_is, gate_sound, gate_judged, worked_whole}
use Rattle.board.proofs.Moving.{fresh_worked}
use Rattle.board.proofs.Numbers.{gate_passes}
use Rattle.position_text.proofs.Inverse.{says_one, says_short}
use Rattle.std.specs.Prelude.{Err}

-- any two answers to a text that the contract allows are the same
pub read_one : (v : Edition) (t : List ℕ) (a b : Boarded) → Reads v t a → Reads v t b → a ≡ b
read_one v t a b (said f s e) (said g u d) = boards_one a b (subst (λ (h : Position). Boards (raw_tests h) (worked_of h) a) (says_one v t f g s u) e) d
read_one v t a b (said f s e) (unsaid n d m) = absurd (n f s)
read_one v t a b (unsaid n e k) (said f s d) = absurd (n f s)
read_one v t a b (unsaid n e k) (unsaid m d l) = λ i. record { verdict = verdict_one a.verdict b.verdict (e ∙ sym d) i; board = (k ∙ sym l) i }

pub read_said : (v : Edition) (t : List ℕ) (r : Boarded) (f : Position) → Reads v t r → Says v f t → r ≡ new_of f
read_said v t r f (said g s e) u = new_is f r (subst (λ (h : Position). Boards (raw_tests h) (worked_of h) r) (says_one v t g f s u) e)
read_said v t r f (unsaid n e k) u = absurd (n f u)

-- the answer of the reader of fields, taken to the board
pub read_in : (v : Edition) (t : List ℕ) (raw : Raw) (r : Boarded) → Answers v t raw → raw.form ≡ InForm → r ≡ new_of raw.position → Reads v t r
read_in v t raw r a e h =
    let p = raw.position in
    said p (subst (λ (z : Form). AnswersBy v t p z) e a) (subst (Boards (raw_tests p) (worked_of p)) (sym h) (boards_by _ _ _ (judged_number p)))

pub read_out : (v : Edition) (t : List ℕ) (raw : Raw) (r : Boarded) → Answers v t raw → raw.form ≡ OutOfForm → r ≡ boarded_by (Err Text) no_board → Reads v t r
read_out v t raw r a e h =
    unsaid (subst (λ (z : Form). AnswersBy v t raw.position z) e a).1 (ap (λ (x : Boarded). verdict_number x.verdict) h) (ap (λ (x : Boarded). x.board) h)

-- 1 to 6 are never 14
pub number_six : (p : Position) → first_failing (raw_tests p) ≡ 14 → ⊥
unfolding first_failing ◌and◌
number_six p =
    eqb-false (first_failing (raw_tests p)) 14
    (agree_eq _ _ (by_cases 6
    (λ a b d e f g. agree (eqb (first_failing ((a else men) ∷ (b else kings) ∷ (d else pawn) ∷ (e else rights) ∷ (f else passant) ∷ (g else check) ∷ [])) 14) false) refl
    (men_ok p.pieces p.colors) (kings_ok (men_in p)) (pawns_ok (men_in p)) (rights_ok (men_in p) (pos_at p).rights) (state_ok p.terms.edition (men_in p) p.turn p.passant) (quiet (men_in p) p.turn)))

-- "14 TEXT: the text hasn't the form under Text": exactly then
pub text_exactly : (v : Edition) (t : List ℕ) (r : Boarded) → Reads v t r → (verdict_number r.verdict ≡ 14) ↔ ((f : Position) → Says v f t → ⊥)
text_exactly v t r (said g s e) = (
  (λ h. absurd (number_six g (sym e.number ∙ h))),
  (λ n. absurd (n g s)),
)
text_exactly v t r (unsaid n e k) = ((λ _. n), (λ _. e))

state_fits : (v : Edition) (m : Men) (c : Color) (st : EnPassantFlag) → state_ok v m c st ≡ true → StateFits st
state_fits v m c Any h = tt
state_fits v m c (Some q) h = ltb-true q 64 (left _ _ (left _ _ (left _ _ (left _ _ (left _ _ h)))))
state_fits v m c None h = tt

-- read after print: the text of an accepted board, read in the board's own edition, is that board, all of it
module _ (b : RetractableBoard) (six : length b.pieces ≡ 6) (two : length b.colors ≡ 2) (bp : Bounded b.pieces) (bc : Bounded b.colors) (h : gate_of b ≡ nothing_refused) where
  text_said : Says b.terms.edition (position_on b) (text_on b)
  text_said = record {
    edition = refl;
    clean = (gate_sound b six two bp bc h).clean;
    square = state_fits b.terms.edition (men_on b) b.turn b.passant (judged_passes (position_on b) (gate_judged b h)).0.passes.state;
    text = refl;
  }

  pub board_said : new_of (position_on b) ≡ boarded_by nothing_refused b
  board_said = ap (λ (v : Verdict). boarded_by v (worked_of (position_on b))) (gate_judged b h) ∙ ap (boarded_by nothing_refused) (worked_whole b h)

  pub read_after_print : (r : Boarded) → Reads b.terms.edition (text_on b) r → r ≡ boarded_by nothing_refused b
  read_after_print r a = read_said b.terms.edition (text_on b) r (position_on b) a text_said ∙ board_said

-- men that pass 1 to 6, worked out, pass 7
pub gate_worked : (f : Position) → judged_of f ≡ nothing_refused → gate_of (worked_of f) ≡ nothing_refused
unfolding gate_of
gate_worked f h = ap₂ (λ (v : Verdict) (t : Bool). and_then v (unless t Stale nothing_refused)) h (fresh_worked f)

-- a board that is read is accepted, and its text is the one that was read
pub read_accepted : (v : Edition) (t : List ℕ) (r : Boarded) → Reads v t r → r.verdict ≡ nothing_refused → (gate_of r.board ≡ nothing_refused) × (text_on r.board ≡ t)
read_accepted v t r (said f s d) h =
    let e = new_is f r d in
    let j : judged_of f ≡ nothing_refused = sym (ap (λ (x : Boarded). x.verdict) e) ∙ h in
    let w : r.board ≡ worked_of f = ap (λ (x : Boarded). x.board) (e ∙ ap (λ (v : Verdict). boarded_by v (worked_of f)) j) in
    (ap gate_of w ∙ gate_worked f j, ap text_on w ∙ s.text)
read_accepted v t r (unsaid n e k) h = absurd (omega (arith, sym e ∙ ap verdict_number h))

-- print after read gives the bytes: what printing the board answers, and leaves in a slice, is what copying t does
pub print_after_read : (v : Edition) (t : List ℕ) (r : Boarded) → Reads v t r → r.verdict ≡ nothing_refused → (o after : List ℕ) (x : Said)
    → Writes (board_tests r.board) (text_on r.board) o x after → Writes [] t o x after
print_after_read v t r a h o after x w =
    let g = read_accepted v t r a h in
    subst (λ (s : List ℕ). Writes [] s o x after) g.1 (writes_passed (gate_passes r.board (gate_of r.board) refl g.0) w)

-- "At most 81 bytes": a longer text is refused by 14
pub long_refused : (v : Edition) (t : List ℕ) (r : Boarded) → Reads v t r → 81 < length t → verdict_number r.verdict ≡ 14
long_refused v t r a h = (text_exactly v t r a).1 (λ f s. let k = says_short v t f s in omega arith)
