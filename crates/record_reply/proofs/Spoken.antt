-- The answers by what reader, lists and writer told; that there is one of each; and that no dash of edition A is sent out.
use mathlib.Core.Path.{◌≡◌, refl, sym, ◌∙◌, ap, subst}
use mathlib.Core.List.{List}
use Prim.Native.Nat.{ℕ}
use native.Mathlib.Omega.{arith}
use Rattle.laws.specs.declared.Edition.{Edition}
use Rattle.laws.specs.declared.Edition.TheVariants.{A}
use Rattle.laws.specs.declared.EnPassantFlag.TheVariants.{Any, None}
use Rattle.laws.specs.Positions.{terms_of}
use Rattle.refusal.specs.declared.Refusal.{Refusal}
use Rattle.refusal.specs.Refusals.{number_of, verdict_number, nothing_refused}
use Rattle.refusal.specs.Said.{first_failing}
use Rattle.refusal.proofs.Saying.{some_number}
use Rattle.accept.specs.Verdicts.{raw_tests}
use Rattle.board.specs.declared.RetractableBoard.{RetractableBoard}
use Rattle.board.specs.declared.Boarded.{Boarded}
use Rattle.board.specs.Answers.{worked_of}
use Rattle.text.specs.Entries.{Reads as ReadsText, said, unsaid}
use Rattle.text.proofs.RoundTrip.{read_one as text_one}
use Rattle.turning.specs.Turned.{turned_on}
use Rattle.records.specs.declared.Why.{Why}
use Rattle.records.specs.declared.Record.{Record}
use Rattle.records.specs.Entries.{why_number, Reads}
use Rattle.records.proofs.RoundTrip.{read_one}
use Rattle.reply.specs.Replies.{refused_text, Shows, AnswersBoard, listed_then}
use Rattle.reply.proofs.Spoken.{shows_one, answers_one}
use Rattle.record_reply.specs.Answers.{state_number, record_text, sent_number, AnswersRead, Replies, Sends}
use Rattle.std.specs.Prelude.{Result, Ok, Err}

-- a record that is read is answered
module _ (v : Edition) (t : List ℕ) (a : Result Record Why) (k : Reads v t a) {n : ℕ} {o out p q : List ℕ} where
  pub reply_refused : (why : Why) → a ≡ Err why → (x : ℕ) → x ≡ why_number why → Shows (refused_text x) n o out → Replies v t n o out p p q q
  reply_refused why e x i s = record { read = a; reads = k; answers = rw e (subst (λ (z : ℕ). Shows (refused_text z) n o out) i s, refl, refl) }

  pub reply_taken : (r : Record) → a ≡ Ok r → {listed strict : List ℕ} → AnswersBoard 0 r.board n o out q strict × (listed ≡ listed_then 0 r.board p)
      → Replies v t n o out p listed q strict
  reply_taken r e s = record { read = a; reads = k; answers = rw e s }

-- there is one answer to a record: its bytes, all of the buffer and of both slots
pub reply_one : (v : Edition) (t : List ℕ) (n m : ℕ) (o x y p l k q s u : List ℕ) → Replies v t n o x p l q s → Replies v t m o y p k q u → (n ≡ m) × (x ≡ y) × (l ≡ k) × (s ≡ u)
reply_one v t n m o x y p l k q s u a b =
    by a.read a.answers (subst (λ (r : Result Record Why). AnswersRead r m o y p k q u) (read_one v t b.read a.read b.reads a.reads) b.answers)
  where
    by : (r : Result Record Why) → AnswersRead r n o x p l q s → AnswersRead r m o y p k q u → (n ≡ m) × (x ≡ y) × (l ≡ k) × (s ≡ u)
    by (Ok r) c d = let h = answers_one c.0 d.0 in (h.0, h.1, c.1 ∙ sym d.1, h.2)
    by (Err why) c d = let h = shows_one refl c.0 d.0 in (h.0, h.1, c.1 ∙ sym d.1, c.2 ∙ sym d.2)

-- a text that is read is sent out
module _ (t : List ℕ) (r : Boarded) (a : ReadsText A t r) (h k : ℕ) {n : ℕ} {o out : List ℕ} where
  pub send_refused : (why : Refusal) → r.verdict ≡ Err why → Shows (refused_text (number_of why)) n o out → Sends t h k n o out
  send_refused why e s = record { read = r; reads = a; shows = rw (e, some_number why, some_number why) s }

  pub send_accepted : r.verdict ≡ nothing_refused → (b : RetractableBoard) → b ≡ turned_on r.board → Shows (record_text (state_number b) b h k) n o out → Sends t h k n o out
  send_accepted e b d s = record {
    read = r;
    reads = a;
    shows = rw e (subst (λ (c : RetractableBoard). Shows (record_text (state_number c) c h k) n o out) d s);
  }

-- there is one answer to a text that is sent out: its bytes, and all of the buffer
pub send_one : (t : List ℕ) (h k n m : ℕ) (o x y : List ℕ) → Sends t h k n o x → Sends t h k m o y → (n ≡ m) × (x ≡ y)
send_one t h k n m o x y a b = shows_one (ap sent (text_one A t a.read b.read a.reads b.reads)) a.shows b.shows
  where
    sent : Boarded → List ℕ
    sent r = record_text (sent_number (verdict_number r.verdict) (turned_on r.board)) (turned_on r.board) h k

read_in_a : (t : List ℕ) (r : Boarded) → ReadsText A t r → r.verdict ≡ nothing_refused → r.board.terms ≡ terms_of A
read_in_a t r (said f s d) h =
    let z : first_failing (raw_tests f) ≡ 0 = sym d.number ∙ ap verdict_number h in
    let e : r.board ≡ worked_of f = d.board ∙ rw z in
    ap (λ (b : RetractableBoard). b.terms) e ∙ s.edition
read_in_a t r (unsaid n e k) h = absurd (omega (arith, sym e ∙ ap verdict_number h))

-- "a dash never silently changes its meaning": a text that says A's dash is 16, and no record of it is sent out
pub dash_unsent : (t : List ℕ) (h k n : ℕ) (o out : List ℕ) (s : Sends t h k n o out) → s.read.verdict ≡ nothing_refused → s.read.board.passant ≡ None
    → Shows (refused_text 16) n o out
dash_unsent t h k n o out s a d =
    let b = turned_on s.read.board in
    let e : b.passant ≡ Any = rw (read_in_a t s.read s.reads a, d) in
    let z : sent_number (verdict_number s.read.verdict) b ≡ 16 = rw (a, e) in
    subst (λ (m : ℕ). Shows (record_text m b h k) n o out) z s.shows
