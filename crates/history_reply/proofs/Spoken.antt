-- The answers by what was read and told; a depth above 255 is answered as 255 is; and that there is one answer to a line.
use mathlib.Core.Path.{◌≡◌, refl, sym, ◌∙◌, ap, subst}
use mathlib.Core.Logic.{◌⊎◌, inl, inr}
use mathlib.Core.Bool.{Bool, true, false, false≢true}
use mathlib.Core.List.{List, ◌∷◌, ◌++◌}
use Prim.Native.Nat.{ℕ, ◌-◌, ◌≤◌, ◌<◌, min}
use native.Mathlib.Omega.{arith}
use lib.Dec.{eqb, leb}
use lib.ListN.{length, take, drop}
use lib.Seq.{take-length}
use borrow.Author.Tests.{eq-eqb, eqb-true, lt-leb}
use Rattle.io.specs.Counts.{IsPrefixLen}
use Rattle.squares.specs.Tests.{◌and◌}
use Rattle.laws.specs.declared.Edition.TheVariants.{A}
use Rattle.refusal.specs.declared.Refusal.{Refusal}
use Rattle.refusal.specs.declared.Refusal.TheVariants.{Text}
use Rattle.refusal.specs.Refusals.{number_of, verdict_number, nothing_refused}
use Rattle.board.specs.declared.RetractableBoard.{RetractableBoard}
use Rattle.board.specs.declared.Boarded.{Boarded}
use Rattle.text.specs.Entries.{Reads}
use Rattle.rows.specs.Rows.{decimal_of}
use Rattle.record_fields.specs.inner.Counting.{Counted, counted, uncounted}
use Rattle.record_fields.specs.inner.Splitting.{Cut}
use Rattle.reply.specs.Replies.{refused_text, Shows}
use Rattle.history.specs.Histories.{number_for, Answers}
use Rattle.history_reply.specs.Replies.{history_text, line_text, AnswersText, Replies, asked, unasked}
use Rattle.squares.proofs.Testing.{order, and_false}
use Rattle.refusal.proofs.Saying.{some_number}
use Rattle.text.proofs.RoundTrip.{read_one}
use Rattle.record_fields.proofs.Decimals.{dec_same}
use Rattle.record_fields.proofs.Splits.{Free, free_decimal, not_free, cut_one, free_part, cut_part, free_whole}
use Rattle.reply.proofs.Spoken.{shows_one}
use Rattle.history.proofs.Answering.{passed, one_answer}
use Rattle.std.specs.Prelude.{Err, Ok, None, Result, Option, Some}
use Rattle.history.specs.declared.History.{History}
use Rattle.history.specs.declared.Why.{Why}

-- a text that is read is answered
module _ (x : List ℕ) (r : Boarded) (a : Reads A x r) (n : ℕ) {k : ℕ} {o out : List ℕ} where
  pub text_refused : (why : Refusal) → r.verdict ≡ Err why → Shows (refused_text (number_of why)) k o out → AnswersText x n k o out
  text_refused why e s = record {
    read = r;
    reads = a;
    told = (Ok None);
    tells = λ z. absurd (false≢true (sym (some_number why) ∙ eq-eqb (number_of why) 0 (sym (ap verdict_number e) ∙ z)));
    shows = rw (e, some_number why) s;
  }

  pub text_told : r.verdict ≡ nothing_refused → (t : Result (Option History) Why) → Answers r.board n t → Shows (history_text r.board n t) k o out → AnswersText x n k o out
  text_told e t q s = record { read = r; reads = a; told = t; tells = λ _. q; shows = rw e s }

-- two depths that are the same or both too great are answered alike
module _ (n m : ℕ) (same : n ≤ 4 → m ≡ n) (deep : 4 < n → 4 < m) where
  too_deep : (b : RetractableBoard) (k : ℕ) → 4 < k → (leb 1 k and leb k 4) ≡ false
  too_deep b k h = ap (λ (z : Bool). leb 1 k and z) (lt-leb k 4 h) ∙ and_false (leb 1 k)

  both_deep : (b : RetractableBoard) → 4 < n → number_for b m ≡ number_for b n
  both_deep b h = rw (too_deep b n h, too_deep b m (deep h))

  alike : (b : RetractableBoard) (t : Result (Option History) Why) → Answers b m t → Answers b n t × (history_text b m t ≡ history_text b n t)
  alike b t x = by (order 4 n)
    where
      far : 4 < n → (r : Result (Option History) Why) → Answers b m r → Answers b n r × (history_text b m r ≡ history_text b n r)
      far h (Ok (Some g)) y = absurd (omega (arith, deep h, (passed b m (sym y.number)).2))
      far h (Ok None) y = absurd (omega (arith, deep h, (passed b m (sym y.number)).2))
      far h (Err w) y = (record { number = y.number ∙ both_deep b h; answer = λ z. y.answer (both_deep b h ∙ z) }, refl)

      by : (4 < n) ⊎ (n ≤ 4) → Answers b n t × (history_text b m t ≡ history_text b n t)
      by (inl h) = far h t x
      by (inr h) = (subst (λ (k : ℕ). Answers b k t) (same h) x, ap (λ (k : ℕ). history_text b k t) (same h))

  answers_alike : {x : List ℕ} {k : ℕ} {o out : List ℕ} → AnswersText x m k o out → AnswersText x n k o out
  answers_alike {k = k} {o = o} {out = out} a = record {
    read = a.read;
    reads = a.reads;
    told = a.told;
    tells = λ e. (alike a.read.board a.told (a.tells e)).0;
    shows = subst (λ (t : List ℕ). Shows t k o out) (go (eqb number 0) refl) a.shows;
  }
    where
      number : ℕ
      number = verdict_number a.read.verdict

      go : (z : Bool) → eqb number 0 ≡ z
          → line_text number a.read.board m a.told ≡ line_text number a.read.board n a.told
      go true e = rw e (alike a.read.board a.told (a.tells (eqb-true number 0 e))).1
      go false e = rw e

-- the line by its last space, behind which j stands
module _ (t : List ℕ) (j : ℕ) (c : Cut t (length t) j) where
  pub no_depth : {k : ℕ} {o out : List ℕ} → j ≡ 0 → Shows (refused_text (number_of Text)) k o out → Replies t k o out
  no_depth e s =
      let f : Free t = subst Free (take-length t) (free_whole t (length t) j (omega arith) c e) in
      unasked (λ x n q. not_free x (decimal_of n) (subst Free q f)) s

  module _ (z : 0 < j) where
    last_field : t ≡ take (j - 1) t ++ (32 ∷ take (length t - j) (drop j t))
    last_field = sym (take-length t) ∙ cut_part t (length t) j (omega arith) c z

    depth_is : (x : List ℕ) (n : ℕ) → t ≡ x ++ (32 ∷ decimal_of n) → decimal_of n ≡ take (length t - j) (drop j t)
    depth_is x n q =
        (cut_one x (decimal_of n) (take (j - 1) t) (take (length t - j) (drop j t)) (free_decimal n) (free_part t (length t) j (omega arith) c) (sym q ∙ last_field)).1

    pub no_number : {k : ℕ} {o out : List ℕ} (d : ℕ) → Counted (take (length t - j) (drop j t)) d → 10000 < d → Shows (refused_text (number_of Text)) k o out
        → Replies t k o out
    no_number d (counted n e i) h s = absurd (omega (arith, i, h))
    no_number d (uncounted f i) h s = unasked (λ x n q. f n (depth_is x n q)) s

    pub answered : {k : ℕ} {o out : List ℕ} (d m : ℕ) → Counted (take (length t - j) (drop j t)) d → d ≤ 10000 → m ≡ min d 255
        → AnswersText (take (j - 1) t) m k o out → Replies t k o out
    answered d m (uncounted f i) h g a = absurd (omega (arith, i, h))
    answered d m (counted n e i) h g a =
        asked (take (j - 1) t) n (last_field ∙ ap (λ (l : List ℕ). take (j - 1) t ++ (32 ∷ l)) (sym e))
        (answers_alike n m (λ u. omega (arith, i, g, u)) (λ u. omega (arith, i, g, u)) a)

-- there is one answer to a line: its bytes, and all of the buffer
text_one : {x : List ℕ} {n k l : ℕ} {o p q : List ℕ} → AnswersText x n k o p → AnswersText x n l o q → (k ≡ l) × (p ≡ q)
text_one {x} {n} {o = o} a b = shows_one (same ∙ rest (eqb number 0) refl) a.shows b.shows
  where
    number : ℕ
    number = verdict_number b.read.verdict

    board : a.read ≡ b.read
    board = read_one A x a.read b.read a.reads b.reads

    same : line_text (verdict_number a.read.verdict) a.read.board n a.told ≡ line_text number b.read.board n a.told
    same = ap (λ (r : Boarded). line_text (verdict_number r.verdict) r.board n a.told) board

    told_too : number ≡ 0 → Answers b.read.board n a.told
    told_too = subst (λ (r : Boarded). verdict_number r.verdict ≡ 0 → Answers r.board n a.told) board a.tells

    rest : (z : Bool) → eqb number 0 ≡ z → line_text number b.read.board n a.told ≡ line_text number b.read.board n b.told
    rest true e =
        let h = eqb-true number 0 e in ap (line_text number b.read.board n) (one_answer b.read.board n a.told b.told (told_too h) (b.tells h))
    rest false e = rw e

pub reply_one : (t : List ℕ) (k l : ℕ) (o p q : List ℕ) → Replies t k o p → Replies t l o q → (k ≡ l) × (p ≡ q)
reply_one t k l o p q (asked x n e a) (asked y m f b) =
    let z = cut_one x (decimal_of n) y (decimal_of m) (free_decimal n) (free_decimal m) (sym e ∙ f) in
    text_one (subst (λ (i : ℕ). AnswersText y i k o p) (dec_same n m z.1) (subst (λ (s : List ℕ). AnswersText s n k o p) z.0 a)) b
reply_one t k l o p q (asked x n e a) (unasked f s) = absurd (f x n e)
reply_one t k l o p q (unasked f s) (asked x n e a) = absurd (f x n e)
reply_one t k l o p q (unasked f s) (unasked g u) = shows_one refl s u

-- an answer lies in its buffer
pub reply_counts : (t : List ℕ) (k : ℕ) (o out : List ℕ) → Replies t k o out → IsPrefixLen k out
reply_counts t k o out (asked x n e a) = a.shows.counts
reply_counts t k o out (unasked f s) = s.counts
