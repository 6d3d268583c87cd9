-- Lines looked at one by one.
use mathlib.Core.Path.{◌≡◌, refl, sym, ◌∙◌, ap, subst}
use mathlib.Core.Bool.{true, false}
use mathlib.Core.List.{List, [], ◌∷◌, ◌++◌, append_assoc}
use mathlib.Core.Logic.{⊎_elim}
use Prim.Native.Nat.{ℕ, ◌+◌, ◌-◌, ◌≤◌, ◌<◌}
use native.Mathlib.Omega.{arith}
use native.Mathlib.Numerals.{add-one}
use lib.ListN.{length, get_or, take, drop, length-append, length-drop, take-append-drop}
use lib.Seq.{drop-cons, drop-drop, get_or-take, get_or-drop, length-take-le}
use Rattle.squares.proofs.Testing.{order}
use Rattle.laws.specs.declared.Position.{Position}
use Rattle.laws.specs.declared.Edition.TheVariants.{A}
use Rattle.accept.specs.Verdicts.{judged_of}
use Rattle.chunks.specs.Newlines.{stop_from}
use Rattle.chunks.proofs.Cuts.{stop_within, stop_newline, stop_first}
use Rattle.position_text.specs.declared.Form.{Form}
use Rattle.position_text.specs.declared.Form.TheVariants.{InForm, OutOfForm}
use Rattle.position_text.specs.declared.Raw.{Raw}
use Rattle.position_text.specs.Form.{printed, Says, AnswersBy, Answers}
use Rattle.volume_lines.specs.declared.Named.{Named}
use Rattle.volume_lines.specs.Register.{Told, AllTold, lines_of, Starts, note_of, noted_of}
use Rattle.volume_lines.specs.inner.Surveys.{Surveyed}
use Rattle.volume_lines.proofs.Breaks.{Free, free_of, free_no, free_split, printed_free, line_one}
use Rattle.refusal.specs.Refusals.{Verdict}

-- the bytes from `at` up to the newline at `stop`, and what follows
module _ (t : List ℕ) (at stop : ℕ) (inside : at ≤ length t) (found : stop ≡ stop_from t at (length t - at)) where
  pub stop_in : (at ≤ stop) × (stop ≤ length t)
  stop_in = let w = stop_within t at (length t - at) in (omega (arith, w.0), omega (arith, w.1))

  pub before_end : (stop ≡ length t → ⊥) → stop < length t
  before_end f = ⊎_elim (λ h. h) (λ h. absurd (f (omega (arith, stop_in.1)))) (order stop (length t))

  pub clear : (k : ℕ) → at ≤ k → k < stop → get_or t k 0 ≡ 10 → ⊥
  clear k h g = stop_first t at (length t - at) k h (omega arith)

  piece_free : Free (take (stop - at) (drop at t))
  piece_free =
      free_of (take (stop - at) (drop at t))
      (λ k h e.
      let l : length (take (stop - at) (drop at t)) ≡ stop - at = length-take-le (stop - at) (drop at t) (omega (arith, length-drop at t, stop_in.1)) in
      let b : k < stop - at = omega arith in
      clear (at + k) (omega arith) (omega arith) (sym (get_or-take (stop - at) (drop at t) k 0 b ∙ get_or-drop at t k 0) ∙ e))

  cut : stop < length t → take (stop - at) (drop at t) ++ (10 ∷ drop (stop + 1) t) ≡ drop at t
  cut h =
      let e : at + (stop - at) ≡ stop = omega (arith, stop_in.0) in
      let b : get_or t stop 0 ≡ 10 = ap (λ (k : ℕ). get_or t k 0) found ∙ stop_newline t at (length t - at) (omega arith) in
      let d : drop (stop - at) (drop at t) ≡ 10 ∷ drop (stop + 1) t =
      drop-drop (stop - at) at t ∙ ap (λ (k : ℕ). drop k t) e ∙ drop-cons t stop 0 h ∙ (rw (b, add-one)) in
      ap (λ (z : List ℕ). take (stop - at) (drop at t) ++ z) (sym d) ∙ take-append-drop (stop - at) (drop at t)

  pub line_in : (raw : Raw) → stop < length t → Answers A (take (stop - at) (drop at t)) raw → raw.form ≡ InForm → Starts raw.position (drop (stop + 1) t) (drop at t)
  line_in raw h a e = go raw.form a e
    where
      go : (v : Form) → AnswersBy A (take (stop - at) (drop at t)) raw.position v → v ≡ InForm → Starts raw.position (drop (stop + 1) t) (drop at t)
      go InForm a e =
          record {
            told = subst (λ (x : List ℕ). Says A raw.position x) (sym a.text) a;
            text = ap (λ (z : List ℕ). z ++ (10 ∷ drop (stop + 1) t)) a.text ∙ cut h;
          }
      go OutOfForm a e = cc

  pub line_out : (raw : Raw) → stop < length t → Answers A (take (stop - at) (drop at t)) raw → raw.form ≡ OutOfForm
      → (p : Position) (u : List ℕ) → Starts p u (drop at t) → ⊥
  line_out raw h a e = go raw.form a e
    where
      go : (v : Form) → AnswersBy A (take (stop - at) (drop at t)) raw.position v → v ≡ OutOfForm → (p : Position) (u : List ℕ) → Starts p u (drop at t) → ⊥
      go InForm a e p u w = cc
      go OutOfForm a e p u w =
          let d = free_split (printed p) (take (stop - at) (drop at t)) u (drop (stop + 1) t) (printed_free p) piece_free (w.text ∙ sym (cut h)) in
          a.1 p (subst (λ (x : List ℕ). Says A p x) d.0 w.told)

  -- a line that is known to be in form is found, and read as what it says
  pub record Next (p : Position) (u : List ℕ) (q : Position) : Type 0 where
    pub ended : stop < length t
    pub same : q ≡ p
    pub rest : drop (stop + 1) t ≡ u

  pub next : (p : Position) (u : List ℕ) → Starts p u (drop at t) → (raw : Raw) → Answers A (take (stop - at) (drop at t)) raw → Next p u raw.position
  next p u s raw a = go raw.form refl
    where
      all_free : length t ≤ stop → Free (drop at t)
      all_free h = free_of (drop at t) (λ k g e. clear (at + k) (omega arith) (omega (arith, length-drop at t)) (sym (get_or-drop at t k 0) ∙ e))

      there : stop < length t
      there = ⊎_elim (λ h. h) (λ h. absurd (free_no (printed p) u (subst Free (sym s.text) (all_free h)))) (order stop (length t))

      go : (v : Form) → raw.form ≡ v → Next p u raw.position
      go InForm e =
          let l = line_in raw there a e in
          let d = line_one raw.position p (drop (stop + 1) t) u l.told s.told (l.text ∙ sym s.text) in
          record { ended = there; same = d.0; rest = d.1 }
      go OutOfForm e = absurd (line_out raw there a e p u s)

-- one line more
pub all_snoc : (ps : List Position) (p : Position) → AllTold ps → Told p → AllTold (ps ++ (p ∷ []))
all_snoc [] p a b = (b, tt)
all_snoc (q ∷ ps) p a b = (a.0, all_snoc ps p a.1 b)

pub lines_snoc : (ps : List Position) (p : Position) (u : List ℕ) → lines_of (ps ++ (p ∷ [])) ++ u ≡ lines_of ps ++ (printed p ++ (10 ∷ u))
unfolding lines_of
lines_snoc [] p u = append_assoc (printed p) (10 ∷ []) u
lines_snoc (q ∷ ps) p u =
    append_assoc (printed q) (10 ∷ lines_of (ps ++ (p ∷ []))) u
    ∙ ap (λ (z : List ℕ). printed q ++ (10 ∷ z)) (lines_snoc ps p u)
    ∙ sym (append_assoc (printed q) (10 ∷ lines_of ps) (printed p ++ (10 ∷ u)))

pub noted_snoc : (n : Named) (k : ℕ) (ps : List Position) (p : Position) → noted_of n k (ps ++ (p ∷ [])) ≡ note_of (noted_of n k ps) (k + length ps + 1) (judged_of p)
unfolding noted_of
noted_snoc n k [] p = ap (λ (j : ℕ). note_of n j (judged_of p)) (omega arith)
noted_snoc n k (q ∷ ps) p =
    noted_snoc (note_of n (k + 1) (judged_of q)) (k + 1) ps p
    ∙ ap (λ (j : ℕ). note_of (noted_of (note_of n (k + 1) (judged_of q)) (k + 1) ps) j (judged_of p)) (omega arith)

module _ (t : List ℕ) (count : ℕ) (before : Named) where
  -- the lines before `at` are in form; k is how many there are, with those before the slice
  pub record Sofar (at k : ℕ) (n : Named) : Type 0 where
    pub boards : List Position
    pub told : AllTold boards
    pub text : lines_of boards ++ drop at t ≡ t
    pub number : k ≡ count + length boards
    pub named_is : n ≡ noted_of before count boards
    pub inside : at ≤ length t
    pub few : length boards ≤ at

  pub sofar_none : Sofar 0 count before
  unfolding lines_of noted_of
  sofar_none = record { boards = []; told = tt; text = refl; number = omega arith; named_is = refl; inside = omega arith; few = omega arith }

  pub sofar_more : {at k : ℕ} {n m : Named} (p : Position) (e : ℕ) (v : Verdict) → Sofar at k n → Starts p (drop e t) (drop at t) → at < e → e ≤ length t
      → v ≡ judged_of p → m ≡ note_of n (k + 1) v → Sofar e (k + 1) m
  sofar_more {at} {k} {n} {m} p e v s l h i j q =
      record {
        boards = s.boards ++ (p ∷ []);
        told = all_snoc s.boards p s.told l.told;
        text = lines_snoc s.boards p (drop e t) ∙ ap (λ (z : List ℕ). lines_of s.boards ++ z) l.text ∙ s.text;
        number = omega (arith, s.number, length-append s.boards (p ∷ []));
        named_is = q ∙ (λ i. note_of (s.named_is i) (w i) (j i)) ∙ sym (noted_snoc before count s.boards p);
        inside = i;
        few = omega (arith, s.few, length-append s.boards (p ∷ []));
      }
    where
      w : k + 1 ≡ count + length s.boards + 1
      w = omega (arith, s.number)

  -- what stands behind has no newline
  pub sofar_open : {at k : ℕ} {n : Named} → Sofar at k n → ((i : ℕ) → at ≤ i → i < length t → get_or t i 0 ≡ 10 → ⊥)
      → Surveyed t count before (record { count = k; named = n; at = at; good = true })
  sofar_open s f = record { boards = s.boards; told = s.told; text = s.text; inside = s.inside; number = s.number; named_is = s.named_is; ends = f }

  pub sofar_stops : {at k : ℕ} {n : Named} → Sofar at k n → at < length t → ((p : Position) (u : List ℕ) → Starts p u (drop at t) → ⊥)
      → Surveyed t count before (record { count = k; named = n; at = at; good = false })
  sofar_stops s h f = record { boards = s.boards; told = s.told; text = s.text; inside = s.inside; number = s.number; named_is = s.named_is; ends = (h, f) }
