-- The reader's three ways: no space, one space, and the six fields.
use mathlib.Core.Path.{◌≡◌, refl, sym, ◌∙◌, ap, ap₂, subst}
use mathlib.Core.Bool.{Bool, true, false, cond}
use mathlib.Core.List.{List, ◌∷◌, ◌++◌, append_assoc}
use Prim.Native.Nat.{ℕ, ◌-◌, ◌≤◌, ◌<◌, min}
use native.Mathlib.Omega.{arith}
use lib.ListN.{length, take, drop}
use lib.Seq.{take-length}
use borrow.Author.Tests.{lt-ltb, le-ltb, leb-true}
use Rattle.squares.proofs.Testing.{left, right}
use Rattle.laws.specs.declared.Edition.{Edition}
use Rattle.laws.specs.declared.Position.{Position}
use Rattle.refusal.specs.declared.Refusal.TheVariants.{Text}
use Rattle.board.specs.Answers.{worked_of}
use Rattle.position_text.specs.declared.Form.{Form}
use Rattle.position_text.specs.declared.Form.TheVariants.{InForm, OutOfForm}
use Rattle.position_text.specs.declared.Raw.{Raw}
use Rattle.position_text.specs.Form.{printed, Says as FourSays, AnswersBy, Answers}
use Rattle.position_text.proofs.Inverse.{says_one}
use Rattle.rows.specs.Rows.{decimal_of}
use Rattle.record_fields.specs.Counters.{in_range}
use Rattle.record_fields.specs.Passed.{is_known}
use Rattle.record_fields.specs.inner.Counting.{Counted, counted, uncounted}
use Rattle.record_fields.specs.inner.Splitting.{Cut}
use Rattle.record_fields.specs.inner.Pawns.{pawn_state}
use Rattle.record_fields.proofs.Counters.{min_range}
use Rattle.record_fields.proofs.Splits.{Free, free_decimal, not_free, cut_one, free_part, cut_part, free_whole}
use Rattle.record_fields.proofs.Pawns.{pawn_back, pawn_known, never_unknown}
use Rattle.records.specs.declared.Why.TheVariants.{Base}
use Rattle.records.specs.declared.Why.{Why}
use Rattle.records.specs.declared.Record.{Record}
use Rattle.records.specs.Form.{Says}
use Rattle.records.specs.Entries.{outcome_number, number_for, Gives, Reads, said, unsaid}
use Rattle.records.specs.inner.Answering.{with_state, passed_fields, record_said, answer_by, answer_of}
use Rattle.records.proofs.Giving.{gives_said}
use Rattle.records.proofs.Parts.{four_said, said_parts, parts_said}
use Rattle.std.specs.Prelude.{Result, Err}

-- the two cases, from what the code makes
says_nothing : (ed : Edition) (t : List ℕ) (r : Result Record Why) → ((f : Position) (h n : ℕ) → Says ed f h n t → ⊥) → r ≡ Err (Base Text) → Reads ed t r
says_nothing ed t r z e = unsaid z (ap outcome_number e)

says_so : (ed : Edition) (t : List ℕ) (r : Result Record Why) (f : Position) (h n : ℕ) → Says ed f h n t → r ≡ record_said f h n → Reads ed t r
says_so ed t r f h n s e = said f h n s (subst (Gives (number_for f h n) (worked_of f) h n) (sym e) (gives_said f h n))

-- the answer is the same where counters above the range are read as 10,000
min_said : (f : Position) (h n : ℕ) → record_said f (min h 10000) (min n 10000) ≡ record_said f h n
min_said f h n = go (in_range h n) refl
  where
    go : (x : Bool) → in_range h n ≡ x → record_said f (min h 10000) (min n 10000) ≡ record_said f h n
    go true e =
        let p = leb-true h 9999 (left _ _ (left _ _ e)) in
        let q = leb-true n 9999 (right _ _ e) in
        let a : min h 10000 ≡ h = omega arith in
        let b : min n 10000 ≡ n = omega arith in
        ap₂ (record_said f) a b
    go false e = rw (min_range h n, e)

-- a counter that is none
pub over_half : (raw : Raw) (h n : ℕ) → 10000 < h → answer_of raw h n ≡ Err (Base Text)
over_half raw h n l = rw (lt-ltb 10000 h l)

-- the answer, from what the parts gave
module _ (ed : Edition) (t a m b : List ℕ) (cut : t ≡ (a ++ (32 ∷ m)) ++ (32 ∷ b)) (fm : Free m) (fb : Free b) (raw : Raw) (x y : ℕ) (r : Result Record Why)
    (four : Answers ed a raw) (res : r ≡ answer_of raw x y) where
  abbrev pawned : Position
  pawned = with_state raw.position (pawn_state raw.position.passant)

  known_in : (h n : ℕ) → decimal_of h ≡ m → decimal_of n ≡ b → FourSays ed raw.position a → (v : Bool) → is_known (pawn_state raw.position.passant) ≡ v
      → r ≡ cond v (record_said pawned (min h 10000) (min n 10000)) (Err (Base Text)) → Reads ed t r
  known_in h n d e s true q w =
      let k = pawn_known raw.position.passant q in
      let z : passed_fields pawned ≡ raw.position = ap (with_state raw.position) k.1 in
      says_so ed t r pawned h n (parts_said ed t a m b cut pawned h n k.0 (subst (λ (g : Position). FourSays ed g a) (sym z) s) d e) (w ∙ min_said pawned h n)
  known_in h n d e s false q w =
      says_nothing ed t r (λ f k l u.
      let p = said_parts ed t a m b cut fm fb f k l u in
      let z = says_one ed a (passed_fields f) raw.position (four_said ed f k l t a u p.0) s in
      let o : pawn_state raw.position.passant ≡ f.passant = sym (ap (λ (g : Position). pawn_state g.passant) z) ∙ pawn_back f.passant u.state in
      never_unknown f.passant u.state (ap is_known (sym o) ∙ q)) w

  formed : (h n : ℕ) → decimal_of h ≡ m → decimal_of n ≡ b → (v : Form) → AnswersBy ed a raw.position v → r ≡ answer_by v raw.position (min h 10000) (min n 10000) → Reads ed t r
  formed h n d e InForm s w = known_in h n d e s (is_known (pawn_state raw.position.passant)) refl w
  formed h n d e OutOfForm s w = says_nothing ed t r (λ f k l u. s.1 (passed_fields f) (four_said ed f k l t a u (said_parts ed t a m b cut fm fb f k l u).0)) w

  answers : Counted m x → Counted b y → Reads ed t r
  answers (uncounted f h) c = says_nothing ed t r (λ g k l u. f k (said_parts ed t a m b cut fm fb g k l u).1) (res ∙ rw (lt-ltb 10000 x h))
  answers (counted h d i) (uncounted f k) =
      says_nothing ed t r (λ g j l u. f l (said_parts ed t a m b cut fm fb g j l u).2) (res ∙ rw (le-ltb 10000 x (omega (arith, i)), lt-ltb 10000 y k))
  answers (counted h d i) (counted n e j) =
      formed h n d e raw.form four
      (res ∙ (rw (le-ltb 10000 x (omega (arith, i)), le-ltb 10000 y (omega (arith, j)))) ∙ ap₂ (answer_by raw.form raw.position) i j)

-- j and i are the places behind the last space and the one before it
module _ (ed : Edition) (t : List ℕ) (j : ℕ) (c : Cut t (length t) j) (r : Result Record Why) where
  pub no_space : j ≡ 0 → r ≡ Err (Base Text) → Reads ed t r
  no_space e w =
      let f : Free t = subst Free (take-length t) (free_whole t (length t) j (omega arith) c e) in
      says_nothing ed t r (λ g h n s. not_free (printed (passed_fields g)) (decimal_of h ++ (32 ∷ decimal_of n)) (subst Free (sym s.text) f)) w

  last_field : 0 < j → t ≡ take (j - 1) t ++ (32 ∷ take (length t - j) (drop j t))
  last_field h = sym (take-length t) ∙ cut_part t (length t) j (omega arith) c h

  module _ (i : ℕ) (z : 0 < j) (d : Cut t (j - 1) i) where
    pub one_space : i ≡ 0 → r ≡ Err (Base Text) → Reads ed t r
    one_space e w =
        let k : j - 1 ≤ length t = omega (arith, c.inside) in
        let f : Free (take (j - 1) t) = free_whole t (j - 1) i k d e in
        says_nothing ed t r (λ g h n s.
        let q = cut_one (printed (passed_fields g) ++ (32 ∷ decimal_of h)) (decimal_of n) (take (j - 1) t) (take (length t - j) (drop j t)) (free_decimal n) (free_part t (length t) j (omega arith) c)
        (append_assoc (printed (passed_fields g)) (32 ∷ decimal_of h) (32 ∷ decimal_of n) ∙ s.text ∙ last_field z) in
        not_free (printed (passed_fields g)) (decimal_of h) (subst Free (sym q.0) f)) w

    pub six_fields : 0 < i → (raw : Raw) (x y : ℕ) → Answers ed (take (i - 1) t) raw → Counted (take (j - 1 - i) (drop i t)) x → Counted (take (length t - j) (drop j t)) y
        → r ≡ answer_of raw x y → Reads ed t r
    six_fields h raw x y a p q w =
        let k : j - 1 ≤ length t = omega (arith, c.inside) in
        answers ed t (take (i - 1) t) (take (j - 1 - i) (drop i t)) (take (length t - j) (drop j t))
        (last_field z ∙ ap (λ (l : List ℕ). l ++ (32 ∷ take (length t - j) (drop j t))) (cut_part t (j - 1) i k d h))
        (free_part t (j - 1) i k d) (free_part t (length t) j (omega arith) c) raw x y r a w p q
