-- Where a desk stands in the slice is what its call meets in the table.
use mathlib.Core.Path.{◌≡◌, refl, sym, ap, subst, ◌∙◌}
use mathlib.Core.Bool.{Bool, true, false, cond}
use mathlib.Core.List.{List}
use Prim.Native.Nat.{ℕ, zero, suc, ◌+◌, ◌≤◌}
use native.Mathlib.Omega.{arith}
use lib.Dec.{eqb, ltb}
use lib.ListN.{length}
use Rattle.std.specs.Prelude.{Result, Ok, Err}
use borrow.Author.Tests.{lt-ltb, ltb-false}
use Rattle.refusal.specs.Refusals.{verdict_number, Verdict}
use Rattle.refusal.specs.Said.{first_failing}
use Rattle.desks.specs.declared.Why.{Why}
use Rattle.desks.specs.declared.Why.TheVariants.{Board, Desk, Quota, Absent}
use Rattle.desks.specs.Desks.{why_number, Ask, Answer, refuses, Met, none, places, Found, unfit, table, met_at, answer_met, answer_in, tests_first, answer_of}
use Rattle.desks.specs.Layout.{base, quota_at, fits, places_from, table_of}
use Rattle.desks.specs.Calls.{first_of, left_by, Answers}
use Rattle.desks.specs.inner.Within.{AnswersAt, stand_of, stand_behind}
use Rattle.refusal.proofs.Saying.{some_number}
use Rattle.desks.proofs.Room.{fit_room}

-- no number of refusal is 0
pub some_why : (w : Why) → eqb (why_number w) 0 ≡ false
some_why (Board r) = some_number r
some_why Desk = refl
some_why Quota = refl
some_why Absent = refl

-- what a desk meets that stands there
abbrev pub met_by : Result (ℕ × ℕ) Why → List ℕ → Met
met_by (Err w) s = none w
met_by (Ok st) s = places (places_from s st.0 st.1)

pub neither_met : (t : Found) (d : ℕ) → met_at t (suc (suc d)) ≡ none Desk
neither_met unfit d = refl
neither_met (table p q) d = refl

module _ (s : List ℕ) where
  abbrev there : ℕ → Result (ℕ × ℕ) Why
  there d = Ok (first_of s d, quota_at s d)

  fit_met : (d : ℕ) (y : Bool) → ltb 1 d ≡ false
      → met_at (cond y (table (places_from s 0 (quota_at s 0)) (places_from s (quota_at s 0) (quota_at s 1))) unfit) d ≡ met_by (cond y (there d) (Err Quota)) s
  fit_met zero true h = refl
  fit_met zero false h = refl
  fit_met (suc zero) true h = refl
  fit_met (suc zero) false h = refl
  fit_met (suc (suc d)) y h = absurd (omega (arith, ltb-false 1 (suc (suc d)) h))

  neither_stand : (d : ℕ) → stand_of s (suc (suc d)) ≡ Err Desk
  unfolding stand_of
  neither_stand d = rw (lt-ltb 1 (suc (suc d)) (omega arith))

  pub stand_met : (d : ℕ) → met_at (table_of s) d ≡ met_by (stand_of s d) s
  unfolding table_of stand_of
  stand_met zero = fit_met zero (fits s) refl
  stand_met (suc zero) = fit_met (suc zero) (fits s) refl
  stand_met (suc (suc d)) = neither_met (table_of s) d ∙ sym (ap (λ (st : Result (ℕ × ℕ) Why). met_by st s) (neither_stand d))

  module _ (d p n : ℕ) where
    by_desk : (e : ℕ) → ltb 1 e ≡ false → fits s ≡ true → base (first_of s e + quota_at s e) ≤ length s
    by_desk zero h f = omega (arith, (fit_room s f).1)
    by_desk (suc zero) h f = (fit_room s f).1
    by_desk (suc (suc e)) h f = absurd (omega (arith, ltb-false 1 (suc (suc e)) h))

    by_fit : (y : Bool) → fits s ≡ y → ltb 1 d ≡ false → cond y (there d) (Err Quota) ≡ Ok (p, n) → (base (p + n) ≤ length s) × (p ≡ first_of s d)
    by_fit true f h e =
        let pair : ◌≡◌ {A = ℕ × ℕ} (first_of s d, quota_at s d) (p, n) = cc in
        let a : first_of s d ≡ p = ap (λ (x : ℕ × ℕ). x.0) pair in
        let b : quota_at s d ≡ n = ap (λ (x : ℕ × ℕ). x.1) pair in
        (rw (← a, ← b) (by_desk d h f), sym a)
    by_fit false f h e = let z : ◌≡◌ {A = ℕ} 0 1 = cc in absurd (omega arith)

    by_number : (y : Bool) → ltb 1 d ≡ y → cond y (Err Desk) (cond (fits s) (there d) (Err Quota)) ≡ Ok (p, n) → (base (p + n) ≤ length s) × (p ≡ first_of s d)
    by_number true h e = let z : ◌≡◌ {A = ℕ} 0 1 = cc in absurd (omega arith)
    by_number false h e = by_fit (fits s) refl h e

    -- a desk's places lie in the slice, and start where they should
    pub stand_room : stand_of s d ≡ Ok (p, n) → (base (p + n) ≤ length s) × (p ≡ first_of s d)
    unfolding stand_of
    stand_room e = by_number (ltb 1 d) refl e

-- a call by where its desk stands, v being what 1 to 7 say of a board that is put
module _ (s : List ℕ) (d : ℕ) (a : Ask) (v : Verdict) (h : verdict_number v ≡ first_failing (tests_first a)) where
  abbrev answer_by : Result (ℕ × ℕ) Why → Answer
  answer_by (Err w) = refuses w
  answer_by (Ok st) = answer_in (places_from s st.0 st.1) a

  by_stand : (st : Result (ℕ × ℕ) Why) → answer_met (met_by st s) a ≡ answer_by st
  by_stand (Err w) = refl
  by_stand (Ok st) = refl

  by_verdict : (w : Verdict) → verdict_number w ≡ first_failing (tests_first a) → answer_of (table_of s) d a ≡ answer_by (stand_behind w s d)
  unfolding answer_of
  by_verdict (Ok _) e = rw (← e, stand_met s d) (by_stand (stand_of s d))
  by_verdict (Err r) e = rw (← e, some_number r)

  pub refused : (w : Why) → stand_behind v s d ≡ Err w → Answers s d a (refuses w) s
  refused w e = record { answer = sym (by_verdict v h ∙ ap answer_by e); holds = rw (some_why w) }

  at_first : (w : Verdict) (p n : ℕ) → stand_behind w s d ≡ Ok (p, n) → (base (p + n) ≤ length s) × (p ≡ first_of s d)
  at_first (Ok _) p n e = stand_room s d p n e
  at_first (Err r) p n e = let z : ◌≡◌ {A = ℕ} 0 1 = cc in absurd (omega arith)

  pub has_places : (p n : ℕ) → stand_behind v s d ≡ Ok (p, n) → base (p + n) ≤ length s
  has_places p n e = (at_first v p n e).0

  pub answered : (p n : ℕ) {r : Answer} {after : List ℕ} → stand_behind v s d ≡ Ok (p, n) → AnswersAt s p n a r after → Answers s d a r after
  answered p n {r} {after} e k = record {
    answer = k.answer ∙ sym (by_verdict v h ∙ ap answer_by e);
    holds = subst (λ (x : ℕ). after ≡ left_by s x a r) (at_first v p n e).1 k.holds;
  }
