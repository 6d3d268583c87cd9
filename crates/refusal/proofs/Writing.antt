-- What is said of a lent slice: by what is said one knows what it holds, and any two answers agree.
use mathlib.Core.Path.{◌≡◌, refl, sym, ap, ◌∙◌, subst}
use mathlib.Core.Bool.{Bool, true, false, cond}
use mathlib.Core.List.{List, [], ◌∷◌, ◌++◌}
use Prim.Native.Nat.{ℕ, ◌≤◌, ◌<◌}
use native.Mathlib.Omega.{arith}
use lib.Dec.{eqb, leb}
use lib.ListN.{length, drop}
use borrow.Author.Tests.{eqb-true, leb-true, leb-false, le-leb, lt-leb}
use Rattle.refusal.specs.declared.Refusal.{Refusal}
use Rattle.refusal.specs.declared.Refusal.TheVariants.{Room as room}
use Rattle.refusal.specs.Refusals.{number_of}
use Rattle.refusal.specs.Said.{Test, first_failing, Said, says, number_said, told, refusal, fitting, behind, Writes}
use Rattle.refusal.proofs.Saying.{some_number, behind_by}
use Rattle.std.specs.Prelude.{Err}

values_said : Said → List ℕ
values_said (says n vs) = vs

-- some values are not none
pub no_value : {A : Type 0} {m n k : ℕ} {vs : List ℕ} → ◌≡◌ {A = Said} (says m (n ∷ vs)) (says k []) → A
unfolding values_said
no_value e = absurd (omega (arith, ap (λ (x : Said). length (values_said x)) e))

-- 13 is not 0
pub no_room : {A : Type 0} {m n : ℕ} → ◌≡◌ {A = Said} (told (m ∷ [])) (says (number_of room) (n ∷ [])) → A
no_room e = absurd (omega (arith, ap number_said e))

-- 1 is not 0, where they answer a question
pub no_both : {A : Type 0} → ◌≡◌ {A = Said} (told (1 ∷ [])) (told (0 ∷ [])) → A
no_both e = absurd (omega (arith, (let w : ◌≡◌ {A = ℕ} 1 0 = cc in w)))

-- where the length is told: it has no room, or it was written
module _ {t o : List ℕ} (n : ℕ) (e : n ≡ length t) where
  pub writes_roomless : length o < n → Writes [] t o (says (number_of room) (n ∷ [])) o
  unfolding behind first_failing
  writes_roomless h = record { answer = rw (← e, lt-leb n (length o) h); holds = refl }

  pub writes_whole : {after : List ℕ} → n ≤ length o → after ≡ t ++ drop (length t) o → Writes [] t o (told (n ∷ [])) after
  unfolding behind first_failing
  writes_whole h k = record { answer = rw (← e, le-leb n (length o) h); holds = k }

module _ {ts : List Test} {t o : List ℕ} where
  -- the tests count by the first that fails
  pub writes_same : {x : Said} {after : List ℕ} (us : List Test) → first_failing ts ≡ first_failing us → Writes ts t o x after → Writes us t o x after
  unfolding behind
  writes_same us h k = record { answer = rw h at k.answer; holds = k.holds }

  pub writes_refused : (why : Refusal) → number_of why ≡ first_failing ts → Writes ts t o (refusal why) o
  writes_refused why h = record { answer = behind_by (Err why) ts (fitting (length t) (length o)) h; holds = rw (some_number why) }

  -- what is to be written counts only where the tests all pass
  pub writes_any : {x : Said} {after : List ℕ} (u : List ℕ) → (first_failing ts ≡ 0 → t ≡ u) → Writes ts t o x after → Writes ts u o x after
  unfolding behind
  writes_any {x} {after} u f w = go (eqb (first_failing ts) 0) refl
    where
      go : (b : Bool) → eqb (first_failing ts) 0 ≡ b → Writes ts u o x after
      go true e = subst (λ (q : List ℕ). Writes ts q o x after) (f (eqb-true (first_failing ts) 0 e)) w
      go false e = let d : x ≡ says (first_failing ts) [] = w.answer ∙ rw e in record { answer = d ∙ rw e; holds = w.holds ∙ rw (d, e) }

-- behind tests that all pass
pub writes_behind : {ts : List Test} {t o after : List ℕ} {x : Said} → first_failing ts ≡ 0 → Writes [] t o x after → Writes ts t o x after
unfolding first_failing
writes_behind {ts} h k = writes_same ts (sym h) k

pub writes_passed : {ts : List Test} {t o after : List ℕ} {x : Said} → first_failing ts ≡ 0 → Writes ts t o x after → Writes [] t o x after
unfolding first_failing
writes_passed h k = writes_same [] h k

-- any two answers, and any two contents of the slice, agree
pub writes_one : {ts : List Test} {t o p q : List ℕ} {x y : Said} → Writes ts t o x p → Writes ts t o y q → (x ≡ y) × (p ≡ q)
writes_one {t = t} {o = o} w v =
    let e = w.answer ∙ sym v.answer in
    (e, w.holds ∙ ap (λ (z : Said). cond (eqb (number_said z) 0) (t ++ drop (length t) o) o) e ∙ sym v.holds)

-- what is known where the length n is told, where 13 is said of it, and where another refusal is said
pub record Written (ts : List Test) (t o : List ℕ) (n : ℕ) (after : List ℕ) : Type 0 where
  pub passed : first_failing ts ≡ 0
  pub size : n ≡ length t
  pub fits : length t ≤ length o
  pub holds : after ≡ t ++ drop (length t) o

pub record Roomless (ts : List Test) (t o : List ℕ) (n : ℕ) (after : List ℕ) : Type 0 where
  pub passed : first_failing ts ≡ 0
  pub size : n ≡ length t
  pub short : length o < length t
  pub holds : after ≡ o

pub record Failed (ts : List Test) (o : List ℕ) (why : Refusal) (after : List ℕ) : Type 0 where
  pub number : number_of why ≡ first_failing ts
  pub holds : after ≡ o

module _ {ts : List Test} {t o after : List ℕ} {x : Said} (w : Writes ts t o x after) where
  -- what is said, by the tests and the room
  abbrev said_of : Bool → Bool → Said
  said_of a u = cond a (cond u (told (length t ∷ [])) (says (number_of room) (length t ∷ []))) (says (first_failing ts) [])

  held : (y : Said) → x ≡ y → after ≡ cond (eqb (number_said y) 0) (t ++ drop (length t) o) o
  held y e = w.holds ∙ ap (λ (z : Said). cond (eqb (number_said z) 0) (t ++ drop (length t) o) o) e

  pub tells_count : (n : ℕ) → x ≡ told (n ∷ []) → Written ts t o n after
  unfolding behind
  tells_count n e = go (eqb (first_failing ts) 0) (leb (length t) (length o)) refl refl (sym e ∙ w.answer)
    where
      go : (a u : Bool) → eqb (first_failing ts) 0 ≡ a → leb (length t) (length o) ≡ u → told (n ∷ []) ≡ said_of a u → Written ts t o n after
      go true true p q k = record { passed = eqb-true _ _ p; size = cc; fits = leb-true _ _ q; holds = held _ e }
      go true false p q k = no_room k
      go false u p q k = no_value k

  pub tells_room : (n : ℕ) → x ≡ says (number_of room) (n ∷ []) → Roomless ts t o n after
  unfolding behind
  tells_room n e = go (eqb (first_failing ts) 0) (leb (length t) (length o)) refl refl (sym e ∙ w.answer)
    where
      go : (a u : Bool) → eqb (first_failing ts) 0 ≡ a → leb (length t) (length o) ≡ u → says (number_of room) (n ∷ []) ≡ said_of a u → Roomless ts t o n after
      go true true p q k = no_room (sym k)
      go true false p q k = record { passed = eqb-true _ _ p; size = cc; short = leb-false _ _ q; holds = held _ e }
      go false u p q k = no_value k

  pub tells_refused : (why : Refusal) → x ≡ refusal why → Failed ts o why after
  unfolding behind
  tells_refused why e = go (eqb (first_failing ts) 0) (leb (length t) (length o)) (sym e ∙ w.answer)
    where
      go : (a u : Bool) → refusal why ≡ said_of a u → Failed ts o why after
      go true true k = no_value (sym k)
      go true false k = no_value (sym k)
      go false u k = record { number = ap number_said k; holds = held _ e ∙ rw (some_number why) }
