-- What is told by the strict test is told by pasts; the answer of the entry; and that there is one answer.
use mathlib.Core.Path.{◌≡◌, refl, sym, ap, ◌∙◌, subst}
use mathlib.Core.Logic.{inl, inr}
use mathlib.Core.List.{List}
use Prim.Native.Nat.{ℕ}
use native.Mathlib.Omega.{arith}
use lib.ListN.{length}
use Rattle.laws.specs.declared.ChessRetraction.{ChessRetraction}
use Rattle.laws.specs.declared.Edition.{Edition}
use Rattle.laws.specs.declared.Position.{Position}
use Rattle.laws.specs.Boards.{pos_at}
use Rattle.laws.specs.StrictLists.{place}
use Rattle.refusal.specs.declared.Refusal.{Refusal}
use Rattle.board.specs.declared.Boarded.{Boarded}
use Rattle.board.specs.Gate.{position_on, pos_on}
use Rattle.text.specs.Entries.{Reads}
use Rattle.strict_test.specs.inner.Strictly.{strict_for}
use Rattle.strict.specs.Demand.{Past}
use Rattle.solution_lines.specs.declared.Unformed.TheVariants.{Line as formLine, Many as formMany}
use Rattle.solution_lines.specs.Lines.{lines_of, TellsForm}
use Rattle.solution.specs.declared.Why.{Why}
use Rattle.solution.specs.declared.Why.TheVariants.{Position as positionRefused, Line, Many}
use Rattle.solution.specs.declared.Checked.{Checked}
use Rattle.solution.specs.declared.Checked.TheVariants.{Complete, Wrong, Incomplete}
use Rattle.solution.specs.Verdicts.{IsWrong, FirstMissing, Tells, TellsOf, Checks}
use Rattle.solution.specs.inner.Judged.{StrictAt}
use Rattle.text.proofs.RoundTrip.{read_one, read_accepted}
use Rattle.strict.proofs.Told.{strict_past}
use Rattle.strict.proofs.Onward.{one_place}
use Rattle.solution_lines.proofs.Walking.{first_one, first_none, none_too, first_too}
use Rattle.solution_lines.proofs.Forms.{one_form}
use Rattle.refusal.specs.Refusals.{Verdict, nothing_refused}
use Rattle.std.specs.Prelude.{Result, Ok, Err, IsErrAnd, MatchResult, ⊤}

-- the same list told in two ways
module _ (S T : ChessRetraction → Type 0) (to : (r : ChessRetraction) → S r → T r) (back : (r : ChessRetraction) → T r → S r) (ls : List (List ℕ)) where
  wrong_too : (i : ℕ) → IsWrong S ls i → IsWrong T ls i
  wrong_too i (inl f) = inl (λ r z t. f r z (back r t))
  wrong_too i (inr z) = inr z

  wrong_back : (i : ℕ) → IsWrong T ls i → IsWrong S ls i
  wrong_back i (inl f) = inl (λ r z s. f r z (to r s))
  wrong_back i (inr z) = inr z

  pub tells_too : (a : Result Checked Why) → Tells S ls a → Tells T ls a
  tells_too (Ok Complete) x = (x.0, none_too (λ i l. wrong_back i) x.1, λ r t. x.2 r (back r t))
  tells_too (Ok (Wrong k)) x = (x.0, first_too (λ i l. wrong_too i) (λ i l. wrong_back i) x.1)
  tells_too (Ok (Incomplete q)) x = (
    x.0,
    none_too (λ i l. wrong_back i) x.1,
    record { strict = to q x.2.strict; missing = x.2.missing; first = λ r t u. x.2.first r (back r t) u },
  )
  tells_too (Err (Line k)) x = x
  tells_too (Err Many) x = x
  tells_too (Err (positionRefused why)) x = absurd x

-- what refuses the position refuses the solution, and otherwise nothing is refused
abbrev OfPosition : Verdict → Result ⊤ Why → Type 0
OfPosition v m = MatchResult v (λ z. m ≡ Ok z) (λ r. IsErrAnd m (λ w. w ≡ positionRefused r))

pub position_let : (v : Verdict) {m : Result ⊤ Why} {z : ⊤} → OfPosition v m → m ≡ Ok z → v ≡ nothing_refused
position_let (Ok _) x q = refl
position_let (Err r) x q = absurd (subst (λ o. IsErrAnd o (λ w. w ≡ positionRefused r)) q x)

-- the answers of the entry
module _ (e : Edition) (t s : List ℕ) (b : Boarded) (x : Reads e t b) where
  checks_refused : (why : Refusal) → b.verdict ≡ Err why → Checks e t s (Err (positionRefused why))
  checks_refused why h =
      record { read = b; reads = x; told = subst (λ (v : Verdict). TellsOf v b.board (lines_of s) (Err (positionRefused why))) (sym h) refl }

  pub checks_handed : (v : Verdict) {m : Result ⊤ Why} {w : Why} → b.verdict ≡ v → OfPosition v m → m ≡ Err w → (r : Result Checked Why) → IsErrAnd r (λ u. u ≡ w) → Checks e t s r
  checks_handed (Ok z) h g q r k = absurd (subst (λ (o : Result ⊤ Why). IsErrAnd o (λ _. ⊤)) (sym q ∙ g) tt)
  checks_handed (Err why) h g q (Ok a) k = absurd k
  checks_handed (Err why) h g q (Err w) k =
      subst (λ (u : Why). Checks e t s (Err u)) (sym (subst (λ o. IsErrAnd o (λ u. u ≡ positionRefused why)) q g) ∙ sym k) (checks_refused why h)

  pub checks_told : (a : Result Checked Why) (p : Position) → b.verdict ≡ nothing_refused → p ≡ position_on b.board → Tells (StrictAt (pos_at p)) (lines_of s) a → Checks e t s a
  unfolding strict_for
  checks_told a p h k z =
      let past = strict_past b.board (read_accepted e t b x h).0 in
      let y : Tells (StrictAt (pos_on b.board)) (lines_of s) a = subst (λ (i : Position). Tells (StrictAt (pos_at i)) (lines_of s) a) k z in
      record {
        read = b;
        reads = x;
        told = subst (λ (v : Verdict). TellsOf v b.board (lines_of s) a) (sym h)
            (tells_too (StrictAt (pos_on b.board)) (Past b.board) (λ r. (past r).0) (λ r. (past r).1) (lines_of s) a y);
      }

-- there is one answer about a list that has one retraction at a place
module _ (S : ChessRetraction → Type 0) (one : (x y : ChessRetraction) → S x → S y → place x ≡ place y → x ≡ y) (ls : List (List ℕ)) where
  one_missing : (q r : ChessRetraction) → FirstMissing S ls q → FirstMissing S ls r → q ≡ r
  one_missing q r x y = one q r x.strict y.strict (omega (arith, x.first r y.strict y.missing, y.first q x.strict x.missing))

  -- lines that are all in form are not refused
  not_both : (w : Why) → TellsForm ls (Ok tt) → Tells S ls (Err w) → ⊥
  not_both (Line k) x y = let e = one_form ls (Ok tt) (Err (formLine k)) x y in omega (arith, (let w : ◌≡◌ {A = ℕ} 0 1 = cc in w))
  not_both Many x y = let e = one_form ls (Ok tt) (Err formMany) x y in omega (arith, (let w : ◌≡◌ {A = ℕ} 0 1 = cc in w))
  not_both (positionRefused why) x y = y

  one_why : (v w : Why) → Tells S ls (Err v) → Tells S ls (Err w) → v ≡ w
  one_why (Line k) (Line j) x y = let e = one_form ls (Err (formLine k)) (Err (formLine j)) x y in let i : k ≡ j = cc in ap Line i
  one_why (Line k) Many x y = let e = one_form ls (Err (formLine k)) (Err formMany) x y in absurd (omega (arith, (let w : ◌≡◌ {A = ℕ} 0 1 = cc in w)))
  one_why (Line k) (positionRefused why) x y = absurd y
  one_why Many (Line k) x y = let e = one_form ls (Err formMany) (Err (formLine k)) x y in absurd (omega (arith, (let w : ◌≡◌ {A = ℕ} 0 1 = cc in w)))
  one_why Many Many x y = refl
  one_why Many (positionRefused why) x y = absurd y
  one_why (positionRefused why) w x y = absurd x

  pub one_told : (a b : Result Checked Why) → Tells S ls a → Tells S ls b → a ≡ b
  one_told (Ok Complete) (Ok Complete) x y = refl
  one_told (Ok Complete) (Ok (Wrong k)) x y = absurd (first_none y.1 x.1)
  one_told (Ok Complete) (Ok (Incomplete q)) x y = absurd (y.2.missing (x.2 q y.2.strict))
  one_told (Ok Complete) (Err w) x y = absurd (not_both w x.0 y)
  one_told (Ok (Wrong k)) (Ok Complete) x y = absurd (first_none x.1 y.1)
  one_told (Ok (Wrong k)) (Ok (Wrong j)) x y = ap (λ (i : ℕ). Ok (Wrong i)) (first_one (length ls) (IsWrong S ls) k j x.1 y.1)
  one_told (Ok (Wrong k)) (Ok (Incomplete q)) x y = absurd (first_none x.1 y.1)
  one_told (Ok (Wrong k)) (Err w) x y = absurd (not_both w x.0 y)
  one_told (Ok (Incomplete q)) (Ok Complete) x y = absurd (x.2.missing (y.2 q x.2.strict))
  one_told (Ok (Incomplete q)) (Ok (Wrong k)) x y = absurd (first_none y.1 x.1)
  one_told (Ok (Incomplete q)) (Ok (Incomplete r)) x y = ap (λ (i : ChessRetraction). Ok (Incomplete i)) (one_missing q r x.2 y.2)
  one_told (Ok (Incomplete q)) (Err w) x y = absurd (not_both w x.0 y)
  one_told (Err v) (Ok Complete) x y = absurd (not_both v y.0 x)
  one_told (Err v) (Ok (Wrong k)) x y = absurd (not_both v y.0 x)
  one_told (Err v) (Ok (Incomplete q)) x y = absurd (not_both v y.0 x)
  one_told (Err v) (Err w) x y = ap Err (one_why v w x y)

-- any two answers agree
pub one_answer : (e : Edition) (t s : List ℕ) (a b : Result Checked Why) → Checks e t s a → Checks e t s b → a ≡ b
one_answer e t s a b x y =
    by x.read x.reads x.read.verdict refl x.told
    (subst (λ (z : Boarded). TellsOf z.verdict z.board (lines_of s) b) (read_one e t y.read x.read y.reads x.reads) y.told)
  where
    by : (r : Boarded) → Reads e t r → (v : Verdict) → r.verdict ≡ v → TellsOf v r.board (lines_of s) a → TellsOf v r.board (lines_of s) b → a ≡ b
    by r z (Ok _) h p q = one_told (Past r.board) (one_place r.board (read_accepted e t r z h).0) (lines_of s) a b p q
    by r z (Err why) h p q = p ∙ sym q
