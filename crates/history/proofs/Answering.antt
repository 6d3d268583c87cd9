-- What the entry answers, and that any two answers agree.
use mathlib.Core.Path.{◌≡◌, refl, sym, ap, ap₂, ◌∙◌, subst}
use mathlib.Core.Logic.{◌⊎◌, inl, inr}
use mathlib.Core.Bool.{Bool, true, false, cond, false≢true}
use mathlib.Core.List.{List, [], ◌∷◌}
use Prim.Native.Nat.{ℕ, suc, ◌≤◌}
use native.Mathlib.Omega.{arith}
use lib.Dec.{eqb, leb}
use lib.ListN.{length, take}
use borrow.Author.Tests.{le-leb, leb-true, eq-eqb, eqb-true}
use Rattle.squares.specs.Tests.{◌and◌}
use Rattle.laws.specs.declared.ChessRetraction.{ChessRetraction}
use Rattle.laws.specs.StrictLists.{place}
use Rattle.refusal.specs.declared.Refusal.{Refusal}
use Rattle.refusal.specs.Refusals.{verdict_number, Verdict, nothing_refused}
use Rattle.refusal.specs.Said.{first_failing}
use Rattle.board.specs.declared.RetractableBoard.{RetractableBoard}
use Rattle.board.specs.declared.Boarded.{Boarded}
use Rattle.board.specs.Gate.{gate_of, board_tests}
use Rattle.board.specs.Said.{Boards}
use Rattle.history.specs.declared.History.{History}
use Rattle.history.specs.declared.Why.{Why}
use Rattle.history.specs.declared.Why.TheVariants.{Board, Depth}
use Rattle.history.specs.Histories.{NotAfter, FirstHistory, history_of, plies_of, Tells, why_number, number_for, Answers}
use Rattle.squares.proofs.Testing.{both, left, right, cases}
use Rattle.refusal.proofs.Saying.{some_number, number_low, number_one, verdict_one}
use Rattle.refusal.proofs.Tested.{beside_refused}
use Rattle.board.proofs.Passing.{gate_number}
use Rattle.board.proofs.Numbers.{gate_refuses, gate_passes, passed_gate}
use Rattle.std.specs.Prelude.{Err, Some, Option, None, Ok, Result, IsErrAnd, MatchResult, ⊤}

pub some_why : (w : Why) → eqb (why_number w) 0 ≡ false
some_why (Board r) = some_number r
some_why Depth = refl

pub never_zero : (w : Why) → why_number w ≡ 0 → ⊥
never_zero w e = false≢true (sym (some_why w) ∙ eq-eqb (why_number w) 0 e)

-- what `judge` answers is what the gate says
pub judged_gate : (b : RetractableBoard) {r : Boarded} {v : Verdict} → Boards (board_tests b) b r → r.verdict ≡ v → gate_of b ≡ v
judged_gate b {v = v} x e = verdict_one (gate_of b) v (gate_number b ∙ sym x.number ∙ ap verdict_number e)

module _ (b : RetractableBoard) (n : ℕ) where
  -- the number by the depth, on a board that passes 1 to 7
  at_depth : gate_of b ≡ nothing_refused → number_for b n ≡ cond (leb 1 n and leb n 4) 0 19
  at_depth h = rw (gate_passes b (gate_of b) refl h)

  pub passing : gate_of b ≡ nothing_refused → 1 ≤ n → n ≤ 4 → number_for b n ≡ 0
  passing h l m = at_depth h ∙ rw (both (le-leb 1 n l) (le-leb n 4 m))

  -- and back
  pub passed : number_for b n ≡ 0 → (gate_of b ≡ nothing_refused) × (1 ≤ n) × (n ≤ 4)
  passed e = go (eqb (first_failing (board_tests b)) 0) (leb 1 n and leb n 4) refl refl e
    where
      go : (x y : Bool) → eqb (first_failing (board_tests b)) 0 ≡ x → (leb 1 n and leb n 4) ≡ y → cond x (cond y 0 19) (first_failing (board_tests b)) ≡ 0
          → (gate_of b ≡ nothing_refused) × (1 ≤ n) × (n ≤ 4)
      go true true p q z = (passed_gate b (eqb-true _ _ p), leb-true 1 n (left _ _ q), leb-true n 4 (right _ _ q))
      go true false p q z = absurd (omega arith)
      go false y p q z = absurd (false≢true (sym p ∙ eq-eqb (first_failing (board_tests b)) 0 z))

  refused : (w : Why) → why_number w ≡ number_for b n → Answers b n (Err w)
  refused w e = record { number = e; answer = λ z. absurd (never_zero w (e ∙ z)) }

  pub told_refused : (why : Refusal) → gate_of b ≡ Err why → Answers b n (Err (Board why))
  told_refused why h =
      let e = gate_refuses b (gate_of b) refl why h in
      refused (Board why) (e ∙ beside_refused (board_tests b) (cond (leb 1 n and leb n 4) 0 19) (first_failing (board_tests b)) why e)

  pub told_depth : gate_of b ≡ nothing_refused → ((1 ≤ n) × (n ≤ 4) → ⊥) → Answers b n (Err Depth)
  told_depth h f = refused Depth (go (cases (leb 1 n and leb n 4)))
    where
      go : ((leb 1 n and leb n 4) ≡ true) ⊎ ((leb 1 n and leb n 4) ≡ false) → 19 ≡ number_for b n
      go (inl e) = absurd (f (leb-true 1 n (left _ _ e), leb-true n 4 (right _ _ e)))
      go (inr e) = sym (at_depth h ∙ rw e)

  pub told_in : gate_of b ≡ nothing_refused → 1 ≤ n → n ≤ 4 → (t : Option History) → Tells n b t → Answers b n (Ok t)
  told_in h l m (Some g) s = record { number = sym (passing h l m); answer = λ _. s }
  told_in h l m None s = record { number = sym (passing h l m); answer = λ _. s }

-- the gate's verdict, its refusals as those of a board
abbrev OfBoard : Verdict → Result ⊤ Why → Type 0
OfBoard v m = MatchResult v (λ z. m ≡ Ok z) (λ e. IsErrAnd m (λ w. w ≡ Board e))

pub gate_let : (v : Verdict) {m : Result ⊤ Why} {z : ⊤} → OfBoard v m → m ≡ Ok z → v ≡ nothing_refused
gate_let (Ok _) x e = refl
gate_let (Err r) x e = absurd (subst (λ q. IsErrAnd q (λ w. w ≡ Board r)) e x)

pub gate_told : (b : RetractableBoard) (n : ℕ) (v : Verdict) {m : Result ⊤ Why} {w : Why} → v ≡ gate_of b → OfBoard v m → m ≡ Err w → (r : Result (Option History) Why) → IsErrAnd r (λ e. e ≡ w)
    → Answers b n r
gate_told b n (Ok z) g x e r k = absurd (subst (λ (q : Result ⊤ Why). IsErrAnd q (λ _. ⊤)) (sym e ∙ x) tt)
gate_told b n (Err why) g x e (Ok h) k = absurd k
gate_told b n (Err why) g x e (Err w) k = subst (λ (q : Why). Answers b n (Err q)) (sym (subst (λ q. IsErrAnd q (λ a. a ≡ Board why)) e x) ∙ sym k) (told_refused b n why (sym g))

-- two histories, neither after the other, are one
same_history : (l m : List ChessRetraction) → length l ≡ length m → NotAfter l m → NotAfter m l → l ≡ m
same_history [] [] e x y = refl
same_history [] (q ∷ m) e x y = absurd y
same_history (r ∷ l) [] e x y = absurd x
same_history (r ∷ l) (q ∷ m) e x y = go x y (λ u v. same_history l m (shorter e) u v)
  where
    shorter : {i j : ℕ} → suc i ≡ suc j → i ≡ j
    shorter z = omega arith

    go : NotAfter (r ∷ l) (q ∷ m) → NotAfter (q ∷ m) (r ∷ l) → (NotAfter l m → NotAfter m l → l ≡ m) → (r ∷ l) ≡ (q ∷ m)
    go (inl u) (inl v) f = absurd (omega (arith, u, v))
    go (inl u) (inr v) f = absurd (omega (arith, u, ap place v.0))
    go (inr u) (inl v) f = absurd (omega (arith, v, ap place u.0))
    go (inr u) (inr v) f = ap₂ (λ (z : ChessRetraction) (k : List ChessRetraction). z ∷ k) u.0 (f u.1 v.1)

pub one_first : (n : ℕ) (b : RetractableBoard) (l m : List ChessRetraction) → FirstHistory n b l → FirstHistory n b m → l ≡ m
one_first n b l m x y = same_history l m (x.long ∙ sym y.long) (x.least m y.long y.chain) (y.least l x.long x.chain)

-- a history of n plies is the first n places of what is handed out
plies_back : (l : List ChessRetraction) → length l ≤ 4 → take (length l) (plies_of (history_of l)) ≡ l
plies_back [] h = refl
plies_back (a ∷ []) h = refl
plies_back (a ∷ b ∷ []) h = refl
plies_back (a ∷ b ∷ c ∷ []) h = refl
plies_back (a ∷ b ∷ c ∷ d ∷ []) h = refl
plies_back (a ∷ b ∷ c ∷ d ∷ e ∷ l) h = absurd (omega arith)

pub plies_first : (b : RetractableBoard) (n : ℕ) (h : History) → Answers b n (Ok (Some h)) → FirstHistory n b (take n (plies_of h))
plies_first b n h x =
    let t = x.answer (sym x.number) in
    let m : n ≤ 4 = (passed b n (sym x.number)).2 in
    let e : take n (plies_of h) ≡ t.0 =
    ap₂ (λ (k : ℕ) (g : History). take k (plies_of g)) (sym t.1.long) t.2 ∙ plies_back t.0 (omega (arith, t.1.long, m)) in
    subst (FirstHistory n b) (sym e) t.1

-- a number tells its refusal
why_one : (w v : Why) → why_number w ≡ why_number v → w ≡ v
why_one (Board r) (Board q) h = ap Board (number_one r q h)
why_one (Board r) Depth h = absurd (omega (arith, number_low r))
why_one Depth (Board q) h = absurd (omega (arith, number_low q))
why_one Depth Depth h = refl

-- any two answers agree
pub one_answer : (b : RetractableBoard) (n : ℕ) (r s : Result (Option History) Why) → Answers b n r → Answers b n s → r ≡ s
one_answer b n (Ok (Some g)) (Ok (Some h)) x y =
    let u = x.answer (sym x.number) in
    let v = y.answer (sym y.number) in
    ap (λ (k : History). Ok (Some k)) (u.2 ∙ ap history_of (one_first n b u.0 v.0 u.1 v.1) ∙ sym v.2)
one_answer b n (Ok (Some g)) (Ok None) x y = let u = x.answer (sym x.number) in absurd (y.answer (sym y.number) u.0 u.1.long u.1.chain)
one_answer b n (Ok None) (Ok (Some h)) x y = let v = y.answer (sym y.number) in absurd (x.answer (sym x.number) v.0 v.1.long v.1.chain)
one_answer b n (Ok None) (Ok None) x y = refl
one_answer b n (Ok (Some g)) (Err w) x y = absurd (never_zero w (y.number ∙ sym x.number))
one_answer b n (Ok None) (Err w) x y = absurd (never_zero w (y.number ∙ sym x.number))
one_answer b n (Err w) (Ok (Some h)) x y = absurd (never_zero w (x.number ∙ sym y.number))
one_answer b n (Err w) (Ok None) x y = absurd (never_zero w (x.number ∙ sym y.number))
one_answer b n (Err w) (Err v) x y = ap Err (why_one w v (x.number ∙ sym y.number))
