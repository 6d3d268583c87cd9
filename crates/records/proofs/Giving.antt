-- What stands beside a number leaves one answer; and the answer that the code makes has the number that is promised.
use mathlib.Core.Path.{◌≡◌, refl, sym, ◌∙◌, ap, subst}
use mathlib.Core.Bool.{Bool, true, false, cond}
use Prim.Native.Nat.{ℕ, ◌≤◌}
use native.Mathlib.Omega.{arith}
use lib.Dec.{eqb}
use borrow.Author.Tests.{eqb-false}
use Rattle.laws.specs.declared.Position.{Position}
use Rattle.refusal.specs.declared.Refusal.TheVariants.{Text as text}
use Rattle.refusal.specs.Refusals.{verdict_number, Verdict}
use Rattle.refusal.specs.Said.{first_failing}
use Rattle.refusal.proofs.Saying.{some_number, number_low, number_one}
use Rattle.accept.specs.Verdicts.{judged_of, raw_tests}
use Rattle.accept.proofs.Numbered.{judged_number}
use Rattle.board.specs.declared.RetractableBoard.{RetractableBoard}
use Rattle.board.specs.Gate.{kept_by}
use Rattle.board.specs.Answers.{worked_of}
use Rattle.board.specs.inner.Gates.{new_of}
use Rattle.record_fields.specs.Counters.{in_range}
use Rattle.record_fields.specs.Passed.{is_known}
use Rattle.records.specs.declared.Why.{Why}
use Rattle.records.specs.declared.Why.TheVariants.{Base, Counter, Unknown}
use Rattle.records.specs.declared.Record.{Record}
use Rattle.records.specs.Entries.{why_number, taken, number_for, Gives}
use Rattle.records.specs.inner.Answering.{recorded_by, record_said, known_said}
use Rattle.std.specs.Prelude.{Result, Ok, Err, IsErrAnd, MatchResult, ⊤}

pub verdict_low : (v : Verdict) → verdict_number v ≤ 14
verdict_low (Ok _) = omega arith
verdict_low (Err r) = number_low r

-- a number tells its refusal, and none is 0
pub why_one : (w v : Why) → why_number w ≡ why_number v → w ≡ v
why_one (Base r) (Base q) h = ap Base (number_one r q h)
why_one (Base r) Counter h = absurd (omega (arith, number_low r))
why_one (Base r) Unknown h = absurd (omega (arith, number_low r))
why_one Counter (Base q) h = absurd (omega (arith, number_low q))
why_one Counter Counter h = refl
why_one Counter Unknown h = absurd (omega arith)
why_one Unknown (Base q) h = absurd (omega (arith, number_low q))
why_one Unknown Counter h = absurd (omega arith)
why_one Unknown Unknown h = refl

pub some_why : (w : Why) → eqb (why_number w) 0 ≡ false
some_why (Base r) = some_number r
some_why Counter = refl
some_why Unknown = refl

pub no_why : (w : Why) → why_number w ≡ 0 → ⊥
no_why w h = eqb-false (why_number w) 0 (some_why w) h

-- any two answers agree
pub gives_one : {x h n : ℕ} {b : RetractableBoard} (r q : Result Record Why) → Gives x b h n r → Gives x b h n q → r ≡ q
gives_one (Ok r) (Ok q) k l = k.given (sym k.number) ∙ sym (l.given (sym l.number))
gives_one (Ok r) (Err v) k l = absurd (no_why v (l.number ∙ sym k.number))
gives_one (Err w) (Ok q) k l = absurd (no_why w (k.number ∙ sym l.number))
gives_one (Err w) (Err v) k l = ap Err (why_one w v (k.number ∙ sym l.number))

-- a refusal
gives_refused : {x : ℕ} (w : Why) (b : RetractableBoard) (h n : ℕ) → why_number w ≡ x → Gives x b h n (Err w)
gives_refused w b h n e = record { number = e; given = λ z. absurd (no_why w (e ∙ z)) }

-- by the verdict on the position
gives_by : (x : ℕ) (v : Verdict) (b : RetractableBoard) (h n : ℕ) → verdict_number v ≡ x → Gives x b h n (recorded_by v (kept_by v b) h n)
gives_by x (Ok _) b h n e = record { number = e; given = λ _. refl }
gives_by x (Err r) b h n e = gives_refused (Base r) b h n e

-- 15, then 1 to 6
pub gives_said : (f : Position) (h n : ℕ) → Gives (number_for f h n) (worked_of f) h n (record_said f h n)
gives_said f h n = go (in_range h n)
  where
    go : (t : Bool) → Gives (cond t (first_failing (raw_tests f)) (why_number Counter)) (worked_of f) h n (cond t (recorded_by (judged_of f) (kept_by (judged_of f) (worked_of f)) h n) (Err Counter))
    go true = gives_by (first_failing (raw_tests f)) (judged_of f) (worked_of f) h n (judged_number f)
    go false = gives_refused Counter (worked_of f) h n refl

pub said_is : (f : Position) (h n : ℕ) (r : Result Record Why) → Gives (number_for f h n) (worked_of f) h n r → r ≡ record_said f h n
said_is f h n r g = gives_one r (record_said f h n) g (gives_said f h n)

-- the verdict on the position, its refusals as those of a record
abbrev OfBase : Verdict → Result ⊤ Why → Type 0
OfBase v m = MatchResult v (λ z. m ≡ Ok z) (λ r. IsErrAnd m (λ w. w ≡ Base r))

pub let_by : (v : Verdict) (b : RetractableBoard) (h n : ℕ) {m : Result ⊤ Why} {z : ⊤} → OfBase v m → m ≡ Ok z → taken b h n ≡ recorded_by v b h n
let_by (Ok _) b h n x e = refl
let_by (Err r) b h n x e = absurd (subst (λ q. IsErrAnd q (λ w. w ≡ Base r)) e x)

pub handed_by : (v : Verdict) (b : RetractableBoard) (h n : ℕ) {m : Result ⊤ Why} {w : Why} → OfBase v m → m ≡ Err w → (r : Result Record Why) → IsErrAnd r (λ u. u ≡ w)
    → r ≡ recorded_by v b h n
handed_by (Ok z) b h n x e r k = absurd (subst (λ (q : Result ⊤ Why). IsErrAnd q (λ _. ⊤)) (sym e ∙ x) tt)
handed_by (Err why) b h n x e (Ok a) k = absurd k
handed_by (Err why) b h n x e (Err u) k = ap Err (k ∙ subst (λ q. IsErrAnd q (λ w. w ≡ Base why)) e x)

-- what the code answers, by its tests
module _ (f : Position) (h n : ℕ) where
  pub out_of_range : in_range h n ≡ false → Err Counter ≡ record_said f h n
  out_of_range e = rw e

  pub within_range : in_range h n ≡ true → recorded_by (new_of f).verdict (new_of f).board h n ≡ record_said f h n
  within_range e = rw e

  pub not_known : is_known f.passant ≡ false → Err (Base text) ≡ known_said f h n
  not_known e = rw e

  pub is_known_lem : is_known f.passant ≡ true → record_said f h n ≡ known_said f h n
  is_known_lem e = rw e
