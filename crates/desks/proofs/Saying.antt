-- What a call says leaves one answer.
use mathlib.Core.Path.{◌≡◌, refl, sym, ap, ◌∙◌}
use mathlib.Core.Bool.{cond, false≢true}
use mathlib.Core.List.{List, [], ◌∷◌}
use Prim.Native.Nat.{ℕ, ◌+◌}
use lib.Dec.{eqb}
use lib.ListN.{get_or, set}
use Rattle.std.specs.Prelude.{Result, Ok, Err}
use Rattle.refusal.specs.declared.Refusal.TheVariants.{Men as men, Kings as kings, Pawn as pawn, Rights as rights, Passant as passant, Check as check, Stale as stale, Full as full, Source as source, Target as target, Held as held, Step as step, Room as room, Text as text}
use Rattle.refusal.specs.Said.{number_said}
use Rattle.desks.specs.declared.Why.{Why}
use Rattle.desks.specs.declared.Why.TheVariants.{Board, Desk, Quota, Absent}
use Rattle.board.specs.declared.RetractableBoard.{RetractableBoard}
use Rattle.desks.specs.Desks.{why_number, Ask, Answer}
use Rattle.desks.specs.Calls.{placed_answer, told_answer, fetched_answer, value_said, first_of, left_by, Answers, cleared, SetsUp}
use Rattle.desks.proofs.Standing.{some_why}

-- a number tells its refusal
why_by : ℕ → Why
why_by n =
    get_or (Absent ∷ Board men ∷ Board kings ∷ Board pawn ∷ Board rights ∷ Board passant ∷ Board check ∷ Board stale ∷ Board full ∷ Board source ∷ Board target ∷ Board held ∷ Board step ∷ Board room ∷ Board text
    ∷ Absent ∷ Absent ∷ Absent ∷ Absent ∷ Absent ∷ Desk ∷ Quota ∷ []) n Absent

by_number : (w : Why) → why_by (why_number w) ≡ w
unfolding why_by
by_number (Board men) = refl
by_number (Board kings) = refl
by_number (Board pawn) = refl
by_number (Board rights) = refl
by_number (Board passant) = refl
by_number (Board check) = refl
by_number (Board stale) = refl
by_number (Board full) = refl
by_number (Board source) = refl
by_number (Board target) = refl
by_number (Board held) = refl
by_number (Board step) = refl
by_number (Board room) = refl
by_number (Board text) = refl
by_number Desk = refl
by_number Quota = refl
by_number Absent = refl

why_one : (w v : Why) → why_number w ≡ why_number v → w ≡ v
why_one w v h = sym (by_number w) ∙ ap why_by h ∙ by_number v

-- and none is 0
no_why : (w : Why) → 0 ≡ why_number w → ⊥
no_why w h = false≢true (sym (some_why w) ∙ ap (λ (n : ℕ). eqb n 0) (sym h))

-- any two results that say the same are the same
told_said : (x y : Result (Unit {0}) Why) → (told_answer x).said ≡ (told_answer y).said → x ≡ y
told_said (Ok u) (Ok v) h = refl
told_said (Err w) (Err v) h = ap Err (why_one w v (ap number_said h))
told_said (Ok u) (Err v) h = absurd (no_why v (ap number_said h))
told_said (Err w) (Ok u) h = absurd (no_why w (sym (ap number_said h)))

pub told_one : (x y : Result (Unit {0}) Why) → told_answer x ≡ told_answer y → x ≡ y
told_one x y h = told_said x y (ap (λ (r : Answer). r.said) h)

pub fetched_one : (x y : Result RetractableBoard Why) → fetched_answer x ≡ fetched_answer y → x ≡ y
fetched_one (Ok b) (Ok c) h = ap Ok (ap (λ (r : Answer). r.board) h)
fetched_one (Err w) (Err v) h = ap Err (why_one w v (ap (λ (r : Answer). number_said r.said) h))
fetched_one (Ok b) (Err v) h = absurd (no_why v (ap (λ (r : Answer). number_said r.said) h))
fetched_one (Err w) (Ok c) h = absurd (no_why w (sym (ap (λ (r : Answer). number_said r.said) h)))

placed_said : (x y : Result ℕ Why) → (placed_answer x).said ≡ (placed_answer y).said → x ≡ y
placed_said (Ok n) (Ok m) h = ap Ok (ap value_said h)
placed_said (Err w) (Err v) h = ap Err (why_one w v (ap number_said h))
placed_said (Ok n) (Err v) h = absurd (no_why v (ap number_said h))
placed_said (Err w) (Ok m) h = absurd (no_why w (sym (ap number_said h)))

pub placed_one : (x y : Result ℕ Why) → placed_answer x ≡ placed_answer y → x ≡ y
placed_one x y h = placed_said x y (ap (λ (r : Answer). r.said) h)

-- any two answers to a call, or a set-up, agree, and so does what the slice then holds
pub answers_one : {s : List ℕ} {d : ℕ} {a : Ask} {r q : Answer} {u v : List ℕ} → Answers s d a r u → Answers s d a q v → (r ≡ q) × (u ≡ v)
answers_one {s} {d} {a} {r} {q} {u} {v} k l =
    let e : r ≡ q = k.answer ∙ sym l.answer in
    (e, k.holds ∙ ap (left_by s (first_of s d) a) e ∙ sym l.holds)

pub sets_up_one : {s : List ℕ} {p q : ℕ} {r x : Answer} {u v : List ℕ} → SetsUp s p q r u → SetsUp s p q x v → (r ≡ x) × (u ≡ v)
sets_up_one {s} {p} {q} {r} {x} {u} {v} k l =
    let e : r ≡ x = k.answer ∙ sym l.answer in
    (e, k.holds ∙ ap (λ (y : Answer). cond (eqb (number_said y.said) 0) (cleared (set (set s 0 p) 1 q) (p + q)) s) e ∙ sym l.holds)
