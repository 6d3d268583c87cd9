-- What is said behind tests: the verdicts have the numbers of the first test that fails, and a number tells its refusal.
use mathlib.Core.Path.{◌≡◌, refl, sym, ap, ◌∙◌}
use mathlib.Core.Bool.{Bool, true, false, cond, false≢true}
use mathlib.Core.List.{List, [], ◌∷◌, ◌++◌}
use Prim.Native.Nat.{ℕ, ◌≤◌}
use native.Mathlib.Omega.{arith}
use lib.Dec.{eqb}
use lib.ListN.{get_or}
use Rattle.refusal.specs.declared.Refusal.{Refusal}
use Rattle.refusal.specs.declared.Refusal.TheVariants.{Men as men, Kings as kings, Pawn as pawn, Rights as rights, Passant as passant, Check as check, Stale as stale, Full as full, Source as source, Target as target, Held as held, Step as step, Room as room, Text as text}
use Rattle.refusal.specs.Refusals.{number_of, verdict_number, unless, and_then, Verdict, nothing_refused}
use Rattle.refusal.specs.Said.{Test, ◌else◌, first_failing, Said, refusal, behind}
use Rattle.std.specs.Prelude.{Result, Ok, Err, IsErrAnd}

-- a number of refusal is never 0
pub some_number : (r : Refusal) → eqb (number_of r) 0 ≡ false
some_number men = refl
some_number kings = refl
some_number pawn = refl
some_number rights = refl
some_number passant = refl
some_number check = refl
some_number stale = refl
some_number full = refl
some_number source = refl
some_number target = refl
some_number held = refl
some_number step = refl
some_number room = refl
some_number text = refl

-- document 01's numbers end with 14
pub number_low : (r : Refusal) → number_of r ≤ 14
number_low men = omega arith
number_low kings = omega arith
number_low pawn = omega arith
number_low rights = omega arith
number_low passant = omega arith
number_low check = omega arith
number_low stale = omega arith
number_low full = omega arith
number_low source = omega arith
number_low target = omega arith
number_low held = omega arith
number_low step = omega arith
number_low room = omega arith
number_low text = omega arith

-- tests behind tests
pub more_tests : (ts us : List Test) → first_failing (ts ++ us) ≡ cond (eqb (first_failing ts) 0) (first_failing us) (first_failing ts)
unfolding first_failing
more_tests [] us = refl
more_tests ((true else r) ∷ ts) us = more_tests ts us
more_tests ((false else r) ∷ ts) us = rw (some_number r)

-- tests behind those whose first number a verdict has
pub then_numbers : (v w : Verdict) (ts us : List Test) → verdict_number v ≡ first_failing ts → verdict_number w ≡ first_failing us
    → verdict_number (and_then v w) ≡ first_failing (ts ++ us)
then_numbers (Ok _) w ts us h k = rw (more_tests ts us, ← h) k
then_numbers (Err r) w ts us h k = rw (more_tests ts us, ← h, some_number r)

one_number : (ok : Bool) (r : Refusal) → verdict_number (unless ok r nothing_refused) ≡ first_failing ((ok else r) ∷ [])
unfolding first_failing
one_number true r = refl
one_number false r = refl

-- and one test more
pub then_number : (v : Verdict) (ts : List Test) (ok : Bool) (r : Refusal) → verdict_number v ≡ first_failing ts
    → verdict_number (and_then v (unless ok r nothing_refused)) ≡ first_failing (ts ++ ((ok else r) ∷ []))
then_number v ts ok r h = then_numbers v (unless ok r nothing_refused) ts ((ok else r) ∷ []) h (one_number ok r)

-- a number tells its refusal
numbered_by : ℕ → Refusal
numbered_by n = get_or (text ∷ men ∷ kings ∷ pawn ∷ rights ∷ passant ∷ check ∷ stale ∷ full ∷ source ∷ target ∷ held ∷ step ∷ room ∷ text ∷ []) n text

by_number : (r : Refusal) → numbered_by (number_of r) ≡ r
unfolding numbered_by
by_number men = refl
by_number kings = refl
by_number pawn = refl
by_number rights = refl
by_number passant = refl
by_number check = refl
by_number stale = refl
by_number full = refl
by_number source = refl
by_number target = refl
by_number held = refl
by_number step = refl
by_number room = refl
by_number text = refl

pub number_one : (r q : Refusal) → number_of r ≡ number_of q → r ≡ q
number_one r q h = sym (by_number r) ∙ ap numbered_by h ∙ by_number q

pub verdict_one : (v w : Verdict) → verdict_number v ≡ verdict_number w → v ≡ w
verdict_one (Ok _) (Ok _) h = refl
verdict_one (Ok _) (Err q) h = absurd (false≢true (sym (some_number q) ∙ ap (λ (n : ℕ). eqb n 0) (sym h)))
verdict_one (Err r) (Ok _) h = absurd (false≢true (sym (some_number r) ∙ ap (λ (n : ℕ). eqb n 0) h))
verdict_one (Err r) (Err q) h = ap Err (number_one r q h)

-- what a verdict refuses, or, where it accepts, x
abbrev pub said_by : Verdict → Said → Said
said_by (Ok _) x = x
said_by (Err r) x = refusal r

pub behind_by : (v : Verdict) (ts : List Test) (x : Said) → verdict_number v ≡ first_failing ts → said_by v x ≡ behind ts x
unfolding behind
behind_by (Ok _) ts x h = rw (← h)
behind_by (Err r) ts x h = rw (← h, some_number r)

-- a `?` hands a refusal on as it is
pub handed_on : {T : Type 0} (r : Result T Refusal) (w : Refusal) → IsErrAnd r (λ e. e ≡ w) → r ≡ Err w
handed_on (Ok _) w h = absurd h
handed_on (Err e) w h = ap Err h

-- a chain of verdicts that accepts
pub never : (r : Refusal) → Err r ≡ nothing_refused → ⊥
never r e = let z : ◌≡◌ {A = ℕ} 0 1 = cc in omega arith

pub both_accept : (v w : Verdict) → and_then v w ≡ nothing_refused → (v ≡ nothing_refused) × (w ≡ nothing_refused)
both_accept (Ok _) w e = (refl, e)
both_accept (Err r) w e = absurd (never r e)

pub test_passes : (ok : Bool) (r : Refusal) (v : Verdict) → unless ok r v ≡ nothing_refused → (ok ≡ true) × (v ≡ nothing_refused)
test_passes true r v e = (refl, e)
test_passes false r v e = absurd (never r e)
