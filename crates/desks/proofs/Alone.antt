-- A desk hears what it would hear alone, so two runs that agree on its calls and quota give it the same.
use mathlib.Core.Path.{◌≡◌, refl, ap, ◌∙◌}
use mathlib.Core.Bool.{Bool, true, false, cond}
use mathlib.Core.List.{List, [], ◌∷◌}
use Prim.Native.Nat.{ℕ, zero, suc}
use lib.Dec.{eqb}
use lib.ListN.{replicate}
use borrow.Author.Tests.{eqb-true, eqb-false}
use Rattle.desks.specs.declared.Why.TheVariants.{Desk}
use Rattle.desks.specs.Desks.{free, Found, unfit, table, fresh, Ask, Answer, Met, none, places, places_after, met_at, answer_met, answer_behind, found_after, tests_first, passes, answer_of, after_of}
use Rattle.desks.specs.Layout.{table_of}
use Rattle.desks.specs.Calls.{Answers}
use Rattle.desks.specs.Runs.{Sized, Call, Heard, ◌hears◌, Run, over, then, calls_of, heard_by, quota_for, TwoRuns}
use Rattle.desks.proofs.Leaving.{leaves}
use Rattle.desks.proofs.Fresh.{set_up_fresh}

-- what a desk meets after a call of its own
abbrev pub met_after : Met → Ask → Met
met_after (none w) a = none w
met_after (places ps) a = places (places_after ps a)

-- a call of this desk changes this desk's places alone
pub own_met : (t : Found) (d : ℕ) (a : Ask) → met_at (found_after t d a) d ≡ met_after (met_at t d) a
own_met unfit zero a = refl
own_met unfit (suc zero) a = refl
own_met unfit (suc (suc d)) a = refl
own_met (table p q) zero a = refl
own_met (table p q) (suc zero) a = refl
own_met (table p q) (suc (suc d)) a = refl

-- a call of another leaves this desk's places as they were
pub other_met : (t : Found) (e d : ℕ) (a : Ask) → (e ≡ d → ⊥) → met_at (found_after t e a) d ≡ met_at t d
other_met unfit e d a h = refl
other_met (table p q) zero zero a h = absurd (h refl)
other_met (table p q) zero (suc zero) a h = refl
other_met (table p q) zero (suc (suc d)) a h = refl
other_met (table p q) (suc zero) zero a h = refl
other_met (table p q) (suc zero) (suc zero) a h = absurd (h refl)
other_met (table p q) (suc zero) (suc (suc d)) a h = refl
other_met (table p q) (suc (suc e)) d a h = refl

own_by : (y : Bool) (t : Found) (d : ℕ) (a : Ask) → met_at (cond y (found_after t d a) t) d ≡ cond y (met_after (met_at t d) a) (met_at t d)
own_by true t d a = own_met t d a
own_by false t d a = refl

other_by : (y : Bool) (t : Found) (e d : ℕ) (a : Ask) → (e ≡ d → ⊥) → met_at (cond y (found_after t e a) t) d ≡ met_at t d
other_by true t e d a h = other_met t e d a h
other_by false t e d a h = refl

-- what a desk hears that is alone
unfoldable alone : Met → List Ask → List Answer
alone m [] = []
alone m (a ∷ more) = answer_behind (tests_first a) (answer_met m a) ∷ alone (cond (passes a) (met_after m a) m) more

module _ (d : ℕ) where
  abbrev Alike : List ℕ → List Call → List Heard → Type 0
  Alike s cs hs = heard_by d hs ≡ alone (met_at (table_of s) d) (calls_of d cs)

  turn : (s after : List ℕ) (e : ℕ) (a : Ask) (r : Answer) (cs : List Call) (hs : List Heard) → Sized a → Answers s e a r after → Alike after cs hs → (y : Bool) → eqb e d ≡ y
      → cond y (r ∷ heard_by d hs) (heard_by d hs) ≡ alone (met_at (table_of s) d) (cond y (a ∷ calls_of d cs) (calls_of d cs))
  unfolding answer_of after_of alone
  turn s after e a r cs hs z k more true h =
      let same : e ≡ d = eqb-true e d h in
      rw (more, leaves s a z k, k.answer, same, own_by (passes a) (table_of s) d a)
  turn s after e a r cs hs z k more false h = rw (more, leaves s a z k, other_by (passes a) (table_of s) e d a (eqb-false e d h))

  hears_alone : {s : List ℕ} {cs : List Call} {hs : List Heard} → Run s cs hs → Alike s cs hs
  unfolding calls_of heard_by alone
  hears_alone over = refl
  hears_alone (then {s} {after} {d = e} {a} {r} {cs} {hs} z k more) = turn s after e a r cs hs z k (hears_alone more) (eqb e d) refl

-- a desk of a fresh table meets as many free places as its quota says, and nothing of the other's
unfoldable fresh_met : ℕ → ℕ → Met
fresh_met zero n = places (replicate n free)
fresh_met (suc zero) n = places (replicate n free)
fresh_met (suc (suc d)) n = none Desk

fresh_met_lem : (d p q : ℕ) → met_at (fresh p q) d ≡ fresh_met d (quota_for d p q)
unfolding fresh_met
fresh_met_lem zero p q = refl
fresh_met_lem (suc zero) p q = refl
fresh_met_lem (suc (suc d)) p q = refl

hears_fresh : (d p q : ℕ) (t : List ℕ) (cs : List Call) (hs : List Heard) → table_of t ≡ fresh p q → Run t cs hs → heard_by d hs ≡ alone (fresh_met d (quota_for d p q)) (calls_of d cs)
hears_fresh d p q t cs hs e k = hears_alone d k ∙ ap (λ (m : Met). alone m (calls_of d cs)) (ap (λ (u : Found). met_at u d) e ∙ fresh_met_lem d p q)

pub two_runs : TwoRuns
unfolding TwoRuns
two_runs d p q p' q' t t' cs cs' hs hs' f f' k k' same calls =
    cc (hears_fresh d p q t cs hs (set_up_fresh p q t f) k, hears_fresh d p' q' t' cs' hs' (set_up_fresh p' q' t' f') k')
