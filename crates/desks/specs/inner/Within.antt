-- Within a call: where its desk stands in the slice, and the call on that desk's places. The code is cut in this way; a reader need not believe it.
use Rattle.std.specs.Prelude.{◌≡◌, cond, List, ℕ, ltb, Result, Ok, Err}
use Rattle.desks.specs.declared.Why.{Why}
use Rattle.desks.specs.declared.Why.TheVariants.{Board, Desk, Quota}
use Rattle.desks.specs.Desks.{Ask, Answer, answer_in}
use Rattle.desks.specs.Layout.{quota_at, fits, places_from}
use Rattle.desks.specs.Calls.{first_of, left_by}
use Rattle.refusal.specs.Refusals.{Verdict}

-- 20, 21 as found, else the first place of the desk and its quota
unfoldable pub stand_of : List ℕ → (desk : ℕ) → Result (ℕ × ℕ) Why
stand_of s d = cond (ltb 1 d) (Err Desk) (cond (fits s) (Ok (first_of s d, quota_at s d)) (Err Quota))

-- the same behind a verdict on the board that is put
abbrev pub stand_behind : Verdict → List ℕ → (desk : ℕ) → Result (ℕ × ℕ) Why
stand_behind (Ok _) s d = stand_of s d
stand_behind (Err w) s d = Err (Board w)

-- a call once its desk is found, whose n places start at the p-th
pub record AnswersAt (s : List ℕ) (p n : ℕ) (a : Ask) (r : Answer) (after : List ℕ) : Type 0 where
  pub answer : r ≡ answer_in (places_from s p n) a
  pub holds : after ≡ left_by s p a r
