-- Refusals, their numbers, and verdicts.
use Rattle.std.specs.Prelude.{Bool, cond, not, ℕ, Result, Ok, Err, ⊤}
use Rattle.refusal.specs.declared.Refusal.{Refusal}
use Rattle.refusal.specs.declared.Refusal.TheVariants.{Men as men, Kings as kings, Pawn as pawn, Rights as rights, Passant as passant, Check as check, Stale as stale, Full as full, Source as source, Target as target, Held as held, Step as step, Room as room, Text as text}

-- "Numbers of refusal, in order of test"
abbrev pub number_of : Refusal → ℕ
number_of men = 1
number_of kings = 2
number_of pawn = 3
number_of rights = 4
number_of passant = 5
number_of check = 6
number_of stale = 7
number_of full = 8
number_of source = 9
number_of target = 10
number_of held = 11
number_of step = 12
number_of room = 13
number_of text = 14

-- what tests come to: nothing is refused, or a refusal
abbrev pub Verdict : Type 0
Verdict = Result ⊤ Refusal

abbrev pub nothing_refused : Verdict
nothing_refused = Ok tt

-- the number of a verdict, 0 where nothing is refused
abbrev pub verdict_number : Verdict → ℕ
verdict_number (Ok _) = 0
verdict_number (Err r) = number_of r

-- a test that fails is refused by r, and otherwise it goes on with v
abbrev pub unless : Bool → Refusal → Verdict → Verdict
unless ok r v = cond (not ok) (Err r) v

-- what v says, or, where it accepts, what w says
abbrev pub and_then : Verdict → Verdict → Verdict
and_then (Ok _) w = w
and_then (Err r) w = Err r
