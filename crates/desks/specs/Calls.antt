-- What each call promises: its answer by the table that the lent slice holds, and what the slice holds afterwards.
use Rattle.std.specs.Prelude.{◌≡◌, cond, List, [], ◌∷◌, ℕ, zero, suc, ◌+◌, eqb, length, set, Result, Ok, Err}
use Rattle.std.proofs.Math.Seq.{paste}
use Rattle.refusal.specs.Said.{Said, says, number_said, told}
use Rattle.board.specs.declared.RetractableBoard.{RetractableBoard}
use Rattle.desks.specs.declared.Why.{Why}
use Rattle.desks.specs.declared.Why.TheVariants.{Quota}
use Rattle.desks.specs.Desks.{Ask, put, fetch, drop, Answer, refuses, grants, answer_of}
use Rattle.place.specs.Words.{place_words, words_of}
use Rattle.desks.specs.Layout.{base, quota_at, room, table_of}

-- the calls' results, by what they say
abbrev pub placed_answer : Result ℕ Why → Answer
placed_answer (Ok n) = grants (n ∷ [])
placed_answer (Err w) = refuses w

abbrev pub told_answer : Result (Unit {0}) Why → Answer
told_answer (Ok u) = grants []
told_answer (Err w) = refuses w

abbrev pub fetched_answer : Result RetractableBoard Why → Answer
fetched_answer (Ok b) = record { said = told []; board = b }
fetched_answer (Err w) = refuses w

-- the first place of a desk: the second desk's places stand behind the first one's
abbrev pub first_of : List ℕ → (desk : ℕ) → ℕ
first_of s zero = 0
first_of s (suc d) = quota_at s 0

-- the number that a put gives
abbrev pub value_said : Said → ℕ
value_said (says n []) = 0
value_said (says n (v ∷ vs)) = v

-- what a call writes that says x, of a desk whose places start at the p-th: a put a board into the place of its number, a drop a mark of 0
abbrev pub written_at : List ℕ → ℕ → Ask → Said → List ℕ
written_at s p (put b) x = paste s (base (p + value_said x)) (words_of b) place_words
written_at s p (fetch n) x = s
written_at s p (drop n) x = set s (base (p + n)) 0

-- "A refusal writes nothing"
abbrev pub left_by : List ℕ → ℕ → Ask → Answer → List ℕ
left_by s p a r = cond (eqb (number_said r.said) 0) (written_at s p a r.said) s

-- a call of a desk on a slice that holds s: it answers r, and the slice then holds `after`
pub record Answers (s : List ℕ) (desk : ℕ) (a : Ask) (r : Answer) (after : List ℕ) : Type 0 where
  pub answer : r ≡ answer_of (table_of s) desk a
  pub holds : after ≡ left_by s (first_of s desk) a r

-- the marks of the first n places, off
unfoldable pub cleared : List ℕ → ℕ → List ℕ
cleared s zero = s
cleared s (suc n) = set (cleared s n) (base n) 0

-- "Each desk has a quota fixed at the start": 21 "at the start .. quotas together above the table's places"; else both quotas stand in the slice,
-- and all their places are free
pub record SetsUp (s : List ℕ) (p q : ℕ) (r : Answer) (after : List ℕ) : Type 0 where
  pub answer : r ≡ cond (room (length s) p q) (grants []) (refuses Quota)
  pub holds : after ≡ cond (eqb (number_said r.said) 0) (cleared (set (set s 0 p) 1 q) (p + q)) s
