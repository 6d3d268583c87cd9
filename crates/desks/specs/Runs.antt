-- Runs of calls by both desks on one lent slice, and what one desk can learn of the other: nothing.
use Rattle.std.specs.Prelude.{◌≡◌, cond, List, [], ◌∷◌, ℕ, zero, suc, ◌^◌, ◌<◌, eqb, get_or}
use Rattle.laws.specs.Boards.{Shaped}
use Rattle.refusal.specs.Said.{first_failing, number_said, told}
use Rattle.board.specs.declared.RetractableBoard.{RetractableBoard}
use Rattle.board.specs.Gate.{to_laws, board_tests}
use Rattle.desks.specs.Desks.{Ask, put, fetch, drop, Answer, grants, answer_of}
use Rattle.desks.specs.Layout.{table_of}
use Rattle.desks.specs.Calls.{Answers, SetsUp}

-- the alphabet: the desk with a number makes a call; any number may be given for a desk
infix 10 ◌asks◌
pub data Call : Type 0 where
  ◌asks◌ : (desk : ℕ) → Ask → Call

-- and hears an answer
infix 10 ◌hears◌
pub data Heard : Type 0 where
  ◌hears◌ : (desk : ℕ) → Answer → Heard

-- what every board of a program is by its type, and 1 to 7 do not say: six sets and two, of 64 squares each
abbrev pub Sized : Ask → Type 0
Sized (put b) = Shaped (to_laws b)
Sized (fetch n) = Unit {0}
Sized (drop n) = Unit {0}

-- a run on a slice: each call answers, and leaves the slice, as it promises
pub data Run : List ℕ → List Call → List Heard → Type 0 where
  over : {s : List ℕ} → Run s [] []
  then : {s after : List ℕ} {d : ℕ} {a : Ask} {r : Answer} {cs : List Call} {hs : List Heard} → Sized a → Answers s d a r after → Run after cs hs
      → Run s ((d asks a) ∷ cs) ((d hears r) ∷ hs)

-- one desk's calls, and what that desk hears
unfoldable pub calls_of : ℕ → List Call → List Ask
calls_of d [] = []
calls_of d ((e asks a) ∷ cs) = cond (eqb e d) (a ∷ calls_of d cs) (calls_of d cs)

unfoldable pub heard_by : ℕ → List Heard → List Answer
heard_by d [] = []
heard_by d ((e hears r) ∷ hs) = cond (eqb e d) (r ∷ heard_by d hs) (heard_by d hs)

-- the quota of a desk among two, 0 of neither desk
abbrev pub quota_for : ℕ → ℕ → ℕ → ℕ
quota_for zero p q = p
quota_for (suc zero) p q = q
quota_for (suc (suc d)) p q = 0

-- a slice freshly set up with two quotas, whatever it held before and however long it is
abbrev pub FreshlySetUp : ℕ → ℕ → List ℕ → Type 0
FreshlySetUp p q t = (s : List ℕ) × SetsUp s p q (grants []) t

-- "Two runs from a table freshly set up that agree on one desk's calls and quota give that desk the same answers and boards, the other's calls
-- being free within its quota; number, refusal and board may depend on nothing else". The runs may differ in all else: the other desk's calls,
-- their boards, number and order among this desk's, its quota, and the length and former contents of the slice.
-- It does not speak of the time that a call takes, of a caller who writes into the lent slice by hand, or of a second set-up in the run.
unfoldable pub TwoRuns : Type 0
TwoRuns =
    (d : ℕ) (p q p' q' : ℕ) (t t' : List ℕ) (cs cs' : List Call) (hs hs' : List Heard)
    → FreshlySetUp p q t
    → FreshlySetUp p' q' t'
    → Run t cs hs
    → Run t' cs' hs'
    → quota_for d p q ≡ quota_for d p' q'
    → calls_of d cs ≡ calls_of d cs'
    → heard_by d hs ≡ heard_by d hs'

-- "Demands 1 to 3 hold for a fetched board", of any slice of 64-bit words, a stranger's too: it is a board by its type, and passes 1 to 7
unfoldable pub FetchesAccepted : Type 0
FetchesAccepted =
    (s after : List ℕ) (d n : ℕ) (r : Answer)
    → ((i : ℕ) → get_or s i 0 < 2 ^ 64)
    → Answers s d (fetch n) r after
    → number_said r.said ≡ 0
    → Shaped (to_laws r.board) × (first_failing (board_tests r.board) ≡ 0)

-- the number that a put gave fetches that very board, and every other number, of either desk, fetches what it did
unfoldable pub KeepsBoards : Type 0
KeepsBoards =
    (s t : List ℕ) (d n : ℕ) (b : RetractableBoard)
    → Shaped (to_laws b)
    → Answers s d (put b) (grants (n ∷ [])) t
    → (answer_of (table_of t) d (fetch n) ≡ record { said = told []; board = b })
    × ((e m : ℕ) → ((e ≡ d) × (m ≡ n) → ⊥) → answer_of (table_of t) e (fetch m) ≡ answer_of (table_of s) e (fetch m))
