-- An answer as document 01 has it: a number, 0 where nothing is refused, and the values beside it. Each answer that is an enum has a
-- definition that says which (`..Says`), and the promises are made of what it says.
use Rattle.std.specs.Prelude.{◌≡◌, Bool, cond, List, [], ◌∷◌, ◌++◌, ℕ, eqb, leb, length, drop}
use Rattle.refusal.specs.declared.Refusal.{Refusal}
use Rattle.refusal.specs.declared.Refusal.TheVariants.{Room as room}
use Rattle.refusal.specs.Refusals.{number_of}

-- a test, and the refusal that is given where it fails
infix 10 ◌else◌
pub data Test : Type 0 where
  ◌else◌ : (passes : Bool) (why : Refusal) → Test

-- "Numbers of refusal, in order of test": the number of the first test that fails, 0 where all pass
unfoldable pub first_failing : List Test → ℕ
first_failing [] = 0
first_failing ((ok else why) ∷ ts) = cond ok (first_failing ts) (number_of why)

pub data Said : Type 0 where
  says : (number : ℕ) (values : List ℕ) → Said

abbrev pub number_said : Said → ℕ
number_said (says n vs) = n

-- nothing is refused, and the values are vs
abbrev pub told : List ℕ → Said
told vs = says 0 vs

-- a refusal has its number and no value
abbrev pub refusal : Refusal → Said
refusal r = says (number_of r) []

-- "13 ROOM: the lent slice is shorter than the answer", which has n slots or bytes, the slice m; "ROOM also returns the number of slots
-- or bytes needed"
abbrev pub fitting : ℕ → ℕ → Said
fitting n m = cond (leb n m) (told (n ∷ [])) (says (number_of room) (n ∷ []))

-- the number of the first test that fails, or, where all pass, x
unfoldable pub behind : List Test → Said → Said
behind ts x = cond (eqb (first_failing ts) 0) x (says (first_failing ts) [])

-- t goes into a lent slice that holds o, behind the tests ts: x is said, and where its number is 0 the slice then holds t and what stood
-- beyond; "A refusal writes nothing"
pub record Writes (ts : List Test) (t o : List ℕ) (x : Said) (after : List ℕ) : Type 0 where
  pub answer : x ≡ behind ts (fitting (length t) (length o))
  pub holds : after ≡ cond (eqb (number_said x) 0) (t ++ drop (length t) o) o
