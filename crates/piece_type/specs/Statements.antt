-- The statements of the Rust that push to `movelist`: what a run of them makes of the list. `do` puts one after the other. A name such as
-- `castling_rooks` is `castlingRooks` here, and a variable that is assigned again is a `let` of the same name.
use Rattle.std.specs.Prelude.{Bool, cond, List, [], ◌∷◌, ◌++◌, ℕ}
use Rattle.squares.specs.Members.{members, for_each}
use Rattle.retraction_list.specs.declared.SourceAndTargets.{SourceAndTargets}

abbrev pub Run : Type 0
Run = List SourceAndTargets → List SourceAndTargets

infixl 20 ◌>>◌
unfoldable pub ◌>>◌ : Run → Run → Run
◌>>◌ first next movelist = next (first movelist)

-- `movelist.push_unchecked(entry)`; of a 48th entry the Rust says nothing, and `answer_of` (retraction_list) says FULL
unfoldable pub push : SourceAndTargets → Run
push entry movelist = movelist ++ (entry ∷ [])

-- nothing is done: what is left out by a `return` or a `continue`
unfoldable pub skip : Run
skip movelist = movelist

-- `if t { block }`
unfoldable pub when : Bool → Run → Run
when t block movelist = cond t (block movelist) movelist

-- `for src in set { block }`
unfoldable pub for : ℕ → (ℕ → Run) → Run
for set block movelist = for_each (λ l src. block src l) movelist (members set)

-- `let mut retraction_list = ..::new();`, and the list after the statements
unfoldable pub from_new : Run → List SourceAndTargets
from_new run = run []
