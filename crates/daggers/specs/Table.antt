-- The lines that document 01 marks with †: one table, and what its lines say, by the contracts of the public functions.
use Rattle.std.specs.Prelude.{◌≡◌, List, [], ◌∷◌, ℕ, ◌+◌, ◌*◌, get_or, Result}
use Prim.Native.String.{String}
use Rattle.squares.specs.Squares.{set_of}
use Rattle.geometry.specs.declared.Color.{Color}
use Rattle.geometry.specs.declared.Color.TheVariants.{White}
use Rattle.geometry.specs.Lines.{IsBetween}
use Rattle.laws.specs.declared.Piece.{Piece}
use Rattle.laws.specs.declared.Edition.TheVariants.{A}
use Rattle.laws.specs.declared.Piece.TheVariants.{Pawn, Knight, Bishop, Rook, Queen, King}
use Rattle.laws.specs.declared.ChessRetraction.{ChessRetraction}
use Rattle.laws.specs.Men.{Men, kind_number}
use Rattle.laws.specs.Souls.{number, souls}
use Rattle.laws.specs.Retractions.{packed, unpacked, InRange}
use Rattle.laws.specs.StrictLists.{In}
use Rattle.board.specs.declared.RetractableBoard.{RetractableBoard}
use Rattle.board.specs.declared.Boarded.{Boarded}
use Rattle.slots.specs.declared.Unlisted.{Unlisted}
use Rattle.strict.specs.Demand.{Lists}
use Rattle.text.specs.Entries.{Reads}
use Rattle.daggers.specs.Names.{bytes, square, named, back}
use Rattle.refusal.specs.Refusals.{nothing_refused}

pub data Line : Type 0 where
  -- a text, and a retraction that is in its strict list; a text, and a source and a target that no retraction in its strict list has
  is_strict : String → ChessRetraction → Line
  not_strict : String → String → String → Line
  -- two squares, and those between them
  has_between : String → String → List String → Line
  -- how many men there are of each kind, and their souls
  has_souls : (Piece → ℕ) → ℕ → Line
  -- a retraction, and the slot that it packs to
  packs : ChessRetraction → ℕ → Line

-- `read` accepts the text t in edition A, and P holds of its board
unfoldable pub OnText : String → (RetractableBoard → Type 0) → Type 0
OnText t P = (b : Boarded) → Reads A (bytes t) b → (b.verdict ≡ nothing_refused) × P b.board

-- whatever `strict_into` may answer on the text's board, P holds of its list
abbrev pub StrictOf : String → (List ChessRetraction → Type 0) → Type 0
StrictOf t P = OnText t (λ b. (s after : List ℕ) (a : Result ℕ Unlisted) (x : Lists b s a after) → P x.moves)

-- so many pawns, knights and queens, and nothing else
abbrev pub men : ℕ → ℕ → ℕ → Piece → ℕ
men p n q Pawn = p
men p n q Knight = n
men p n q Bishop = 0
men p n q Rook = 0
men p n q Queen = q
men p n q King = 0

-- the colour c has the men w "alone"
abbrev pub Alone : Men → Color → (Piece → ℕ) → Type 0
Alone m c w = (k : Piece) → number m c k ≡ w k

-- What a line says, by the contract of the function that it is about. Between: of whatever table `between_table` may give. Souls, which is what
-- `souls` answers: some men are w alone, and of all men that are, wherever they stand and of either colour. Packing: `pack` takes r and
-- answers n, and `unpack` of n answers r.
abbrev pub Says : Line → Type 0
Says (is_strict t r) = StrictOf t (λ l. In r l)
Says (not_strict t s e) = StrictOf t (λ l. (r : ChessRetraction) → r.source ≡ square s → r.target ≡ square e → In r l → ⊥)
Says (has_between a b ks) = (t : List ℕ) → IsBetween t → get_or t (square a * 64 + square b) 0 ≡ set_of (named ks)
Says (has_souls w n) = ((m : Men) × Alone m White w) × ((m : Men) (c : Color) → Alone m c w → souls m c ≡ n)
Says (packs r n) = InRange r × (packed r ≡ n) × (unpacked n ≡ r)

abbrev pub Say : List Line → Type 0
Say [] = Unit {0}
Say (l ∷ ls) = Says l × Say ls

unfoldable pub table : List Line
table =
    -- "e4 to e3 without capture is strict"
    is_strict "4k3/8/8/8/4K3/8/8/4R3 b - -" (back "e4" "e3" 0)
    -- "e6 to d5, uncaptured P, is strict"
    ∷ is_strict "3R4/8/4P3/8/8/3k4/8/7K b - -" (back "e6" "d5" (kind_number Pawn))
    -- "d6 to c5 in the printed board isn't strict"
    ∷ not_strict "8/4k3/3P4/8/8/8/8/4R2K b - -" "d6" "c5"
    -- "e4 to e2 is strict", "with `-` it isn't"
    ∷ is_strict "4k3/8/8/8/3pP3/8/8/4K3 b - ?" (back "e4" "e2" 0)
    ∷ not_strict "4k3/8/8/8/3pP3/8/8/4K3 b - -" "e4" "e2"
    -- "between a1 and d4: b2, c3", "a1 and b3: none"
    ∷ has_between "a1" "d4" ("b2" ∷ "c3" ∷ [])
    ∷ has_between "a1" "b3" []
    -- "8 pawns alone 8", "9 knights alone 7", "7 pawns and 3 queens 9"
    ∷ has_souls (men 8 0 0) 8
    ∷ has_souls (men 0 9 0) 7
    ∷ has_souls (men 7 0 3) 9
    -- "d6e5 without capture packs to 2,347"
    ∷ packs (back "d6" "e5" 0) 2347
    ∷ []
