-- For how many men of the retractor 47 entries are enough, and boards that show where the limit lies.
use Rattle.std.specs.Prelude.{◌≡◌, ℕ, ◌≤◌, length, Result}
use Prim.Native.String.{String}
use Rattle.squares.specs.Squares.{size}
use Rattle.geometry.specs.declared.Color.{Color}
use Rattle.geometry.specs.Colors.{opp}
use Rattle.laws.specs.Boards.{color_set, Shaped}
use Rattle.refusal.specs.declared.Refusal.{Refusal}
use Rattle.refusal.specs.Said.{first_failing}
use Rattle.board.specs.declared.RetractableBoard.{RetractableBoard}
use Rattle.board.specs.Gate.{to_laws, board_tests}
use Rattle.retraction_gen.specs.declared.RetractionGen.{RetractionGen}
use Rattle.retraction_gen.specs.Making.{list_on, list_tests, cursor_on, refused_number, Makes}
use Rattle.daggers.specs.Table.{OnText}

-- how many men a colour has
abbrev pub men : RetractableBoard → Color → ℕ
men b c = size (color_set b.colors c)

-- "whose retractor has at most sixteen men": the side that doesn't have the turn
abbrev pub limit : ℕ
limit = 16

-- "the ported list never needs a 48th entry", on any accepted board whose retractor has at most n men
abbrev pub Enough : ℕ → Type 0
Enough n = (b : RetractableBoard) → Shaped (to_laws b) → first_failing (board_tests b) ≡ 0 → men b (opp b.turn) ≤ n → length (list_on b) ≤ 47

-- a text that is read as an accepted board, whose retractor has n men and whose list has m entries
abbrev pub Needs : String → ℕ → ℕ → Type 0
Needs t n m = OnText t (λ b. (men b (opp b.turn) ≡ n) × (length (list_on b) ≡ m))

-- a text that is read as an accepted board, for which making the cursor gives 8
abbrev pub Full : String → Type 0
Full t = OnText t (λ b. (r : Result RetractionGen Refusal) → Makes (list_tests b) (cursor_on b) r → refused_number r ≡ 8)

-- by the men of the retractor; the last two are document 01's, the one FULL, the other "without the knight on h1"
abbrev pub sixteen : String
sixteen = "RNBQQBNR/8/PPPPKPPP/8/8/8/8/4k3 b - -"

abbrev pub seventeen : String
seventeen = "NNNNNNNN/8/PPPPPPPP/8/8/8/8/K6k b - -"

abbrev pub twenty_four : String
twenty_four = "k7/8/PPPPPPPP/8/PPPPPPPP/8/8/KNNNNNNN b - -"

abbrev pub twenty_three : String
twenty_three = "k7/8/PPPPPPPP/8/PPPPPPPP/8/8/KNNNNNN1 b - -"
