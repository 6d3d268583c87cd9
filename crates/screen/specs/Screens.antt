-- What the stepping screen shows: a board at its opening, a retraction for each press, and the end.
use Rattle.std.specs.Prelude.{◌≡◌, Bool, cond, List, [], ◌∷◌, ◌++◌, ℕ, zero, suc, ◌+◌, min, eqb, length, take, Option, Some, None}
use Rattle.geometry.specs.Colors.{opp}
use Rattle.laws.specs.declared.ChessRetraction.{ChessRetraction}
use Rattle.laws.specs.Retractions.{packed}
use Rattle.refusal.specs.Said.{first_failing}
use Rattle.board.specs.declared.RetractableBoard.{RetractableBoard}
use Rattle.board.specs.Gate.{pos_on, board_tests}
use Rattle.board.specs.Moving.{unmake_tests, unmade_on}
use Rattle.text.specs.Entries.{text_on}
use Rattle.retraction_gen.specs.declared.RetractionGen.{RetractionGen}
use Rattle.retraction_gen.specs.declared.Stepped.{Stepped}
use Rattle.retraction_gen.specs.Cursors.{Steps}
use Rattle.rows.specs.Rows.{decimal_of, is_in}
use Rattle.words.specs.Words.{bytes, side_name, source_kind, words_of}
use Rattle.diagram.specs.Diagrams.{drawing_of, diagram_of}
use Rattle.reply.specs.Replies.{newline, refused_text, Shows}
use Rattle.screen.specs.declared.Screen.{Screen}
use Rattle.screen.specs.declared.Pressed.{Pressed}

-- the text of a board, its diagram and what to do
abbrev pub opening_of : RetractableBoard → List ℕ
opening_of b =
    text_on b ++ newline ++ diagram_of (drawing_of b 64 64) ++ side_name b.turn ++ bytes " to move. A key shows a last move, q leaves.\n"

-- 1 to 7: "A refused line prints `refused N` alone"
unfoldable pub opening_text : RetractableBoard → List ℕ
opening_text b = cond (eqb (first_failing (board_tests b)) 0) (opening_of b) (refused_text (first_failing (board_tests b)))

-- the board before a retraction; today's where un-make refuses it
abbrev pub board_before : RetractableBoard → ChessRetraction → RetractableBoard
board_before b r = cond (eqb (first_failing (board_tests b ++ unmake_tests (pos_on b) r)) 0) (unmade_on b r) b

-- the n-th retraction in words, and on the board before it
unfoldable pub retraction_text : RetractableBoard → ℕ → ChessRetraction → Bool → List ℕ
retraction_text b n r strict =
    newline ++ words_of n (opp b.turn) (source_kind b r) r strict ++ diagram_of (drawing_of (board_before b r) r.target r.source)

-- how many were shown, how many of them were strict, and how long the strict list is
unfoldable pub end_text : ℕ → ℕ → ℕ → List ℕ
end_text listed strict all =
    (bytes "\nThe end: " ++ decimal_of listed) ++ (bytes " listed, " ++ decimal_of strict) ++ (bytes " of them strict; the strict list has " ++ decimal_of all)
    ++ bytes ".\n"

-- one more, as far as 64 bits count
abbrev pub one_more : ℕ → ℕ
one_more n = min (n + 1) 18446744073709551615

-- what a press shows whose cursor yields this, the slots of the strict list being given
abbrev pub press_text : Screen → List ℕ → Option ChessRetraction → List ℕ
press_text s strict (Some r) = retraction_text s.board (one_more s.listed) r (is_in (packed r) strict)
press_text s strict None = end_text s.listed s.strict (length strict)

-- the numbers shown, all and strict ones, after it
abbrev pub listed_after : Screen → Option ChessRetraction → ℕ
listed_after s (Some r) = one_more s.listed
listed_after s None = s.listed

abbrev pub strict_after : Screen → List ℕ → Option ChessRetraction → ℕ
strict_after s strict (Some r) = cond (is_in (packed r) strict) (one_more s.strict) s.strict
strict_after s strict None = s.strict

abbrev pub screen_after : Screen → List ℕ → Option ChessRetraction → RetractionGen → Screen
screen_after s strict a g = record { board = s.board; cursor = g; listed = listed_after s a; strict = strict_after s strict a }

-- the cursor g has yielded a: the screen keeps g, and shows a
pub record ShownBy (s : Screen) (g : RetractionGen) (a : Option ChessRetraction) (strict : List ℕ) (r : Pressed) (o out : List ℕ) : Type 0 where
  pub yielded : r.next ≡ a
  pub moved : r.screen ≡ screen_after s strict a g
  pub shows : Shows (press_text s strict a) r.size o out

-- "one retraction per key press": what the lent cursor yields, shown, and the cursor that came back in the screen's own record
pub record Shown (s : Screen) (strict : List ℕ) (r : Pressed) (o out : List ℕ) : Type 0 where
  pub next : Stepped
  pub steps : Steps s.cursor next
  pub shown : ShownBy s next.cursor next.next strict r o out

-- press after press from the screen s, these are shown
unfoldable pub ShowsAll : Screen → List ℕ → List (List ℕ) → Type 0
ShowsAll s strict [] = Unit {0}
ShowsAll s strict (t ∷ ts) =
    (r : Pressed) × (o : List ℕ) × (out : List ℕ) × Shown s strict r o out × (take r.size out ≡ t) × ShowsAll r.screen strict ts

-- what n presses are to show of a list, so many having been shown: each retraction by its number, and then the end again and again
unfoldable pub shown_of : RetractableBoard → List ℕ → ℕ → (listed strict : ℕ) → List ChessRetraction → List (List ℕ)
shown_of b slots zero a s l = []
shown_of b slots (suc n) a s [] = end_text a s (length slots) ∷ shown_of b slots n a s []
shown_of b slots (suc n) a s (r ∷ rs) =
    retraction_text b (one_more a) r (is_in (packed r) slots) ∷ shown_of b slots n (one_more a) (cond (is_in (packed r) slots) (one_more s) s) rs
