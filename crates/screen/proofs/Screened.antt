-- What the screen shows, put together from what was added.
use mathlib.Core.Path.{◌≡◌, refl, sym, ◌∙◌, ap, subst}
use mathlib.Core.Bool.{Bool, cond}
use mathlib.Core.List.{List, ◌++◌}
use Prim.Native.Nat.{ℕ, ◌+◌, ◌≤◌, ◌<◌, ◌^◌}
use native.Mathlib.Omega.{arith}
use lib.Dec.{eqb}
use lib.ListN.{length, length-append}
use Rattle.geometry.specs.Colors.{opp}
use Rattle.laws.specs.declared.ChessRetraction.{ChessRetraction}
use Rattle.laws.specs.Retractions.{packed, InRange}
use Rattle.refusal.specs.declared.Refusal.{Refusal}
use Rattle.refusal.specs.Refusals.{number_of, verdict_number, Verdict, nothing_refused}
use Rattle.refusal.specs.Said.{Test, first_failing}
use Rattle.board.specs.declared.RetractableBoard.{RetractableBoard}
use Rattle.board.specs.Gate.{board_tests}
use Rattle.text.specs.Entries.{text_on}
use Rattle.retraction_gen.specs.declared.RetractionGen.{RetractionGen}
use Rattle.retraction_gen.specs.declared.Stepped.{Stepped}
use Rattle.retraction_gen.specs.Cursors.{next_says, Steps}
use Rattle.output.specs.Appending.{Adds}
use Rattle.rows.specs.Rows.{decimal_of, is_in}
use Rattle.reply.specs.Replies.{newline, refused_text, Shows}
use Rattle.refusal.proofs.Tested.{beside_none, beside_refused}
use Rattle.refusal.proofs.Writing.{Written, Failed}
use Rattle.rows.proofs.Decimals.{number_short}
use Rattle.reply.proofs.Shown.{shown, written_added, text_short}
use Rattle.stepping.proofs.Ranged.{next_range}
use Rattle.screen.specs.declared.Screen.{Screen}
use Rattle.screen.specs.declared.Pressed.{Pressed}
use Rattle.words.specs.Words.{bytes, side_name, source_kind, words_of}
use Rattle.diagram.specs.Diagrams.{drawing_of, diagram_of}
use Rattle.screen.specs.Screens.{opening_of, opening_text, board_before, retraction_text, end_text, one_more, ShownBy, Shown}
use Rattle.words.proofs.Chained.{three_added, four_added, five_added}
use Rattle.words.proofs.Lengths.{length_bytes, side_short, words_short}
use Rattle.diagram.proofs.Drawn.{diagram_length}
use Rattle.std.specs.Prelude.{Err, Some, Option}

-- what the first failing test chooses, by the verdict that has its number
module _ (ts : List Test) (x b : RetractableBoard) (v : Verdict) (k : verdict_number v ≡ first_failing ts) where
  pub taken : v ≡ nothing_refused → x ≡ cond (eqb (first_failing ts) 0) x b
  taken h = beside_none ts x b (sym k ∙ ap verdict_number h)

  pub left : (why : Refusal) → v ≡ Err why → b ≡ cond (eqb (first_failing ts) 0) x b
  left why h = beside_refused ts x b why (sym (ap verdict_number h) ∙ k)

module _ (o : List ℕ) (l : length o ≡ 196608) where
  -- the board before is e
  pub retraction_shown : (b e : RetractableBoard) (n : ℕ) (r : ChessRetraction) (strict : Bool) {o₁ o₂ o₃ : List ℕ} {n₁ n₂ n₃ : ℕ} → n < 2 ^ 64
      → e ≡ board_before b r → Adds o 0 newline n₁ o₁ → Adds o₁ n₁ (words_of n (opp b.turn) (source_kind b r) r strict) n₂ o₂
      → Adds o₂ n₂ (diagram_of (drawing_of e r.target r.source)) n₃ o₃ → Shows (retraction_text b n r strict) n₃ o o₃
  unfolding retraction_text
  retraction_shown b e n r strict {o₁} {o₂} {o₃} {n₁} {n₂} {n₃} f h p q w =
      let words = words_of n (opp b.turn) (source_kind b r) r strict in
      let diagram = diagram_of (drawing_of (board_before b r) r.target r.source) in
      let drawn : Adds o₂ n₂ diagram n₃ o₃ = subst (λ (x : RetractableBoard). Adds o₂ n₂ (diagram_of (drawing_of x r.target r.source)) n₃ o₃) h w in
      let room : length (newline ++ words ++ diagram) ≤ 419 =
      omega (
        arith,
        length-append (newline ++ words) diagram,
        length-append newline words,
        words_short n (opp b.turn) (source_kind b r) r strict f,
        diagram_length (drawing_of (board_before b r) r.target r.source),
      ) in
      shown o o₃ (newline ++ words ++ diagram) n₃ (three_added p q drawn (omega arith)) (omega arith)

  pub end_shown : (listed strict all : ℕ) {o₁ o₂ o₃ o₄ : List ℕ} {n₁ n₂ n₃ n₄ : ℕ} → listed < 2 ^ 64 → strict < 2 ^ 64 → all < 2 ^ 64
      → Adds o 0 (bytes "\nThe end: " ++ decimal_of listed) n₁ o₁ → Adds o₁ n₁ (bytes " listed, " ++ decimal_of strict) n₂ o₂
      → Adds o₂ n₂ (bytes " of them strict; the strict list has " ++ decimal_of all) n₃ o₃ → Adds o₃ n₃ (bytes ".\n") n₄ o₄
      → Shows (end_text listed strict all) n₄ o o₄
  unfolding end_text
  end_shown listed strict all {o₁} {o₂} {o₃} {o₄} {n₁} {n₂} {n₃} {n₄} f g h p q w z =
      let room : length (end_text listed strict all) ≤ 200 =
      simp (length-append, length_bytes) (omega (arith, number_short listed f, number_short strict g, number_short all h)) in
      shown o o₄ (end_text listed strict all) n₄ (four_added p q w z (omega arith)) (omega arith)

  -- an accepted board's text and its diagram
  pub opening_shown : (b : RetractableBoard) {o₁ o₂ o₃ o₄ o₅ : List ℕ} {n₁ n₂ n₃ n₄ n₅ : ℕ} → Written (board_tests b) (text_on b) o n₁ o₁ → Adds o₁ n₁ newline n₂ o₂
      → Adds o₂ n₂ (diagram_of (drawing_of b 64 64)) n₃ o₃ → Adds o₃ n₃ (side_name b.turn) n₄ o₄
      → Adds o₄ n₄ (bytes " to move. A key shows a last move, q leaves.\n") n₅ o₅ → Shows (opening_text b) n₅ o o₅
  unfolding opening_text
  opening_shown b {o₅ = o₅} {n₅ = n₅} k p q w z =
      let room : length (opening_of b) ≤ 500 =
      simp (length-append, length_bytes)
      (omega (arith, text_short b, diagram_length (drawing_of b 64 64), side_short b.turn)) in
      subst (λ (t : List ℕ). Shows t n₅ o o₅) (beside_none (board_tests b) (opening_of b) (refused_text (first_failing (board_tests b))) k.passed)
      (shown o o₅ (opening_of b) n₅ (five_added (written_added k) p q w (omega arith) z) (omega arith))

  pub refusal_shown : (b : RetractableBoard) (why : Refusal) {o₁ o₂ : List ℕ} {n : ℕ} → Failed (board_tests b) o why o₁ → Shows (refused_text (number_of why)) n o₁ o₂
      → Shows (opening_text b) n o o₂
  unfolding opening_text
  refusal_shown b why {o₁} {o₂} {n} k s =
      subst (λ (t : List ℕ). Shows t n o o₂)
      (ap refused_text k.number ∙ beside_refused (board_tests b) (opening_of b) (refused_text (first_failing (board_tests b))) why k.number)
      (subst (λ (x : List ℕ). Shows (refused_text (number_of why)) n x o₂) k.holds s)

-- a retraction with its number and its sign
pub retraction_is : (s : Screen) (g : RetractionGen) (r : ChessRetraction) (slots : List ℕ) {n slot more size : ℕ} {q : Bool} {o out : List ℕ}
    → n ≡ one_more s.listed → slot ≡ packed r → q ≡ is_in slot slots → more ≡ cond q (one_more s.strict) s.strict
    → Shows (retraction_text s.board n r q) size o out
    → ShownBy s g (Some r) slots
    (record { screen = record { board = s.board; cursor = g; listed = n; strict = more }; next = Some r; size = size }) o out
retraction_is s g r slots {n} {slot} {more} {size} {q} {o} {out} a b e f k =
    let sign : q ≡ is_in (packed r) slots = e ∙ ap (λ (i : ℕ). is_in i slots) b in
    let count : more ≡ cond (is_in (packed r) slots) (one_more s.strict) s.strict = f ∙ ap (λ (t : Bool). cond t (one_more s.strict) s.strict) sign in
    record {
      yielded = refl;
      moved = λ i. record { board = s.board; cursor = g; listed = a i; strict = count i };
      shows = subst (λ (m : ℕ). Shows (retraction_text s.board m r (is_in (packed r) slots)) size o out) a
          (subst (λ (t : Bool). Shows (retraction_text s.board n r t) size o out) sign k);
    }

-- what the cursor yields is what is shown
module _ (s : Screen) (p : Stepped) (k : Steps s.cursor p) where
  pub yields_range : (r : ChessRetraction) → p.next ≡ Some r → InRange r
  yields_range r e = next_range s.cursor r (sym k.answer ∙ ap next_says e)

  pub press_shown : (slots : List ℕ) (a : Option ChessRetraction) (r : Pressed) (o out : List ℕ) → p.next ≡ a → ShownBy s p.cursor a slots r o out → Shown s slots r o out
  press_shown slots a r o out e d =
      record { next = p; steps = k; shown = subst (λ (x : Option ChessRetraction). ShownBy s p.cursor x slots r o out) (sym e) d }
