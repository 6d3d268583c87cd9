-- From a list that fits or doesn't to the answer of a side, and from the sides to the answer.
use mathlib.Core.Path.{◌≡◌, refl, sym, ap, ◌∙◌}
use mathlib.Core.Bool.{Bool, true, false, cond}
use mathlib.Core.List.{List, [], ◌∷◌}
use Prim.Native.Nat.{ℕ}
use lib.Dec.{leb}
use lib.ListN.{length}
use Rattle.refusal.specs.declared.Refusal.{Refusal}
use Rattle.refusal.specs.declared.Refusal.TheVariants.{Full}
use Rattle.refusal.specs.Said.{◌else◌, first_failing, Said, told, refusal, behind}
use Rattle.board.specs.declared.RetractableBoard.{RetractableBoard}
use Rattle.board.specs.Gate.{position_on, gate_of, board_tests}
use Rattle.retraction_list.specs.declared.RetractionList.{RetractionList}
use Rattle.retraction_list.specs.Entries.{holding}
use Rattle.retraction_list.specs.inner.Pushing.{answer_of}
use Rattle.retraction_gen.specs.declared.Stepped.{Stepped}
use Rattle.view.specs.Views.{view_of}
use Rattle.view.specs.inner.Readiness.{Whole}
use Rattle.retraction_gen.specs.Making.{view_on, masks_on, start_of, full_test}
use Rattle.retraction_gen.specs.Cursors.{next_says, next_of, Steps}
use Rattle.limited.specs.Limiting.{limited_says, is_none, flipped, pawnless_on, nothing_on, side_of, limited_from, limited_of}
use Rattle.refusal.proofs.Saying.{behind_by}
use Rattle.refusal.proofs.Writing.{no_value, no_both}
use Rattle.view.proofs.Seen.{whole}
use Rattle.board.proofs.Numbers.{gate_refuses, gate_passes}
use Rattle.retraction_gen.proofs.Filled.{held_is, full_fails, held_passes}
use Rattle.refusal.specs.Refusals.{Verdict, nothing_refused}
use Rattle.std.specs.Prelude.{Err, Result, Ok, Option, Some, None, is_none as gives_none}
use Rattle.laws.specs.declared.ChessRetraction.{ChessRetraction}

-- the iterator's first answer, as the code reads it
abbrev by_next : Option ChessRetraction → Result Bool Refusal
by_next x = Ok (gives_none x)

next_by : (x : Option ChessRetraction) → limited_says (by_next x) ≡ cond (is_none (next_says x)) (told (1 ∷ [])) (told (0 ∷ []))
next_by (Some r) = refl
next_by None = refl

module _ (b : RetractableBoard) (l : RetractionList) (e : l ≡ answer_of (pawnless_on b)) where
  pub side_full : l.full ≡ true → limited_says (Err Full) ≡ side_of b (told (0 ∷ []))
  unfolding side_of
  side_full f = behind_by (Err Full) (full_test (pawnless_on b)) _ (full_fails (pawnless_on b) l e f)

  pub side_held : (ms : List ℕ) (s : Stepped) (x : Option ChessRetraction) → l.full ≡ false → ms ≡ masks_on b → Steps (start_of l ms) s → s.next ≡ x
      → limited_says (by_next x) ≡ side_of b (told (0 ∷ []))
  unfolding side_of nothing_on
  side_held ms s x f m n k =
      next_by x
      ∙ ap (λ (y : Said). cond (is_none y) (told (1 ∷ [])) (told (0 ∷ [])))
      (ap next_says (sym k) ∙ n.answer ∙ ap (λ (q : RetractionList). (next_of (start_of q ms)).said) (held_is (pawnless_on b) l e f)
      ∙ ap (λ (q : List ℕ). (next_of (start_of (holding (pawnless_on b)) q)).said) m)
      ∙ behind_by nothing_refused (full_test (pawnless_on b)) _ (sym (held_passes (pawnless_on b) l e f))

-- the flipped board has the same men
pub flip_whole : (b : RetractableBoard) → Whole (view_on b) → Whole (view_on (flipped b))
unfolding view_of
flip_whole b w = whole (position_on (flipped b)) b.combined b.pinned b.checkers w.clean w.union

-- what is said by the first side, or, where it has something to give, x
abbrev pub or_else : Result Bool Refusal → Said → Said
or_else (Ok true) x = told (1 ∷ [])
or_else (Err why) x = refusal why
or_else (Ok false) x = x

sides_by : (fits none : Bool) (x : Said) (r : Result Bool Refusal) → limited_says r ≡ behind ((fits else Full) ∷ []) (cond none (told (1 ∷ [])) (told (0 ∷ [])))
    → or_else r x ≡ behind ((fits else Full) ∷ []) (cond none (told (1 ∷ [])) x)
unfolding behind first_failing
sides_by false none x (Ok true) e = no_value e
sides_by false none x (Ok false) e = no_value e
sides_by false none x (Err why) e = e
sides_by true true x (Ok true) e = refl
sides_by true true x (Ok false) e = no_both (sym e)
sides_by true true x (Err why) e = no_value (sym e)
sides_by true false x (Ok true) e = no_both e
sides_by true false x (Ok false) e = refl
sides_by true false x (Err why) e = no_value (sym e)

pub side_then : (b : RetractableBoard) (x : Said) (r : Result Bool Refusal) → limited_says r ≡ side_of b (told (0 ∷ [])) → or_else r x ≡ side_of b x
unfolding side_of
side_then b x r e = sides_by (leb (length (pawnless_on b)) 47) (nothing_on b) x r e

-- behind the gate
module _ (b : RetractableBoard) (v : Verdict) (e : v ≡ gate_of b) where
  pub limited_refused : (why : Refusal) → v ≡ Err why → limited_says (Err why) ≡ limited_of b
  limited_refused why h = behind_by (Err why) (board_tests b) (limited_from b) (gate_refuses b v e why h)

  pub limited_on : (r : Result Bool Refusal) → v ≡ nothing_refused → limited_says r ≡ limited_from b → limited_says r ≡ limited_of b
  limited_on r h k = k ∙ behind_by nothing_refused (board_tests b) (limited_from b) (sym (gate_passes b v e h))
