-- Pressing until the end yields the whole sequence, and then the end again and again, the record unchanged.
use mathlib.Core.Path.{◌≡◌, refl, sym, ap, ap₂, ◌∙◌, subst}
use mathlib.Core.List.{List, [], ◌∷◌}
use lib.ListN.{length}
use Rattle.board.specs.declared.RetractableBoard.{RetractableBoard}
use Rattle.laws.specs.declared.ChessRetraction.{ChessRetraction}
use Rattle.retraction_gen.specs.declared.RetractionGen.{RetractionGen}
use Rattle.retraction_gen.specs.Making.{list_tests, cursor_on, Makes}
use Rattle.retraction_gen.specs.Cursors.{end_said, Answered, next_of}
use Rattle.retraction_gen.specs.Sequence.{sequence_on, Yields}
use Rattle.retraction_gen.proofs.Stepping.{next_one}
use Rattle.retraction_gen.proofs.Whole.{whole_sequence}
use Rattle.stepping.specs.Presses.{Press, Presses, answers_of}
use Rattle.stepping.proofs.Resting.{ended_rests}
use Rattle.std.specs.Prelude.{Option, None, Some, Ok}

-- a record that a press leaves which yields the end is at the end
pub still_ended : (g h : RetractionGen) → Yields g [] → h ≡ (next_of g).cursor → ((next_of h).said ≡ end_said) × ((next_of h).cursor ≡ h)
unfolding Yields
still_ended g h y e =
    let k = ended_rests g y in
    subst (λ (x : RetractionGen). ((next_of x).said ≡ end_said) × ((next_of x).cursor ≡ x)) (sym e)
    (ap (λ (x : Answered). x.said) k, ap (λ (x : Answered). x.cursor) k)

-- any presses of a cursor that yields a list
pub presses_yield : (g k : RetractionGen) (l : List ChessRetraction) (xs : List (Option ChessRetraction)) → Yields g l → Presses g xs k → xs ≡ answers_of (length xs) l
unfolding Yields answers_of Presses
presses_yield g k l [] y p = refl
presses_yield g k [] (a ∷ xs) y (h, s, p) =
    ap₂ ◌∷◌ (next_one a None (s.answer ∙ y)) (presses_yield h k [] xs (still_ended g h y s.cursor).0 p)
presses_yield g k (r ∷ rs) (a ∷ xs) y (h, s, p) =
    ap₂ ◌∷◌ (next_one a (Some r) (s.answer ∙ y.0)) (presses_yield h k rs xs (subst (λ (x : RetractionGen). Yields x rs) (sym s.cursor) y.1) p)

stays : (h k : RetractionGen) (xs : List (Option ChessRetraction)) → ((next_of h).said ≡ end_said) × ((next_of h).cursor ≡ h) → Presses h xs k → k ≡ h
unfolding Presses
stays h k [] e p = p
stays h k (a ∷ xs) e (x, s, p) =
    let same : x ≡ h = s.cursor ∙ e.1 in
    stays x k xs (subst (λ (z : RetractionGen). ((next_of z).said ≡ end_said) × ((next_of z).cursor ≡ z)) (sym same) e) p ∙ same

-- whatever the record held: once a press has yielded the end, each further one yields it, and the record stays as it is
pub presses_rest : (g h k : RetractionGen) (xs : List (Option ChessRetraction)) → Press g None h → Presses h xs k
    → (xs ≡ answers_of (length xs) []) × (k ≡ h)
unfolding Yields
presses_rest g h k xs s p =
    let y : Yields g [] = sym s.answer in
    (presses_yield h k [] xs (still_ended g h y s.cursor).0 p, stays h k xs (still_ended g h y s.cursor) p)

-- from `new_legal`, whatever it answers: n presses yield the first n of the board's sequence, and the end behind them
pub whole_pressed : (b : RetractableBoard) (g : RetractionGen) → Makes (list_tests b) (cursor_on b) (Ok g) → (k : RetractionGen) (xs : List (Option ChessRetraction))
    → Presses g xs k → xs ≡ answers_of (length xs) (sequence_on b)
whole_pressed b g made k xs p = presses_yield g k (sequence_on b) xs (whole_sequence b g made) p
