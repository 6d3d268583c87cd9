-- The Laws' strict list is demand 3's list of a board, and the contracts of the entries follow from it.
use mathlib.Core.Path.{◌≡◌, refl, sym, ap, ap₂, ◌∙◌, subst}
use mathlib.Core.Logic.{◌↔◌}
use mathlib.Core.Bool.{Bool, true, false}
use lib.Dec.{ltb}
use borrow.Author.Tests.{ltb-true, ltb-false}
use mathlib.Core.List.{List, [], ◌∷◌, map}
use Prim.Native.Nat.{ℕ, zero, suc, ◌+◌, ◌*◌, ◌/◌, ◌%◌, ◌≤◌, ◌<◌}
use lib.Dec.{eqb}
use native.Mathlib.Omega.{arith}
use lib.ListN.{length}
use Rattle.laws.specs.declared.ChessRetraction.{ChessRetraction}
use Rattle.laws.specs.declared.Board.{Board}
use Rattle.laws.specs.Retractions.{packed}
use Rattle.laws.specs.Acceptance.{accepted}
use Rattle.laws.specs.Strictness.{strict}
use Rattle.squares.specs.Squares.{flag}
use Rattle.squares.specs.Members.{numbers_from}
use Rattle.laws.specs.StrictLists.{place, retraction_at, strict_places, Ascending, In, here}
use Rattle.laws.specs.Boards.{BoardPast}
use Rattle.refusal.specs.declared.Refusal.{Refusal}
use Rattle.refusal.specs.Refusals.{number_of, nothing_refused}
use Rattle.refusal.specs.Said.{first_failing, told, Writes}
use Rattle.board.specs.declared.RetractableBoard.{RetractableBoard}
use Rattle.board.specs.Gate.{pos_on, to_laws, gate_of, board_tests}
use Rattle.slots.specs.declared.Unlisted.{Unlisted}
use Rattle.slots.specs.Slots.{listed_says}
use Rattle.strict_search.specs.inner.Searching.{strict_moves, test_of, Next}
use Rattle.strict.specs.Demand.{Past, IsStrictList, Lists, Counts, Answers}
use Rattle.laws.proofs.StrictMembers.{map_in, in_map, in_passes, placed_place, strict_in, strict_order, strict_member}
use Rattle.laws.proofs.BoardPasts.{demand3}
use Rattle.refusal.proofs.Saying.{never, behind_by}
use Rattle.refusal.proofs.Writing.{no_both, writes_behind, writes_refused}
use Rattle.board.proofs.Passing.{gate_passed, gate_by, accepted_by_gate}
use Rattle.board.proofs.Numbers.{gate_refuses, gate_passes}
use Rattle.strict_search.proofs.Remaining.{rest, all_rest, at_end, one_more}
use Rattle.std.specs.Prelude.{Err, Ok, Result}
use Rattle.slots.specs.declared.Unlisted.TheVariants.{Refused as notListed}

abbrev from_laws : Board → RetractableBoard
from_laws e = record {
  pieces = e.pieces;
  colors = e.colors;
  combined = e.combined;
  turn = e.turn;
  white = e.white;
  black = e.black;
  pinned = e.pinned;
  checkers = e.checkers;
  passant = e.passant;
  terms = e.terms;
}

past_is : (b : RetractableBoard) (r : ChessRetraction) → BoardPast (to_laws b) r ↔ Past b r
past_is b r = (
  (λ q. (from_laws q.0, q.1, q.2, gate_by (from_laws q.0) q.3, q.4)),
  (λ q. (to_laws q.0, q.1, q.2, accepted_by_gate q.0 q.3, q.4)),
)

flag_is : (x : ℕ) → x < 2 → flag (eqb x 1) ≡ x
flag_is zero h = refl
flag_is (suc zero) h = refl
flag_is (suc (suc n)) h = absurd (omega arith)

pub place_placed : (j : ℕ) → j < 49152 → place (retraction_at j) ≡ j
place_placed j h =
    ap (λ (x : ℕ). j / 768 * 768 + (j / 12 % 64 * 12 + (j / 2 % 6 * 2 + x))) (flag_is (j % 2) (omega arith)) ∙ omega (arith, sixth, twelfth)
  where
    sixth : j / 2 % 6 + j / 12 * 6 ≡ j / 2
    sixth = omega arith

    twelfth : j / 12 % 64 + j / 768 * 64 ≡ j / 12
    twelfth = omega arith

places_back : (f : ℕ → Bool) (i n : ℕ) → i + n ≤ 49152 → map place (map retraction_at (numbers_from f i n)) ≡ numbers_from f i n
places_back f i zero h = refl
places_back f i (suc n) h = go (f i) (places_back f (suc i) n (omega arith))
  where
    go : (b : Bool) → map place (map retraction_at (numbers_from f (suc i) n)) ≡ numbers_from f (suc i) n
        → map place (map retraction_at (elim b as (λ _. List ℕ) [ true ↦ i ∷ numbers_from f (suc i) n | false ↦ numbers_from f (suc i) n ]))
        ≡ (elim b as (λ _. List ℕ) [ true ↦ i ∷ numbers_from f (suc i) n | false ↦ numbers_from f (suc i) n ])
    go true e = ap₂ (λ (x : ℕ) (l : List ℕ). x ∷ l) (place_placed i (omega arith)) e
    go false e = e

-- demand 3 of an accepted board
module _ (b : RetractableBoard) (h : gate_of b ≡ nothing_refused) where
  lawful : accepted (pos_on b) ≡ true
  lawful = (gate_passed b h).lawful

  -- a retraction is strict by the Laws' test exactly when it has a past
  pub strict_past : (r : ChessRetraction) → (strict (pos_on b) r ≡ true) ↔ Past b r
  strict_past r = ((λ z. (past_is b r).0 ((demand3 (to_laws b) r lawful).0 z)), (λ q. (demand3 (to_laws b) r lawful).1 ((past_is b r).1 q)))

  pub demanded : IsStrictList b (strict_moves (pos_on b))
  unfolding strict_moves
  demanded = record {
    members = λ r. (there_is r, back_is r);
    order = subst Ascending (sym (places_back (λ i. strict (pos_on b) (retraction_at i)) 0 49152 (omega arith))) (strict_order (pos_on b));
  }
    where
      there_is : (r : ChessRetraction) → In r (map retraction_at (strict_places (pos_on b))) → Past b r
      there_is r z =
          let q = in_map retraction_at (strict_places (pos_on b)) z in
          (strict_past r).0
          (subst (λ (x : ChessRetraction). strict (pos_on b) x ≡ true) (sym q.1) (in_passes (λ i. strict (pos_on b) (retraction_at i)) 0 49152 q.0 q.2).2)

      back_is : (r : ChessRetraction) → Past b r → In r (map retraction_at (strict_places (pos_on b)))
      back_is r q =
          let s : strict (pos_on b) r ≡ true = (strict_past r).1 q in
          let h = strict_in (pos_on b) r s in
          subst (λ (x : ChessRetraction). In x (map retraction_at (strict_places (pos_on b)))) (placed_place r h) (map_in retraction_at ((strict_member (pos_on b) r h).1 s))

-- a strict place is a last move, and where there is none there is no last move
module _ (b : RetractableBoard) (h : gate_of b ≡ nothing_refused) (j : ℕ) (x : Next (test_of (pos_on b)) 0 j) where
  whole : (l : List ChessRetraction) → rest (test_of (pos_on b)) 0 ≡ l → IsStrictList b l
  whole l e = subst (IsStrictList b) (all_rest (pos_on b) ∙ e) (demanded b h)

  zero_said : 0 ≡ first_failing (board_tests b)
  zero_said = sym (gate_passes b (gate_of b) refl h)

  pub answers_some : j < 49152 → Answers b (Ok true)
  answers_some l = record {
    number = zero_said;
    exists = λ _. ((λ _. (retraction_at j, past)), (λ _. refl));
    none = λ _. ((λ e. no_both e), (λ f. absurd (f (retraction_at j) past)));
  }
    where
      past : Past b (retraction_at j)
      past = ((whole _ (one_more _ _ _ x l)).members (retraction_at j)).0 here

  pub answers_none : 49152 ≤ j → Answers b (Ok false)
  answers_none f = record {
    number = zero_said;
    exists = λ _. ((λ e. no_both (sym e)), (λ q. absurd (no_past q.0 q.1)));
    none = λ _. ((λ _. no_past), (λ _. refl));
  }
    where
      end : j ≤ 49152 → 49152 ≤ j → j ≡ 49152
      end m n = omega arith

      no_past : (q : ChessRetraction) → Past b q → ⊥
      no_past q z = elim (((whole [] (at_end _ _ _ x (end x.skips.most f))).members q).1 z) [ ]

  pub answers_by : Answers b (Ok (ltb j 49152))
  answers_by = go (ltb j 49152) refl
    where
      go : (t : Bool) → ltb j 49152 ≡ t → Answers b (Ok t)
      go true e = answers_some (ltb-true _ _ e)
      go false e = answers_none (ltb-false _ _ e)

-- the answers behind the gate
module _ (b : RetractableBoard) where
  pub listed_told : {s after : List ℕ} (r : Result ℕ Unlisted) → gate_of b ≡ nothing_refused → Writes [] (map packed (strict_moves (pos_on b))) s (listed_says r) after → Lists b s r after
  listed_told r h e = record { moves = strict_moves (pos_on b); exact = demanded b; into = writes_behind (gate_passes b (gate_of b) refl h) e }

  pub counted_told : {n : ℕ} → gate_of b ≡ nothing_refused → n ≡ length (strict_moves (pos_on b)) → Counts b (Ok n)
  counted_told h e = record {
    moves = strict_moves (pos_on b);
    exact = demanded b;
    answer = ap (λ (k : ℕ). told (k ∷ [])) e ∙ behind_by nothing_refused (board_tests b) _ (sym (gate_passes b (gate_of b) refl h));
  }

  module _ (why : Refusal) (h : gate_of b ≡ Err why) where
    nothing_asked : gate_of b ≡ nothing_refused → IsStrictList b []
    nothing_asked a = absurd (never why (sym h ∙ a))

    number : number_of why ≡ first_failing (board_tests b)
    number = gate_refuses b (gate_of b) refl why h

    pub listed_refused : (s : List ℕ) → Lists b s (Err (notListed why)) s
    listed_refused s = record { moves = []; exact = nothing_asked; into = writes_refused why number }

    pub counted_refused : Counts b (Err why)
    counted_refused = record { moves = []; exact = nothing_asked; answer = behind_by (Err why) (board_tests b) (told (0 ∷ [])) number }

    pub answers_refused : Answers b (Err why)
    answers_refused = record { number = number; exists = λ a. absurd (never why (sym h ∙ a)); none = λ a. absurd (never why (sym h ∙ a)) }
