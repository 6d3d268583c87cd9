-- What is known of a board that the gate lets pass: its men are clean, the position is accepted, and union, checkers and pins are the Laws'.
use mathlib.Core.Path.{◌≡◌, refl, sym, ap, ◌∙◌}
use mathlib.Core.Bool.{true, not}
use Prim.Native.Nat.{ℕ, ◌<◌}
use lib.Dec.{eqb, ltb}
use lib.ListN.{length}
use borrow.Author.Tests.{eqb-true, eq-eqb}
use Rattle.squares.specs.Tests.{◌and◌}
use Rattle.squares.specs.Squares.{has}
use Rattle.laws.specs.declared.Position.{Position}
use Rattle.laws.specs.declared.EnPassantFlag.{EnPassantFlag}
use Rattle.laws.specs.Men.{Man, empty, man, is_empty}
use Rattle.laws.specs.Attacks.{union_of, checkers_of, pins_of}
use Rattle.laws.specs.Acceptance.{kings_ok, pawns_ok, rights_ok, state_ok, quiet, accepted}
use Rattle.laws.specs.Boards.{men_ok, Clean, accepted_board}
use Rattle.refusal.specs.declared.Refusal.TheVariants.{Men as men, Kings as kings, Check as check, Stale, Source, Passant}
use Rattle.refusal.specs.Refusals.{verdict_number, unless, and_then, nothing_refused}
use Rattle.accept.specs.Verdicts.{first_refused, third_of, five_of, judged_of, raw_tests}
use Rattle.refusal.specs.Said.{first_failing}
use Rattle.board.specs.declared.RetractableBoard.{RetractableBoard}
use Rattle.board.specs.declared.Boarded.{Boarded}
use Rattle.board.specs.Gate.{position_on, men_on, pos_on, to_laws, fresh_on, gate_of, board_tests}
use Rattle.board.specs.inner.Gates.{Sound, new_of, ask_gate, kind_read, state_gate}
use Rattle.board.specs.Said.{Boards}
use Rattle.board.specs.Answers.{worked_of, ask_tests, kind_on, state_tests}
use Rattle.squares.proofs.Comprehension.{has_set_of}
use Rattle.squares.proofs.Testing.{both, left, right, agree, agree_eq}
use Rattle.laws.proofs.Cases.{by_cases}
use Rattle.laws.proofs.Cleaning.{Bounded, clean}
use Rattle.laws.proofs.Facts.{accepts}
use Rattle.laws.proofs.Passes.{Passes}
use Rattle.incremental.proofs.Ways.{piece_read}
use Rattle.refusal.proofs.Saying.{then_number, both_accept, test_passes}
use Rattle.accept.proofs.Numbered.{judged_number, Five, five_passes, judged_passes}
use Rattle.board.proofs.Saying.{boards_by, boards_is}

-- a position that passes 1 to 5, and one that passes 1 to 6: its arrays are clean
module _ (p : Position) (six : length p.pieces ≡ 6) (two : length p.colors ≡ 2) (kinds : Bounded p.pieces) (colours : Bounded p.colors) where
  sound_by : Five p → Sound p
  sound_by f = record { clean = clean p.pieces p.colors six two kinds colours f.men_pass; kings = f.passes.kings }

  pub five_sound : five_of p ≡ nothing_refused → Sound p
  five_sound h = sound_by (five_passes p h)

  pub judged_sound : judged_of p ≡ nothing_refused → Sound p
  judged_sound h = sound_by (judged_passes p h).0

-- what raw men answer, by the verdict
pub new_boards : (p : Position) → Boards (raw_tests p) (worked_of p) (new_of p)
new_boards p = boards_by (judged_of p) (raw_tests p) (worked_of p) (judged_number p)

pub new_is : (p : Position) (r : Boarded) → Boards (raw_tests p) (worked_of p) r → r ≡ new_of p
new_is p = boards_is (judged_of p) (raw_tests p) (worked_of p) (judged_number p)

-- a board that passes 1 to 7
pub gate_judged : (b : RetractableBoard) → gate_of b ≡ nothing_refused → judged_of (position_on b) ≡ nothing_refused
unfolding gate_of
gate_judged b h = (both_accept (judged_of (position_on b)) (unless (fresh_on b) Stale nothing_refused) h).0

pub gate_sound : (b : RetractableBoard) → length b.pieces ≡ 6 → length b.colors ≡ 2 → Bounded b.pieces → Bounded b.colors → gate_of b ≡ nothing_refused → Sound (position_on b)
gate_sound b six two bp bc h = judged_sound (position_on b) six two bp bc (gate_judged b h)

pub record Passed (b : RetractableBoard) : Type 0 where
  pub men_agree : men_ok b.pieces b.colors ≡ true
  pub lawful : accepted (pos_on b) ≡ true
  pub union_is : b.combined ≡ union_of (men_on b)
  pub checkers_are : b.checkers ≡ checkers_of (men_on b) b.turn
  pub pins_are : b.pinned ≡ pins_of (men_on b) b.turn

pub gate_passed : (b : RetractableBoard) → gate_of b ≡ nothing_refused → Passed b
unfolding gate_of fresh_on
gate_passed b h = record {
  men_agree = j.0.men_pass;
  lawful = both (both (both (both five.kings five.pawns) five.rights) five.state) j.1;
  union_is = eqb-true _ _ (left _ _ (left _ _ fresh));
  checkers_are = eqb-true _ _ (right _ _ (left _ _ fresh));
  pins_are = eqb-true _ _ (right _ _ fresh);
}
  where
    j : Five (position_on b) × (quiet (men_on b) b.turn ≡ true)
    j = judged_passes (position_on b) (gate_judged b h)

    five : Passes (pos_on b)
    five = j.0.passes

    fresh : fresh_on b ≡ true
    fresh = (test_passes (fresh_on b) Stale nothing_refused (both_accept (judged_of (position_on b)) (unless (fresh_on b) Stale nothing_refused) h).1).0

-- the Laws' record of a board is accepted exactly when the gate lets the board pass
pub gate_by : (b : RetractableBoard) → accepted_board (to_laws b) ≡ true → gate_of b ≡ nothing_refused
unfolding gate_of judged_of five_of third_of fresh_on
gate_by b h =
    let a = accepts (pos_on b) (right _ _ (left _ _ h)) in rw (left _ _ (left _ _ h), a.kings, a.pawns, a.rights, a.state, a.calm, right _ _ h)

pub accepted_by_gate : (b : RetractableBoard) → gate_of b ≡ nothing_refused → accepted_board (to_laws b) ≡ true
accepted_by_gate b h =
    let p : Passed b = gate_passed b h in both (both p.men_agree p.lawful) (both (both (eq-eqb _ _ p.union_is) (eq-eqb _ _ p.checkers_are)) (eq-eqb _ _ p.pins_are))

-- it is worked out from its own fields
pub worked_whole : (b : RetractableBoard) → gate_of b ≡ nothing_refused → worked_of (position_on b) ≡ b
worked_whole b h =
    let p = gate_passed b h in
    λ i. record {
      pieces = b.pieces;
      colors = b.colors;
      combined = sym p.union_is i;
      turn = b.turn;
      white = b.white;
      black = b.black;
      pinned = sym p.pins_are i;
      checkers = sym p.checkers_are i;
      passant = b.passant;
      terms = b.terms;
    }

-- the number of the gate's verdict is that of the first test that fails
pub gate_number : (b : RetractableBoard) → verdict_number (gate_of b) ≡ first_failing (board_tests b)
unfolding gate_of
gate_number b = then_number (judged_of (position_on b)) (raw_tests (position_on b)) (fresh_on b) Stale (judged_number (position_on b))

pub ask_number : (b : RetractableBoard) (sq : ℕ) → verdict_number (ask_gate b sq) ≡ first_failing (ask_tests b sq)
ask_number b sq = then_number (gate_of b) (board_tests b) (ltb sq 64) Source (gate_number b)

pub state_number : (b : RetractableBoard) (st : EnPassantFlag) → verdict_number (state_gate b st) ≡ first_failing (state_tests b st)
state_number b st = then_number (gate_of b) (board_tests b) (state_ok b.terms.edition (men_on b) b.turn st) Passant (gate_number b)

-- a square that may be asked about
pub ask_accepted : (b : RetractableBoard) (sq : ℕ) → ask_gate b sq ≡ nothing_refused → (gate_of b ≡ nothing_refused) × (ltb sq 64 ≡ true)
ask_accepted b sq h =
    let k = both_accept (gate_of b) (unless (ltb sq 64) Source nothing_refused) h in
    (k.0, (test_passes (ltb sq 64) Source nothing_refused k.1).0)

-- 7 is given exactly when 1 to 6 pass and union, checkers or pins are not those of the men
pub stale_exactly : (b : RetractableBoard)
    → eqb (verdict_number (gate_of b)) 7 ≡ (men_ok b.pieces b.colors and accepted (pos_on b) and not (fresh_on b))
unfolding gate_of judged_of five_of third_of ◌and◌
stale_exactly b =
    agree_eq _ _ (by_cases 7
    (λ m k p r s q f. agree (eqb (verdict_number (and_then (and_then (unless m men (unless k kings (first_refused (not p) (not r) (not s)))) (unless q check nothing_refused)) (unless f Stale nothing_refused))) 7)
    (m and (k and p and r and s and q) and not f)) refl
    (men_ok b.pieces b.colors) (kings_ok (men_on b)) (pawns_ok (men_on b)) (rights_ok (men_on b) (pos_on b).rights) (state_ok b.terms.edition (men_on b) b.turn b.passant) (quiet (men_on b) b.turn) (fresh_on b))

-- the kind as the sets have it
pub kind_read_lem : (b : RetractableBoard) (sq : ℕ) → Clean b.pieces b.colors → gate_of b ≡ nothing_refused → sq < 64 → kind_read b sq ≡ kind_on (men_on b sq)
kind_read_lem b sq ok h l = go (men_on b sq) refl
  where
    stands : has b.combined sq ≡ not (is_empty (men_on b sq))
    stands = ap (λ (x : ℕ). has x sq) (gate_passed b h).union_is ∙ has_set_of (λ k. not (is_empty (men_on b k))) sq l

    go : (x : Man) → men_on b sq ≡ x → kind_read b sq ≡ kind_on x
    go empty e = rw (stands, e)
    go (man c k) e = rw (stands, e, piece_read (to_laws b) sq c k ok l e)
