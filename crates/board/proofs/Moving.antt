-- Un-make and replay of a board: their numbers; the board whose own sets went back is the un-made one, which passes 1 to 5 and 7; and replay
-- after un-make gives back the board but for its en passant state.
use mathlib.Core.Path.{◌≡◌, refl, sym, ap, ◌∙◌, subst}
use mathlib.Core.Bool.{Bool, true, false, not, cond}
use mathlib.Core.List.{[], ◌∷◌, ◌++◌}
use Prim.Native.Nat.{ℕ, ◌<◌}
use borrow.Author.Tests.{eq-eqb}
use Rattle.laws.specs.declared.ChessRetraction.{ChessRetraction}
use Rattle.laws.specs.declared.EnPassantFlag.{EnPassantFlag}
use Rattle.laws.specs.declared.Board.{Board}
use Rattle.laws.specs.Men.{Men}
use Rattle.laws.specs.Attacks.{union_of, checkers_of, pins_of}
use Rattle.laws.specs.Positions.{Pos}
use Rattle.laws.specs.Acceptance.{kings_ok, accepted}
use Rattle.laws.specs.Unmaking.{unmade}
use Rattle.laws.specs.Boards.{men_at, men_in, pos_at, kind_sets, color_sets, Clean, fields_of, pos_of, board_of}
use Rattle.refusal.specs.declared.Refusal.TheVariants.{Stale, Source, Target, Held, Step}
use Rattle.refusal.specs.Refusals.{verdict_number, unless, and_then, nothing_refused}
use Rattle.accept.specs.Verdicts.{five_of, five_tests}
use Rattle.refusal.specs.Said.{◌else◌, first_failing}
use Rattle.laws.specs.declared.Position.{Position}
use Rattle.position.specs.Answers.{position_of, answered, refused}
use Rattle.moves.specs.Stepping.{possible_for}
use Rattle.position.specs.declared.Positioned.{Positioned}
use Rattle.unmake.specs.Retracted.{source_for, target_for, held_for, step_for, unmade_for, stepped_to, unmade_to}
use Rattle.replay.specs.Replayed.{replayed_for, replay_to}
use Rattle.incremental.specs.Moved.{rust_moved}
use Rattle.incremental.specs.Found.{found_stored, rust_unmade}
use Rattle.board.specs.declared.RetractableBoard.{RetractableBoard}
use Rattle.board.specs.Gate.{position_on, pos_on, to_laws, fresh_on, gate_of, board_tests, position_from, boarded_by}
use Rattle.board.specs.inner.Gates.{Sound, Kept, boarded_of, unmake_gate, replay_gate, replayed_board}
use Rattle.board.specs.Answers.{worked_of, with_passant}
use Rattle.board.specs.Moving.{unmake_tests, unmade_on, earlier_tests, replay_tests, replayed_on}
use Rattle.squares.proofs.Testing.{both}
use Rattle.laws.proofs.Cleaning.{clean}
use Rattle.laws.proofs.Facts.{accepts}
use Rattle.laws.proofs.Retracting.{kind_today, can_retract, back}
use Rattle.laws.proofs.Onwards.{kings_on}
use Rattle.incremental.proofs.SameMoved.{moved_same}
use Rattle.incremental.proofs.SameBoard.{clean_same}
use Rattle.refusal.proofs.Saying.{then_numbers, then_number, both_accept, test_passes}
use Rattle.accept.proofs.Numbered.{five_number, Five, five_passes, five_accepts}
use Rattle.unmake.proofs.Returned.{accepted_can, answer_is, unmade_shown, unmade_clean, unmade_men, unmade_lawful}
use Rattle.replay.proofs.Returning.{replayed_shown, replayed_clean, answer_forward, Returns, unmake_replay}
use Rattle.board.proofs.Passing.{gate_number, gate_passed, worked_whole}

pub replay_five : (b : RetractableBoard) → replay_gate b ≡ nothing_refused → five_of (position_on b) ≡ nothing_refused
unfolding replay_gate
replay_five b h = (both_accept (five_of (position_on b)) (unless (fresh_on b) Stale nothing_refused) h).0

-- boards of the same fields
laws_one : (x y : RetractableBoard) → to_laws x ≡ to_laws y → x ≡ y
laws_one x y e =
    λ i. record {
      pieces = (e i).pieces;
      colors = (e i).colors;
      combined = (e i).combined;
      turn = (e i).turn;
      white = (e i).white;
      black = (e i).black;
      pinned = (e i).pinned;
      checkers = (e i).checkers;
      passant = (e i).passant;
      terms = (e i).terms;
    }

module _ (b : RetractableBoard) (r : ChessRetraction) (h : gate_of b ≡ nothing_refused) where
  lawful : accepted (pos_at (position_on b)) ≡ true
  lawful = (gate_passed b h).lawful

  module _ (done : (unmade_to (pos_on b) r).verdict ≡ nothing_refused) where
    can : can_retract (pos_on b) r ≡ true
    can = accepted_can (pos_on b) r done

    is : unmade_to (pos_on b) r ≡ answered (unmade_for (pos_on b) r)
    is = answer_is (pos_on b) r can

    five : Five (unmade_for (pos_on b) r)
    five = record { men_pass = unmade_men (position_on b) r can; passes = unmade_lawful (position_on b) r can lawful }

    pub source_on : r.source < 64
    source_on = (back (pos_on b) r can).can.source_in

    shown : men_at (unmade_for (pos_on b) r).pieces (unmade_for (pos_on b) r).colors ≡ (unmade (pos_on b) r).men
    shown = ap (λ (q : Pos). q.men) (unmade_shown (position_on b) r can)

    -- the board before the retraction has the fields of the Laws' one board of the un-made position
    worked_shown : to_laws (unmade_on b r) ≡ board_of (unmade (pos_on b) r)
    unfolding unmade_for position_of
    worked_shown =
        ap (λ (m : Men). record {
          pieces = kind_sets (unmade (pos_on b) r).men;
          colors = color_sets (unmade (pos_on b) r).men;
          combined = union_of m;
          turn = (unmade_for (pos_on b) r).turn;
          white = (unmade_for (pos_on b) r).white;
          black = (unmade_for (pos_on b) r).black;
          pinned = pins_of m (unmade_for (pos_on b) r).turn;
          checkers = checkers_of m (unmade_for (pos_on b) r).turn;
          passant = (unmade_for (pos_on b) r).passant;
          terms = (unmade_for (pos_on b) r).terms;
        }) shown

    module _ (ok : Clean b.pieces b.colors) where
      -- it is what the Rust's `make_retraction_new` answers, whole
      pub unmade_rust : to_laws (unmade_on b r) ≡ rust_unmade (to_laws b) r
      unmade_rust = worked_shown ∙ sym (clean_same (to_laws b) r ok (gate_passed b h).union_is lawful can)

      -- a board whose sets went back by the Rust's statements
      module _ (z : Board) (e : z ≡ rust_moved (to_laws b) r) where
        moved_to : z ≡ found_stored (board_of (unmade (pos_on b) r)) 0 0
        moved_to = e ∙ moved_same (to_laws b) r ok (gate_passed b h).union_is lawful can

        -- its men are clean and have their kings
        pub moved_sound : Sound (fields_of z)
        unfolding found_stored unmade_for position_of
        moved_sound =
            subst (λ (x : Board). Sound (fields_of x)) (sym moved_to) (record { clean = unmade_clean (position_on b) r can; kings = five.passes.kings })

        -- with checkers and pins worked afresh it is the board before the retraction
        pub searched_is : (x : RetractableBoard) → to_laws x ≡ found_stored z (checkers_of (pos_of z).men z.turn) (pins_of (pos_of z).men z.turn) → x ≡ unmade_on b r
        unfolding found_stored unmade_for position_of
        searched_is x f =
            laws_one x (unmade_on b r)
            (f
            ∙ ap (λ (y : Board). found_stored y (checkers_of (pos_of y).men y.turn) (pins_of (pos_of y).men y.turn)) moved_to
            ∙ ap (λ (m : Men). found_stored (board_of (unmade (pos_on b) r)) (checkers_of m (unmade (pos_on b) r).turn) (pins_of m (unmade (pos_on b) r).turn)) shown
            ∙ sym worked_shown)

-- replay answers only a possible move
did : (p : Pos) (r : ChessRetraction) (k : ℕ) → (replay_to p r k).verdict ≡ nothing_refused → possible_for p r k ≡ true
unfolding replay_to
did p r k = go (possible_for p r k)
  where
    go : (t : Bool) → (cond t (answered (replayed_for p r k)) (refused Step)).verdict ≡ nothing_refused → t ≡ true
    go true e = refl
    go false e = (test_passes false Step nothing_refused e).0

pub replayed_sound : (b : RetractableBoard) (r : ChessRetraction) (k : ℕ) → Clean b.pieces b.colors → replay_gate b ≡ nothing_refused
    → Kept (replay_to (pos_on b) r k).verdict (replay_to (pos_on b) r k).position
unfolding possible_for
replayed_sound b r k ok h done =
    subst (λ (u : Positioned). Sound u.position) (sym (answer_forward (pos_on b) r k can)) (record {
      clean = replayed_clean (position_on b) r k ok can;
      kings = ap (λ (q : Pos). kings_ok q.men) (replayed_shown (position_on b) r k ok can) ∙ kings_on (pos_on b) r k (five_passes (position_on b) (replay_five b h)).passes can;
    })
  where
    can : possible_for (pos_on b) r k ≡ true
    can = did (pos_on b) r k done

-- a worked-out board is fresh
pub fresh_worked : (q : Position) → fresh_on (worked_of q) ≡ true
unfolding fresh_on
fresh_worked q =
    let m : Men = men_in q in
    both (both (eq-eqb (union_of m) (union_of m) refl) (eq-eqb (checkers_of m q.turn) (checkers_of m q.turn) refl)) (eq-eqb (pins_of m q.turn) (pins_of m q.turn) refl)

-- the numbers of un-make and of replay are those of the first test that fails
pub answer_number : (p : Pos) (r : ChessRetraction) → verdict_number (unmade_to p r).verdict ≡ first_failing (unmake_tests p r)
unfolding unmade_to stepped_to first_failing
answer_number p r = go (source_for p r) (target_for p r) (held_for p r) (step_for p r)
  where
    go : (s t h k : Bool)
        → verdict_number (cond s (cond t (cond h (refused Held) (cond k (answered (unmade_for p r)) (refused Step))) (refused Target)) (refused Source)).verdict
        ≡ first_failing ((s else Source) ∷ (t else Target) ∷ (not h else Held) ∷ (k else Step) ∷ [])
    go false t h k = refl
    go true false h k = refl
    go true true true k = refl
    go true true false false = refl
    go true true false true = refl

pub unmake_number : (b : RetractableBoard) (r : ChessRetraction) → verdict_number (unmake_gate b r) ≡ first_failing (board_tests b ++ unmake_tests (pos_on b) r)
unmake_number b r = then_numbers (gate_of b) (unmade_to (pos_on b) r).verdict (board_tests b) (unmake_tests (pos_on b) r) (gate_number b) (answer_number (pos_on b) r)

earlier_number : (b : RetractableBoard) → verdict_number (replay_gate b) ≡ first_failing (earlier_tests b)
unfolding replay_gate
earlier_number b = then_number (five_of (position_on b)) (five_tests (position_on b)) (fresh_on b) Stale (five_number (position_on b))

pub replay_number : (b : RetractableBoard) (r : ChessRetraction) (k : ℕ)
    → verdict_number (and_then (replay_gate b) (unless (possible_for (pos_on b) r k) Step nothing_refused)) ≡ first_failing (replay_tests b r k)
replay_number b r k = then_number (replay_gate b) (earlier_tests b) (possible_for (pos_on b) r k) Step (earlier_number b)

-- the answer of replay, with what the gate says
pub replayed_is : (b : RetractableBoard) (r : ChessRetraction) (k : ℕ) → replay_gate b ≡ nothing_refused → boarded_of (replay_to (pos_on b) r k) ≡ replayed_board b r k
unfolding boarded_of replay_to
replayed_is b r k h = rw h (go (possible_for (pos_on b) r k))
  where
    go : (t : Bool)
        → boarded_by (cond t (answered (replayed_for (pos_on b) r k)) (refused Step)).verdict (worked_of (cond t (answered (replayed_for (pos_on b) r k)) (refused Step)).position)
        ≡ boarded_by (unless t Step nothing_refused) (replayed_on b r k)
    go true = refl
    go false = refl

-- the board before a retraction
module _ (b : RetractableBoard) (r : ChessRetraction) (ok : Clean b.pieces b.colors) (h : gate_of b ≡ nothing_refused) (done : (unmade_to (pos_on b) r).verdict ≡ nothing_refused) where
  -- "the un-made board fails none of 1 to 5 and 7"
  pub unmade_passes_on : replay_gate (unmade_on b r) ≡ nothing_refused
  unfolding replay_gate
  unmade_passes_on = rw (five_accepts (unmade_for (pos_on b) r) (five b r h done), fresh_worked (unmade_for (pos_on b) r))

  returned : Returns (position_on b) (replay_to (pos_at (unmade_to (pos_on b) r).position) r (kind_today (pos_on b) r))
  returned = unmake_replay (position_on b) r ok (accepts (pos_on b) (gate_passed b h).lawful).rights done

  -- "replay after un-make gives back every square, the rights and the turn": the whole board but for its state
  pub replay_gives_back : (st : EnPassantFlag) × (replayed_board (unmade_on b r) r (kind_today (pos_on b) r) ≡ record { verdict = nothing_refused; board = with_passant b st })
  unfolding boarded_of
  replay_gives_back = (
    u.position.passant,
    sym (replayed_is (unmade_on b r) r (kind_today (pos_on b) r) unmade_passes_on)
        ∙ ap (λ (z : Positioned). boarded_of (replay_to (pos_at z.position) r (kind_today (pos_on b) r))) (sym (is b r h done))
        ∙ (λ i. boarded_by (returned.verdict_back i)
        (worked_of (record {
          pieces = returned.pieces_back i;
          colors = returned.colors_back i;
          turn = returned.turn_back i;
          white = returned.white_back i;
          black = returned.black_back i;
          passant = u.position.passant;
          terms = returned.terms_back i;
        })))
        ∙ ap (λ (x : RetractableBoard). record { verdict = nothing_refused; board = with_passant x u.position.passant }) (worked_whole b h),
  )
    where
      u : Positioned
      u = replay_to (pos_at (unmade_to (pos_on b) r).position) r (kind_today (pos_on b) r)
