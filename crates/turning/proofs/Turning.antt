-- Turning refuses no board, and loses no last move: of every board that passes 1 to 7, both ways.
use mathlib.Core.Path.{◌≡◌, refl, subst}
use mathlib.Core.Bool.{true}
use Prim.Native.Nat.{ℕ, ◌<◌}
use lib.ListN.{length}
use Rattle.laws.specs.declared.EnPassantFlag.{EnPassantFlag}
use Rattle.laws.specs.declared.EnPassantFlag.TheVariants.{Some}
use Rattle.laws.specs.declared.ChessRetraction.{ChessRetraction}
use Rattle.laws.specs.Acceptance.{state_ok}
use Rattle.laws.specs.Boards.{BoardPast}
use Rattle.refusal.specs.declared.Refusal.TheVariants.{Stale}
use Rattle.refusal.specs.Refusals.{unless, nothing_refused}
use Rattle.accept.specs.Verdicts.{judged_of}
use Rattle.board.specs.declared.RetractableBoard.{RetractableBoard}
use Rattle.board.specs.Gate.{to_laws, position_on, men_on, pos_on, fresh_on, gate_of}
use Rattle.turning.specs.Turned.{turned_on}
use Rattle.turning.specs.inner.Named.{Turns}
use Rattle.laws.proofs.Cleaning.{Bounded}
use Rattle.laws.proofs.Facts.{Accepts, accepts, names}
use Rattle.laws.proofs.Passes.{passes_of}
use Rattle.laws.proofs.Turning.{turned_accepted, board_past_kept}
use Rattle.refusal.proofs.Saying.{both_accept, test_passes}
use Rattle.accept.proofs.Numbered.{five_accepts}
use Rattle.board.proofs.Passing.{gate_sound, gate_passed}

module _ (b : RetractableBoard) (h : gate_of b ≡ nothing_refused) where
  -- what turning asks of a position, a board that passes has
  pub turns : length b.pieces ≡ 6 → length b.colors ≡ 2 → Bounded b.pieces → Bounded b.colors → Turns (position_on b)
  turns six two bp bc = record {
    sound = (gate_sound b six two bp bc h).clean;
    named = λ q e.
        (names b.terms.edition (men_on b) b.turn q
        (subst (λ (st : EnPassantFlag). state_ok b.terms.edition (men_on b) b.turn st ≡ true) e (accepts (pos_on b) (gate_passed b h).lawful).state)).on_board;
  }

  turned : Accepts (pos_on (turned_on b))
  turned = accepts (pos_on (turned_on b)) (turned_accepted (pos_on b) (gate_passed b h).lawful)

  turned_judged : judged_of (position_on (turned_on b)) ≡ nothing_refused
  unfolding judged_of
  turned_judged = rw (five_accepts (position_on (turned_on b)) (record { men_pass = (gate_passed b h).men_agree; passes = passes_of (pos_on (turned_on b)) turned }), turned.calm)

  fresh : fresh_on b ≡ true
  unfolding gate_of
  fresh = (test_passes (fresh_on b) Stale nothing_refused (both_accept (judged_of (position_on b)) (unless (fresh_on b) Stale nothing_refused) h).1).0

  -- the turned board passes 1 to 7 in its edition
  pub turned_passes : gate_of (turned_on b) ≡ nothing_refused
  unfolding gate_of fresh_on
  turned_passes = rw (turned_judged, fresh)

  -- a retraction with a past has one on the turned board
  pub past_turned : (r : ChessRetraction) → BoardPast (to_laws b) r → BoardPast (to_laws (turned_on b)) r
  past_turned r k = board_past_kept (to_laws b) (to_laws (turned_on b)) r refl (gate_passed b h).lawful k
