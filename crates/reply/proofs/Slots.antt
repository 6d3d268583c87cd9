-- The program's slots: whether a list has room in them, and where it is found again.
use mathlib.Core.Path.{◌≡◌, sym, ap, ◌∙◌}
use mathlib.Core.List.{List, ◌++◌, map}
use Prim.Native.Nat.{ℕ, ◌≤◌, ◌<◌}
use native.Mathlib.Omega.{arith}
use borrow.Author.Tests.{leb-true, le-leb, lt-leb}
use lib.Dec.{leb}
use lib.ListN.{length, take, drop, length-append, length-map}
use lib.Seq.{take_at}
use Rattle.laws.specs.declared.ChessRetraction.{ChessRetraction}
use Rattle.laws.specs.Retractions.{packed}
use Rattle.refusal.specs.declared.Refusal.TheVariants.{Room}
use Rattle.refusal.specs.Refusals.{number_of, nothing_refused}
use Rattle.refusal.specs.Said.{Test, first_failing}
use Rattle.board.specs.declared.RetractableBoard.{RetractableBoard}
use Rattle.board.specs.Gate.{gate_of, board_tests}
use Rattle.retraction_gen.specs.Making.{list_on, full_test, list_tests}
use Rattle.retraction_gen.specs.Sequence.{sequence_on}
use Rattle.reply.specs.Replies.{room_test, listed_tests}
use Rattle.refusal.proofs.Tested.{pass_on, none_fails, last_passes}
use Rattle.refusal.proofs.Writing.{Written}
use Rattle.board.proofs.Numbers.{passed_gate}

-- the last test, behind those that pass
module _ (ts : List Test) (l : List ChessRetraction) (s : List ℕ) (passed : first_failing ts ≡ 0) (size : length s ≡ 8192) where
  pub roomy : length (map packed l) ≤ length s → first_failing (ts ++ room_test l) ≡ 0
  unfolding first_failing
  roomy h = sym (pass_on ts (room_test l) passed) ∙ rw (le-leb (length l) 8192 (omega (arith, length-map l packed)))

  pub roomless : length s < length (map packed l) → number_of Room ≡ first_failing (ts ++ room_test l)
  unfolding first_failing
  roomless h = sym (rw (lt-leb (length l) 8192 (omega (arith, length-map l packed)))) ∙ pass_on ts (room_test l) passed

-- a board that passes the tests of its ported list
module _ (b : RetractableBoard) (h : first_failing (listed_tests b) ≡ 0) where
  passed : (first_failing (list_tests b) ≡ 0) × (first_failing (room_test (sequence_on b)) ≡ 0)
  passed = none_fails (list_tests b) (room_test (sequence_on b)) h

  pub passed_board : gate_of b ≡ nothing_refused
  passed_board = passed_gate b (none_fails (board_tests b) (full_test (list_on b)) passed.0).0

  pub passed_room : length (map packed (sequence_on b)) ≤ 8192
  passed_room = omega (arith, length-map (sequence_on b) packed, leb-true (length (sequence_on b)) 8192 (last_passes (leb (length (sequence_on b)) 8192) Room passed.1))

-- what was written stands in the first n slots
module _ {ts : List Test} {t s : List ℕ} {n : ℕ} {after : List ℕ} (w : Written ts t s n after) where
  pub written_is : take n after ≡ t
  written_is = ap (take n) w.holds ∙ take_at t (drop (length t) s) n (sym w.size)

  pub written_within : n ≤ length after
  written_within = omega (arith, ap length w.holds, length-append t (drop (length t) s), w.size)
