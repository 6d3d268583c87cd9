-- What the reader makes of its parts, by which the code comes to what `Reads` says.
use Rattle.std.specs.Prelude.{cond, ℕ, ltb, Ok, Err, Result}
use Rattle.laws.specs.declared.EnPassantFlag.{EnPassantFlag}
use Rattle.laws.specs.declared.Position.{Position}
use Rattle.record_fields.specs.Counters.{in_range}
use Rattle.record_fields.specs.Passed.{passed_state, is_known}
use Rattle.record_fields.specs.inner.Pawns.{pawn_state}
use Rattle.refusal.specs.declared.Refusal.TheVariants.{Text}
use Rattle.board.specs.declared.RetractableBoard.{RetractableBoard}
use Rattle.board.specs.inner.Gates.{new_of}
use Rattle.position_text.specs.declared.Form.{Form}
use Rattle.position_text.specs.declared.Form.TheVariants.{InForm, OutOfForm}
use Rattle.position_text.specs.declared.Raw.{Raw}
use Rattle.records.specs.declared.Why.{Why}
use Rattle.records.specs.declared.Why.TheVariants.{Base, Counter}
use Rattle.records.specs.declared.Record.{Record}
use Rattle.records.specs.Entries.{taken}
use Rattle.refusal.specs.Refusals.{Verdict}

-- a position with another state
abbrev pub with_state : Position → EnPassantFlag → Position
with_state p e = record { pieces = p.pieces; colors = p.colors; turn = p.turn; white = p.white; black = p.black; passant = e; terms = p.terms }

-- the square passed over for the pawn's own
abbrev pub passed_fields : Position → Position
passed_fields p = with_state p (passed_state p.passant)

-- the verdict on the position
abbrev pub recorded_by : Verdict → RetractableBoard → ℕ → ℕ → Result Record Why
recorded_by (Ok _) b h n = taken b h n
recorded_by (Err r) b h n = Err (Base r)

-- 15, then 1 to 6
abbrev pub record_said : Position → ℕ → ℕ → Result Record Why
record_said f h n = cond (in_range h n) (recorded_by (new_of f).verdict (new_of f).board h n) (Err Counter)

-- 14 first, where the state is unknown
abbrev pub known_said : Position → ℕ → ℕ → Result Record Why
known_said f h n = cond (is_known f.passant) (record_said f h n) (Err (Base Text))

abbrev pub answer_by : Form → Position → ℕ → ℕ → Result Record Why
answer_by OutOfForm p h n = Err (Base Text)
answer_by InForm p h n = known_said (with_state p (pawn_state p.passant)) h n

-- and before that, where the form or a counter is not one
abbrev pub answer_of : Raw → ℕ → ℕ → Result Record Why
answer_of raw h n = cond (ltb 10000 h) (Err (Base Text)) (cond (ltb 10000 n) (Err (Base Text)) (answer_by raw.form raw.position h n))
