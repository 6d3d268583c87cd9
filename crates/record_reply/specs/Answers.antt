-- What is answered to a record that a person gives, and to a text that a person sends out.
use Rattle.std.specs.Prelude.{◌≡◌, cond, List, [], ◌∷◌, ◌++◌, ℕ, eqb, Result, Ok, Err}
use Rattle.laws.specs.declared.Edition.{Edition}
use Rattle.laws.specs.declared.Edition.TheVariants.{A, B}
use Rattle.refusal.specs.Refusals.{verdict_number}
use Rattle.board.specs.declared.RetractableBoard.{RetractableBoard}
use Rattle.board.specs.declared.Boarded.{Boarded}
use Rattle.text.specs.Entries.{Reads as ReadsText}
use Rattle.turning.specs.Turned.{turned_on}
use Rattle.record_fields.specs.Passed.{is_known}
use Rattle.records.specs.declared.Record.{Record}
use Rattle.records.specs.declared.Why.{Why}
use Rattle.records.specs.declared.Why.TheVariants.{Unknown}
use Rattle.records.specs.Entries.{why_number, Reads, record_on}
use Rattle.reply.specs.Replies.{newline, refused_text, Shows, AnswersBoard, listed_then}

-- "the caller chooses", and is told: `edition A` or `edition B`
abbrev pub edition_letter : Edition → ℕ
edition_letter A = 65
edition_letter B = 66

abbrev pub edition_text : Edition → List ℕ
edition_text v = 101 ∷ 100 ∷ 105 ∷ 116 ∷ 105 ∷ 111 ∷ 110 ∷ 32 ∷ edition_letter v ∷ 10 ∷ []

-- what was read is answered: the board as a text's, or the refusal's number alone, and then no slot is written
abbrev pub AnswersRead : Result Record Why → (n : ℕ) (o out p listed q strict : List ℕ) → Type 0
AnswersRead (Ok r) n o out p listed q strict = AnswersBoard 0 r.board n o out q strict × (listed ≡ listed_then 0 r.board p)
AnswersRead (Err why) n o out p listed q strict = Shows (refused_text (why_number why)) n o out × (listed ≡ p) × (strict ≡ q)

-- the record t is answered, read in the edition v: as a text is, but that its reader's numbers are 14, 15 and 1 to 6
pub record Replies (v : Edition) (t : List ℕ) (n : ℕ) (o out p listed q strict : List ℕ) : Type 0 where
  pub read : Result Record Why
  pub reads : Reads v t read
  pub answers : AnswersRead read n o out p listed q strict

-- "16 UNKNOWN when the writer .. meets an unknown state"
abbrev pub state_number : RetractableBoard → ℕ
state_number b = cond (is_known b.passant) 0 (why_number Unknown)

-- the record of b with the counters h and k, on a line; or the refusal m, where it is not 0
abbrev pub record_text : ℕ → RetractableBoard → ℕ → ℕ → List ℕ
record_text m b h k = cond (eqb m 0) (record_on b h k ++ newline) (refused_text m)

-- the number m of a text's reader or, where it is 0, of the writer
abbrev pub sent_number : ℕ → RetractableBoard → ℕ
sent_number m b = cond (eqb m 0) (state_number b) m

-- the text t is sent out with the counters h and k: read in A, through 14 and 1 to 6, "turned into B first, where A's dash has become unknown and is 16"
pub record Sends (t : List ℕ) (h k n : ℕ) (o out : List ℕ) : Type 0 where
  pub read : Boarded
  pub reads : ReadsText A t read
  pub shows : Shows (record_text (sent_number (verdict_number read.verdict) (turned_on read.board)) (turned_on read.board) h k) n o out
