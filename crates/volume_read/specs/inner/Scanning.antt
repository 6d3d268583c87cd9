-- What is known of a volume whose table was tested, and whose bodies are read one by one.
use Rattle.std.specs.Prelude.{◌≡◌, Result, Ok, Err, Bool, List, ◌++◌, ℕ, ◌≤◌, ◌<◌, length, drop}
use Rattle.laws.specs.declared.Position.{Position}
use Rattle.position_text.specs.declared.Raw.{Raw}
use Rattle.volume_body.specs.Layout.{Answers}
use Rattle.volume_contents.specs.declared.Flaw.{Flaw}
use Rattle.volume_contents.specs.declared.Why.{Why}
use Rattle.volume_contents.specs.declared.Why.TheVariants.{Contents}
use Rattle.volume_contents.specs.Layout.{edition_byte, size_of}
use Rattle.volume_contents.specs.Contents.{row_at, Spoilt, Table as Sound}
use Rattle.volume_contents.specs.inner.Walks.{edition_of}
use Rattle.volume_lines.specs.Register.{lines_of}
use Rattle.volume_read.specs.Reading.{body_at, Fails, Boards}

-- a table that is refused, by the first test that fails
pub data Untabled (back : Bool) (v : List ℕ) : Why → Type 0 where
  flawed : (w : Flaw) (k : ℕ) → Spoilt back v k w → Untabled back v (Contents w k)

-- a table's number of rows, or why it is refused
abbrev pub TableOf : Bool → List ℕ → Result ℕ Why → Type 0
TableOf back v (Ok n) = (n < 65536) × Sound back v n
TableOf back v (Err why) = Untabled back v why

-- a volume of the right size, whose rows name editions
pub record Sized (v : List ℕ) (n : ℕ) : Type 0 where
  pub few : n < 65536
  pub size : length v ≡ size_of n
  pub editions : (i : ℕ) → i < n → edition_byte (edition_of (row_at v i).edition) ≡ (row_at v i).edition

abbrev pub AnswersAt : List ℕ → ℕ → ℕ → Raw → Type 0
AnswersAt v n i r = Answers (edition_of (row_at v i).edition) (body_at v n i) r

-- all rows have boards, whose lines have so many bytes
pub record AllGood (v : List ℕ) (n size : ℕ) : Type 0 where
  pub list : List Position
  pub boards : Boards v n 0 list
  pub count : length list ≡ n
  pub size_is : size ≡ length (lines_of list)

-- the first row that fails
pub record FirstBad (v : List ℕ) (n : ℕ) (why : Why) : Type 0 where
  pub list : List Position
  pub boards : Boards v n 0 list
  pub inside : length list < n
  pub fails : Fails v n (length list) why

abbrev pub Scanned : List ℕ → ℕ → Result ℕ Why → Type 0
Scanned v n (Ok size) = AllGood v n size
Scanned v n (Err why) = FirstBad v n why

-- room for the lines of n bodies
pub record Fitted (v o : List ℕ) (n : ℕ) : Type 0 where
  pub sized : Sized v n
  pub list : List Position
  pub boards : Boards v n 0 list
  pub count : length list ≡ n
  pub room : length (lines_of list) ≤ length o

abbrev pub LinesIn : List ℕ → ℕ → List ℕ → List ℕ → Type 0
LinesIn v n o x = (ps : List Position) → Boards v n 0 ps → length ps ≡ n → x ≡ lines_of ps ++ drop (length (lines_of ps)) o
