-- What is read of a volume: its table, then its boards row by row; one problem; and old lines.
use Rattle.std.specs.Prelude.{◌≡◌, Option, Some, None, Result, Ok, Err, Bool, true, false, List, [], ◌∷◌, ◌++◌, ℕ, suc, ◌+◌, ◌≤◌, ◌<◌, length, take, drop}
use Rattle.laws.specs.declared.Position.{Position}
use Rattle.refusal.specs.declared.Refusal.{Refusal}
use Rattle.accept.specs.Verdicts.{judged_of}
use Rattle.volume_body.specs.Layout.{Embodies}
use Rattle.volume_contents.specs.declared.Flaw.{Flaw}
use Rattle.volume_contents.specs.declared.Why.{Why}
use Rattle.volume_contents.specs.declared.Why.TheVariants.{Contents, Body, Board as board, Room}
use Rattle.volume_contents.specs.Refusing.{Written}
use Rattle.volume_contents.specs.Layout.{edition_byte, body_place}
use Rattle.volume_contents.specs.Contents.{row_at, Table, Spoilt}
use Rattle.volume_lines.specs.Register.{lines_of}
use Rattle.refusal.specs.Refusals.{nothing_refused}

-- the bytes of the body i of n
abbrev pub body_at : List ℕ → ℕ → ℕ → List ℕ
body_at v n i = take 34 (drop (body_place n i) v)

-- the row i of n has the board p: p is of its edition, and its body is p's
pub record HasBoard (v : List ℕ) (n i : ℕ) (p : Position) : Type 0 where
  pub edition : edition_byte p.terms.edition ≡ (row_at v i).edition
  pub body : Embodies p.terms.edition p (body_at v n i)

abbrev pub Passes : List ℕ → ℕ → ℕ → Position → Type 0
Passes v n i p = HasBoard v n i p × (judged_of p ≡ nothing_refused)

-- "then 18 BODY (a body with no such board), then 1 to 6 for that board", each with its row, counted from 1
pub data Fails (v : List ℕ) (n i : ℕ) : Why → Type 0 where
  bodiless : ((p : Position) → HasBoard v n i p → ⊥) → Fails v n i (Body (i + 1))
  unjudged : (p : Position) (w : Refusal) → HasBoard v n i p → judged_of p ≡ Err w → Fails v n i (board w (i + 1))

-- a row that is read: its board, or why it is refused
abbrev pub Reads : List ℕ → ℕ → ℕ → Result Position Why → Type 0
Reads v n i (Ok p) = Passes v n i p
Reads v n i (Err why) = Fails v n i why

-- the rows from i on have the boards ps, which pass 1 to 6
abbrev pub Boards : List ℕ → ℕ → ℕ → List Position → Type 0
Boards v n i [] = Unit {0}
Boards v n i (p ∷ ps) = Passes v n i p × Boards v n (suc i) ps

-- why a volume is refused: by its table, or by its first row that fails; `back` is whether it goes back to lines
pub data Judged (back : Bool) (v : List ℕ) : Why → Type 0 where
  by_table : (w : Flaw) (k : ℕ) → Spoilt back v k w → Judged back v (Contents w k)
  by_row : (n : ℕ) (ps : List Position) (why : Why) → Table back v n → Boards v n 0 ps → length ps < n → Fails v n (length ps) why → Judged back v why

-- a volume of n problems that has the boards ps
pub record Whole (back : Bool) (v : List ℕ) (n : ℕ) (ps : List Position) : Type 0 where
  pub table : Table back v n
  pub boards : Boards v n 0 ps
  pub count : length ps ≡ n

-- how many problems a volume has, or why it is refused
abbrev pub Checks : List ℕ → Result ℕ Why → Type 0
Checks v (Ok n) = (ps : List Position) × Whole false v n ps
Checks v (Err why) = Judged false v why

-- the problem with the number k, in a volume of n rows whose table is sound: its board, or none where no row has the number, or why its row is refused
abbrev pub FindsIn : List ℕ → ℕ → ℕ → Result (Option Position) Why → Type 0
FindsIn v n k (Ok (Some p)) = (i : ℕ) × (i < n) × ((row_at v i).number ≡ k) × Passes v n i p
FindsIn v n k (Ok None) = (i : ℕ) → i < n → (row_at v i).number ≡ k → ⊥
FindsIn v n k (Err why) = (i : ℕ) × (i < n) × ((row_at v i).number ≡ k) × Fails v n i why

pub data Finds (v : List ℕ) (k : ℕ) (r : Result (Option Position) Why) : Type 0 where
  spoilt : (w : Flaw) (row : ℕ) → Spoilt false v row w → r ≡ Err (Contents w row) → Finds v k r
  sound : (n : ℕ) → Table false v n → FindsIn v n k r → Finds v k r

-- a volume v back into a slice that holds o: the answer r, and what the slice then holds
pub data Unmakes (v o : List ℕ) (r : Written) (x : List ℕ) : Type 0 where
  refuses : (why : Why) → Judged true v why → r ≡ Err why → x ≡ o → Unmakes v o r x
  -- 13, with the number of bytes needed
  narrow : (n : ℕ) (ps : List Position) → Whole true v n ps → length o < length (lines_of ps) → r ≡ Err (Room (length (lines_of ps))) → x ≡ o → Unmakes v o r x
  -- the lines, and what stood beyond
  lined : (n : ℕ) (ps : List Position) → Whole true v n ps → length (lines_of ps) ≤ length o → r ≡ Ok (length (lines_of ps))
      → x ≡ lines_of ps ++ drop (length (lines_of ps)) o → Unmakes v o r x
