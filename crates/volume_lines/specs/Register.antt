-- A register of old lines: each a text and its newline, "numbered from 1", in edition A.
use Rattle.std.specs.Prelude.{◌≡◌, List, [], ◌∷◌, ◌++◌, ℕ, ◌+◌, ◌<◌, length, Ok, Err}
use Rattle.laws.specs.declared.Position.{Position}
use Rattle.laws.specs.declared.Edition.TheVariants.{A}
use Rattle.accept.specs.Verdicts.{judged_of}
use Rattle.position_text.specs.Form.{printed, Says}
use Rattle.volume_lines.specs.declared.Named.{Named}
use Rattle.refusal.specs.Refusals.{Verdict, nothing_refused}

-- what a text can say: of edition A, with clean men, and a square of the board if one is named
abbrev pub Told : Position → Type 0
Told p = Says A p (printed p)

abbrev pub AllTold : List Position → Type 0
AllTold [] = Unit {0}
AllTold (p ∷ ps) = Told p × AllTold ps

-- each text and its newline
unfoldable pub lines_of : List Position → List ℕ
lines_of [] = []
lines_of (p ∷ ps) = printed p ++ (10 ∷ lines_of ps)

-- the bytes t are the lines of ps
pub record Lines (ps : List Position) (t : List ℕ) : Type 0 where
  pub told : AllTold ps
  pub text : lines_of ps ≡ t

-- s starts with a line in form, behind which u stands
pub record Starts (p : Position) (u s : List ℕ) : Type 0 where
  pub told : Told p
  pub text : printed p ++ (10 ∷ u) ≡ s

-- "14 for an old line out of form or without its newline": k lines are in form, there is more, and it starts with no line in form
pub record Stops (t : List ℕ) (k : ℕ) : Type 0 where
  pub before : List Position
  pub rest : List ℕ
  pub told : AllTold before
  pub text : lines_of before ++ rest ≡ t
  pub count : length before ≡ k
  pub more : 0 < length rest
  pub none : (p : Position) (u : List ℕ) → Starts p u rest → ⊥

-- the verdict on one board more, that of the line k: the first that is refused stays
abbrev pub note_by : Verdict → ℕ → ℕ → Verdict → Named
note_by (Err w) l k v = record { verdict = Err w; line = l }
note_by (Ok _) l k (Err w) = record { verdict = Err w; line = k }
note_by (Ok _) l k (Ok _) = record { verdict = nothing_refused; line = 0 }

abbrev pub note_of : Named → ℕ → Verdict → Named
note_of n k v = note_by n.verdict n.line k v

-- "1 to 6 for that board": the first board that is refused, those before it being k, with the verdict n
unfoldable pub noted_of : Named → ℕ → List Position → Named
noted_of n k [] = n
noted_of n k (p ∷ ps) = noted_of (note_of n (k + 1) (judged_of p)) (k + 1) ps

abbrev pub unrefused : Named
unrefused = record { verdict = nothing_refused; line = 0 }

abbrev pub first_refused : List Position → Named
first_refused ps = noted_of unrefused 0 ps
