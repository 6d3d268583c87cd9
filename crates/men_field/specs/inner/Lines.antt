-- A text by value, and what adding to it means.
use Rattle.std.specs.Prelude.{◌≡◌, List, ◌∷◌, ◌++◌, ℕ, ◌+◌, ◌≤◌, length, take}
use Rattle.squares.specs.Squares.{has}
use Rattle.laws.specs.declared.Piece.{Piece}
use Rattle.laws.specs.declared.Piece.TheVariants.{Pawn, Knight, Bishop, Rook, Queen}
use Rattle.laws.specs.Men.{Man}
use Rattle.laws.specs.Boards.{kind_set, kind_by}
use Rattle.men_field.specs.declared.Line.{Line}
use Rattle.men_field.specs.declared.Run.{Run}
use Rattle.men_field.specs.Placement.{byte_of, run_text}

-- the bytes that a line holds
abbrev pub text_of : Line → List ℕ
text_of l = take l.len l.bytes

-- l holds the text t
pub record Holds (l : Line) (t : List ℕ) : Type 0 where
  pub text : text_of l ≡ t
  pub len : l.len ≡ length t

-- r is l with the bytes s added
pub record Added (l : Line) (s : List ℕ) (r : Line) : Type 0 where
  pub text : text_of r ≡ text_of l ++ s
  pub len : r.len ≡ l.len + length s

-- one square more, whose letter is b: whatever squares are still to come, the whole prints the same
pub record Stepped (s : Run) (b : ℕ) (r : Run) : Type 0 where
  pub text : (x : Man) → byte_of x ≡ b → (xs : List Man) → text_of r.line ++ run_text r.run xs ≡ text_of s.line ++ run_text s.run (x ∷ xs)
  pub size : (x : Man) → byte_of x ≡ b → (xs : List Man) → r.line.len + length (run_text r.run xs) ≡ s.line.len + length (run_text s.run (x ∷ xs))
  pub len : r.line.len + r.run ≤ s.line.len + s.run + 1
  pub run : r.run ≤ s.run + 1

-- the kind of the man on the square a, as `menAt` has it
abbrev pub kind_shown : List ℕ → ℕ → Piece
kind_shown pieces a =
    kind_by (has (kind_set pieces Pawn) a) (has (kind_set pieces Knight) a) (has (kind_set pieces Bishop) a) (has (kind_set pieces Rook) a) (has (kind_set pieces Queen) a)
