-- What is known of a slice whose lines were looked at, behind `count` lines with the verdict `before`.
use Rattle.std.specs.Prelude.{◌≡◌, Bool, true, false, List, ◌++◌, ℕ, ◌+◌, ◌≤◌, ◌<◌, length, drop, get_or}
use Rattle.laws.specs.declared.Position.{Position}
use Rattle.volume_lines.specs.declared.Named.{Named}
use Rattle.volume_lines.specs.declared.Survey.{Survey}
use Rattle.volume_lines.specs.Register.{AllTold, lines_of, Starts, noted_of}

-- what stands from a place on has no newline, or starts with one line out of form
abbrev pub EndsAt : List ℕ → ℕ → Bool → Type 0
EndsAt t at true = (k : ℕ) → at ≤ k → k < length t → get_or t k 0 ≡ 10 → ⊥
EndsAt t at false = (at < length t) × ((p : Position) (u : List ℕ) → Starts p u (drop at t) → ⊥)

pub record Surveyed (t : List ℕ) (count : ℕ) (before : Named) (s : Survey) : Type 0 where
  pub boards : List Position
  pub told : AllTold boards
  pub text : lines_of boards ++ drop s.at t ≡ t
  pub inside : s.at ≤ length t
  pub number : s.count ≡ count + length boards
  pub named_is : s.named ≡ noted_of before count boards
  pub ends : EndsAt t s.at s.good
