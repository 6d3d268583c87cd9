-- The strict list of a position, and how the places are searched.
use Rattle.std.specs.Prelude.{◌≡◌, Bool, true, false, List, map, ℕ, ◌+◌, ◌*◌, ◌/◌, ◌%◌, ◌≤◌, ◌<◌}
use Rattle.squares.specs.Squares.{odd, has}
use Rattle.laws.specs.declared.ChessRetraction.{ChessRetraction}
use Rattle.laws.specs.Positions.{Pos}
use Rattle.laws.specs.StrictLists.{retraction_at, strict_places}
use Rattle.strict_test.specs.inner.Strictly.{strict_for}
use Rattle.strict_sets.specs.declared.Targets.{Targets}
use Rattle.strict_sets.specs.inner.Sets.{holds_at}

-- the Laws' strict list as retractions
unfoldable pub strict_moves : Pos → List ChessRetraction
strict_moves p = map retraction_at (strict_places p)

unfoldable pub test_of : Pos → ℕ → Bool
test_of p i = strict_for p (retraction_at i)

-- the sets of its source have the place i
unfoldable pub holds_in : Targets → ℕ → Bool
holds_in w i = holds_at w (i / 12 % 64) (i / 2 % 6) (odd i)

-- from i on no place below j passes
pub record Skips (f : ℕ → Bool) (i j : ℕ) : Type 0 where
  pub on : i ≤ j
  pub most : j ≤ 49152
  pub none : (k : ℕ) → i ≤ k → k < j → f k ≡ false

-- one look at the place i: j is i itself where it passes
pub record Looks (f : ℕ → Bool) (i j : ℕ) : Type 0 where
  pub skips : Skips f i j
  pub here : j ≡ i → f i ≡ true

-- j is the first place from i on that passes, or the end
pub record Next (f : ℕ → Bool) (i j : ℕ) : Type 0 where
  pub skips : Skips f i j
  pub there : j < 49152 → f j ≡ true

-- the end of the source of the place i: the first place of the next one
abbrev pub end_of : ℕ → ℕ
end_of i = (i / 768 + 1) * 768

-- j is the first place from i on that passes among those of its source, or their end
pub record FirstIn (f : ℕ → Bool) (i j : ℕ) : Type 0 where
  pub skips : Skips f i j
  pub near : j ≤ end_of i
  pub there : j < end_of i → f j ≡ true

-- j is behind i in its source, or their end, and no target between theirs is in the set
pub record Jumps (set i j : ℕ) : Type 0 where
  pub on : i < j
  pub near : j ≤ end_of i
  pub none : (k : ℕ) → (i / 12 + 1) * 12 ≤ k → k < j → has set (k / 12 % 64) ≡ false
