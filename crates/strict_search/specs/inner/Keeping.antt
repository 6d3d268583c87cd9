-- The sets of all sources in one list, five numbers of each, and the retractions that they have.
use Rattle.std.specs.Prelude.{◌≡◌, Bool, List, map, ℕ, ◌+◌, ◌*◌, ◌/◌, ◌<◌, length, get_or}
use Rattle.squares.specs.Members.{numbers_from}
use Rattle.laws.specs.declared.ChessRetraction.{ChessRetraction}
use Rattle.laws.specs.Positions.{Pos}
use Rattle.laws.specs.StrictLists.{retraction_at}
use Rattle.strict_sets.specs.declared.Targets.{Targets}
use Rattle.strict_sets.specs.inner.Sets.{Exact}
use Rattle.strict_search.specs.inner.Searching.{strict_moves, holds_in}

-- the sets of the source s
abbrev pub kept_at : List ℕ → ℕ → Targets
kept_at l s = record {
  plain = get_or l (s * 5) 0;
  taking = get_or l (s * 5 + 1) 0;
  marked = get_or l (s * 5 + 2) 0;
  both = get_or l (s * 5 + 3) 0;
  men = get_or l (s * 5 + 4) 0;
}

-- the sets have the place i, and the retractions at all places that they have
unfoldable pub kept_test : List ℕ → ℕ → Bool
kept_test l i = holds_in (kept_at l (i / 768)) i

unfoldable pub kept_moves : List ℕ → List ChessRetraction
kept_moves l = map retraction_at (numbers_from (kept_test l) 0 49152)

-- w is put for the sets of the source s
pub record Keeps (before : List ℕ) (s : ℕ) (w : Targets) (after : List ℕ) : Type 0 where
  pub long : length after ≡ length before
  pub here : kept_at after s ≡ w
  pub others : (r : ℕ) → (r ≡ s → ⊥) → kept_at after r ≡ kept_at before r

-- the sets of every source, and how many retractions they have
pub record Gathers (p : Pos) (kept : List ℕ) (n : ℕ) : Type 0 where
  pub each : (s : ℕ) → s < 64 → Exact p s (kept_at kept s)
  pub all : n ≡ length (strict_moves p)
