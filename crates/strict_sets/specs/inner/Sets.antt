-- What the sets of a source say.
use Rattle.std.specs.Prelude.{◌≡◌, Bool, true, not, cond, ℕ, ◌<◌, eqb}
use Rattle.squares.specs.Tests.{◌and◌, ◌or◌}
use Rattle.squares.specs.Squares.{has}
use Rattle.geometry.specs.Colors.{opp}
use Rattle.laws.specs.declared.Position.{Position}
use Rattle.laws.specs.Men.{man_of}
use Rattle.laws.specs.Positions.{Pos, rights_of}
use Rattle.laws.specs.Unmaking.{held}
use Rattle.laws.specs.Boards.{men_in}
use Rattle.strict_test.specs.inner.Strictly.{strict_for, Today}
use Rattle.strict_sets.specs.declared.Targets.{Targets}
use Rattle.strict_sets.specs.inner.Parts.{Comes}

-- the set of targets for the number of an uncaptured man, 0 for none, and a mark
abbrev pub chosen : Targets → ℕ → Bool → ℕ
chosen w u mark = cond (eqb u 0) (cond mark w.marked w.plain) (cond mark w.both w.taking)

-- the sets have the retraction to q
unfoldable pub holds_at : Targets → ℕ → ℕ → Bool → Bool
holds_at w q u mark = has (chosen w u mark) q and (eqb u 0 or has w.men u)

-- the sets of the source s: a retraction is strict exactly where they have it
pub record Exact (p : Pos) (s : ℕ) (w : Targets) : Type 0 where
  pub told : (q u : ℕ) (mark : Bool) → q < 64 → u < 6
      → strict_for p (record { source = s; target = q; uncaptured = u; unpromotion = mark }) ≡ holds_at w q u mark

-- unmarked targets alone, with nothing uncaptured
abbrev pub only_plain : ℕ → Targets
only_plain set = record { plain = set; taking = 0; marked = 0; both = 0; men = 0 }

-- x is the number of the retractor's man on s, which no right holds there
pub record Goes (p : Position) (s x : ℕ) : Type 0 where
  pub today : Today p
  pub comes : Comes p s x
  pub is_man : man_of x ≡ men_in p s
  pub not_held : not (held (rights_of p.white p.black) (opp p.turn) s) ≡ true
