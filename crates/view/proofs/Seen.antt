-- The view of a position with clean men, whose union is given beside it.
use mathlib.Core.Path.{◌≡◌, sym, ap}
use mathlib.Core.List.{List}
use Prim.Native.Nat.{ℕ}
use Rattle.geometry.specs.declared.Color.{Color}
use Rattle.geometry.specs.Lines.{IsBetween}
use Rattle.laws.specs.declared.Position.{Position}
use Rattle.laws.specs.Attacks.{union_of}
use Rattle.laws.specs.Boards.{color_set, men_in, Clean}
use Rattle.view.specs.Views.{within, view_of}
use Rattle.view.specs.inner.Readiness.{Whole, Ready}
use Rattle.squares.proofs.Members.{first_lt}
use Rattle.laws.proofs.Mans.{opp_opp}

module _ (p : Position) (combined pinned checkers : ℕ) where
  pub whole : Clean p.pieces p.colors → combined ≡ union_of (men_in p) → Whole (view_of p combined pinned checkers)
  unfolding view_of
  whole clean union = record {
    clean = clean;
    union = union;
    foes = ap (λ (c : Color). within p.pieces (color_set p.colors c)) (sym (opp_opp p.turn));
  }

  -- its kings are on the board, whatever the men
  pub ready : (t : List ℕ) → IsBetween t → Whole (view_of p combined pinned checkers) → Ready t (view_of p combined pinned checkers)
  unfolding view_of
  ready t h w = record { table = h; king = first_lt _; oppking = first_lt _; whole = w }
