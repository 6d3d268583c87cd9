-- What the long tests say, part by part, under names.
use mathlib.Core.Path.{◌≡◌}
use mathlib.Core.Bool.{true, not}
use Prim.Native.Nat.{ℕ, ◌<◌}
use lib.Dec.{leb}
use borrow.Author.Tests.{ltb-true, lt-ltb, eqb-true}
use Rattle.squares.specs.Tests.{◌and◌}
use Rattle.geometry.specs.declared.Color.{Color}
use Rattle.geometry.specs.Colors.{opp, rank_for, behind}
use Rattle.laws.specs.declared.Piece.TheVariants.{Pawn}
use Rattle.laws.specs.declared.EnPassantFlag.TheVariants.{Some}
use Rattle.laws.specs.declared.Edition.{Edition}
use Rattle.laws.specs.declared.ChessRetraction.{ChessRetraction}
use Rattle.laws.specs.Men.{empty, man, Men, numbered, is_of, is_pawn}
use Rattle.laws.specs.Positions.{Pos}
use Rattle.laws.specs.Acceptance.{kings_ok, edge, pawns_ok, rights_ok, state_ok, noted, quiet, accepted}
use Rattle.laws.specs.declared.Way.{Way}
use Rattle.laws.specs.Moves.{way, goes, mark_ok, possible}
use Rattle.laws.specs.Unmaking.{held, undoable, promoted_to, retractable}
use Rattle.squares.proofs.Testing.{both, left, right}
use Rattle.laws.proofs.Mans.{same, same_self, is_empty_lem}

pub record Accepts (p : Pos) : Type 0 where
  pub kings : kings_ok p.men ≡ true
  pub pawns : pawns_ok p.men ≡ true
  pub rights : rights_ok p.men p.rights ≡ true
  pub state : state_ok p.terms.edition p.men p.turn p.state ≡ true
  pub calm : quiet p.men p.turn ≡ true

pub accepts : (p : Pos) → accepted p ≡ true → Accepts p
accepts p h = record {
  kings = left _ _ (left _ _ (left _ _ (left _ _ h)));
  pawns = right _ _ (left _ _ (left _ _ (left _ _ h)));
  rights = right _ _ (left _ _ (left _ _ h));
  state = right _ _ (left _ _ h);
  calm = right _ _ h;
}

pub accepted_by : (p : Pos) → Accepts p → accepted p ≡ true
accepted_by p a = both (both (both (both a.kings a.pawns) a.rights) a.state) a.calm

-- a named square: the pawn that made a double step
pub record Named (v : Edition) (m : Men) (c : Color) (q : ℕ) : Type 0 where
  pub on_board : q < 64
  pub stepped : m q ≡ man (opp c) Pawn
  pub on_fourth : rank_for (opp c) q ≡ 3
  pub crossed : m (behind (opp c) q) ≡ empty
  pub started : m (behind (opp c) (behind (opp c) q)) ≡ empty
  pub neighbour : noted v m c q ≡ true

pub names : (v : Edition) (m : Men) (c : Color) (q : ℕ) → state_ok v m c (Some q) ≡ true → Named v m c q
names v m c q h = record {
  on_board = ltb-true q 64 (left _ _ (left _ _ (left _ _ (left _ _ (left _ _ h)))));
  stepped = same _ _ (right _ _ (left _ _ (left _ _ (left _ _ (left _ _ h)))));
  on_fourth = eqb-true _ _ (right _ _ (left _ _ (left _ _ (left _ _ h))));
  crossed = is_empty_lem _ (right _ _ (left _ _ (left _ _ h)));
  started = is_empty_lem _ (right _ _ (left _ _ h));
  neighbour = right _ _ h;
}

pub record Possible (p : Pos) (r : ChessRetraction) (k : ℕ) : Type 0 where
  pub source_in : r.source < 64
  pub target_in : r.target < 64
  pub small : leb r.uncaptured 5 ≡ true
  pub mine : is_of p.turn (p.men r.target) ≡ true
  pub taken : p.men r.source ≡ numbered (opp p.turn) r.uncaptured
  pub marked : mark_ok (p.men r.target) p.turn r.source r.unpromotion k ≡ true
  pub going : goes p (way (p.men r.target) r.target r.source r.uncaptured) r.target r.source r.uncaptured ≡ true

pub possibly : (p : Pos) (r : ChessRetraction) (k : ℕ) → possible p r k ≡ true → Possible p r k
possibly p r k h = record {
  source_in = ltb-true _ _ (left _ _ (left _ _ (left _ _ (left _ _ (left _ _ (left _ _ h))))));
  target_in = ltb-true _ _ (right _ _ (left _ _ (left _ _ (left _ _ (left _ _ (left _ _ h))))));
  small = right _ _ (left _ _ (left _ _ (left _ _ (left _ _ h))));
  mine = right _ _ (left _ _ (left _ _ (left _ _ h)));
  taken = same _ _ (right _ _ (left _ _ (left _ _ h)));
  marked = right _ _ (left _ _ h);
  going = right _ _ h;
}

pub possible_by : (p : Pos) (r : ChessRetraction) (k : ℕ) → Possible p r k → possible p r k ≡ true
possible_by p r k a =
    both (both (both (both (both (both (lt-ltb _ _ a.source_in) (lt-ltb _ _ a.target_in)) a.small) a.mine) (same_self _ _ a.taken)) a.marked) a.going

pub record Retractable (w : Way) (c : Color) (e p : Pos) (r : ChessRetraction) : Type 0 where
  pub source_in : r.source < 64
  pub mine : is_of c (p.men r.source) ≡ true
  pub target_in : r.target < 64
  pub target_bare : p.men r.target ≡ empty
  pub not_held : not (held p.rights c r.source) ≡ true
  pub undo : undoable w c r.source p.men ≡ true
  pub source_inner : not (is_pawn (numbered (opp c) r.uncaptured) and edge r.source) ≡ true
  pub target_inner : not (is_pawn (e.men r.target) and edge r.target) ≡ true
  pub step : possible e r (promoted_to r.unpromotion (p.men r.source)) ≡ true

pub retracts : (w : Way) (c : Color) (e p : Pos) (r : ChessRetraction) → retractable w c e p r ≡ true → Retractable w c e p r
retracts w c e p r h = record {
  source_in = ltb-true _ _ (left _ _ (left _ _ (left _ _ (left _ _ h))));
  mine = right _ _ (left _ _ (left _ _ (left _ _ h)));
  target_in = ltb-true _ _ (left _ _ (right _ _ (left _ _ (left _ _ h))));
  target_bare = is_empty_lem _ (right _ _ (right _ _ (left _ _ (left _ _ h))));
  not_held = right _ _ (left _ _ h);
  undo = left _ _ (left _ _ (left _ _ (right _ _ h)));
  source_inner = right _ _ (left _ _ (left _ _ (right _ _ h)));
  target_inner = right _ _ (left _ _ (right _ _ h));
  step = right _ _ (right _ _ h);
}
