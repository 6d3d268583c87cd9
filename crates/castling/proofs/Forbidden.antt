-- A castling that has a past has no attacker on the squares that its king leaves and crosses.
use mathlib.Core.Path.{◌≡◌, refl, sym, ap, ap₂, ◌∙◌}
use mathlib.Core.Bool.{true, not, not-not}
use Prim.Native.Nat.{ℕ}
use lib.Dec.{eqb}
use borrow.Author.Tests.{eqb-true}
use Rattle.squares.specs.Tests.{◌and◌}
use Rattle.geometry.specs.declared.Color.{Color}
use Rattle.geometry.specs.declared.Color.TheVariants.{White, Black}
use Rattle.geometry.specs.Colors.{opp}
use Rattle.laws.specs.declared.Piece.TheVariants.{King}
use Rattle.laws.specs.declared.Side.{Side}
use Rattle.laws.specs.declared.Side.TheVariants.{Short as short, Long as long}
use Rattle.laws.specs.declared.Way.{Way}
use Rattle.laws.specs.declared.Way.TheVariants.{Castle as castles}
use Rattle.laws.specs.Men.{Man, man, Men, same_man}
use Rattle.laws.specs.Attacks.{attacks_from, attackers_of, attacked}
use Rattle.laws.specs.Positions.{Pos, retractor, king_home, king_to, rook_to}
use Rattle.laws.specs.Acceptance.{accepted}
use Rattle.laws.specs.Moves.{way, safe}
use Rattle.laws.specs.Unmaking.{way_back, unmade}
use Rattle.laws.specs.Strictness.{Past, strict}
use Rattle.castling.specs.Castlings.{uncastling, way_before}
use Rattle.squares.proofs.Testing.{left, right}
use Rattle.squares.proofs.Every.{some_test}
use Rattle.laws.proofs.Mans.{same}
use Rattle.laws.proofs.Demand3.{demand3}

-- no attacker, by the set
pub none : (m : Men) (c : Color) (q : ℕ) → not (attacked m c q) ≡ eqb (attackers_of m c q) 0
unfolding attackers_of
none m c q = ap not (sym (some_test (attacks_from m c q))) ∙ not-not _

-- a king that goes back from there castled
king_castles : (c : Color) (d : Side) → way (man c King) (king_home c) (king_to c d) 0 ≡ castles d
king_castles White short = refl
king_castles White long = refl
king_castles Black short = refl
king_castles Black long = refl

module _ (p : Pos) (d : Side) (king : same_man (p.men (king_to (retractor p) d)) (man (retractor p) King) ≡ true) where
  pub castled : way_back (retractor p) p (uncastling (retractor p) d) ≡ castles d
  castled = ap (λ (x : Man). way x (king_home (retractor p)) (king_to (retractor p) d) 0) (same (p.men (king_to (retractor p) d)) (man (retractor p) King) king) ∙ king_castles (retractor p) d

  -- what the strict test asks of a castling is that nobody attacks the squares that the king leaves and crosses
  pub safe_is : safe (unmade p (uncastling (retractor p) d)).men (way_back (retractor p) p (uncastling (retractor p) d)) (retractor p)
      ≡ (eqb (way_before p d).home 0 and eqb (way_before p d).crossed 0)
  unfolding way_before
  safe_is =
      let m = (unmade p (uncastling (retractor p) d)).men in
      ap (λ (w : Way). safe m w (retractor p)) castled
      ∙ ap₂ ◌and◌ (none m (opp (retractor p)) (king_home (retractor p))) (none m (opp (retractor p)) (rook_to (retractor p) d))

  -- a castling with a past has no attacker there
  pub past_unattacked : accepted p ≡ true → Past p (uncastling (retractor p) d) → ((way_before p d).home ≡ 0) × ((way_before p d).crossed ≡ 0)
  past_unattacked ok past =
      let strictly : strict p (uncastling (retractor p) d) ≡ true = (demand3 p (uncastling (retractor p) d) ok).1 past in
      let none_there : (eqb (way_before p d).home 0 and eqb (way_before p d).crossed 0) ≡ true = sym safe_is ∙ right _ _ (left _ _ strictly) in
      (eqb-true _ 0 (left _ _ none_there), eqb-true _ 0 (right _ _ none_there))
