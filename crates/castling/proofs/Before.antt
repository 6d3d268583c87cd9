-- What is attacked before a castling is attacked after it. So nobody attacks the square that the king reaches, and a castling of the Rust's list,
-- which asks that the squares that it leaves and crosses are unattacked today, is never struck out for an attack.
use mathlib.Core.Path.{◌≡◌, sym, ap, ◌∙◌, subst}
use mathlib.Core.Bool.{Bool, true, false, not, true≢false}
use Prim.Native.Nat.{ℕ, ◌<◌}
use native.Mathlib.Omega.{arith}
use borrow.Author.Tests.{eqb-true}
use Rattle.squares.specs.Tests.{◌and◌}
use Rattle.geometry.specs.declared.Color.{Color}
use Rattle.geometry.specs.declared.Color.TheVariants.{White, Black}
use Rattle.geometry.specs.Colors.{opp}
use Rattle.geometry.specs.Lines.{clear}
use Rattle.laws.specs.declared.Piece.TheVariants.{King}
use Rattle.laws.specs.declared.Side.{Side}
use Rattle.laws.specs.declared.Side.TheVariants.{Short as short, Long as long}
use Rattle.laws.specs.declared.Way.{Way}
use Rattle.laws.specs.declared.Way.TheVariants.{Castle as castles}
use Rattle.laws.specs.declared.ChessRetraction.{ChessRetraction}
use Rattle.laws.specs.Men.{empty, man, Men, same_man, bare}
use Rattle.laws.specs.Attacks.{attackers_of, attacked}
use Rattle.laws.specs.Positions.{Pos, retractor, king_home, corner, king_to}
use Rattle.laws.specs.Acceptance.{accepted}
use Rattle.laws.specs.Moves.{goes, safe}
use Rattle.laws.specs.Unmaking.{before, unmade}
use Rattle.castling.specs.Castlings.{uncastling, way_before}
use Rattle.squares.proofs.Testing.{left, right}
use Rattle.squares.proofs.Every.{all_at}
use Rattle.laws.proofs.Mans.{same, opp_opp}
use Rattle.laws.proofs.Retracting.{can_retract, back}
use Rattle.castling.proofs.Forbidden.{none, castled}
use Rattle.castling.proofs.Opened.{earlier, safe_before, into_before}

to_lt : (c : Color) (d : Side) → king_to c d < 64
to_lt White short = omega arith
to_lt White long = omega arith
to_lt Black short = omega arith
to_lt Black long = omega arith

-- a test that fails where the first part holds
second : (s t : Bool) → s ≡ true → not (s and t) ≡ true → not t ≡ true
unfolding ◌and◌
second true t h e = e
second false t h e = absurd (true≢false (sym h))

module _ (p : Pos) (d : Side) (king : same_man (p.men (king_to (retractor p) d)) (man (retractor p) King) ≡ true)
    (can : can_retract p (uncastling (retractor p) d) ≡ true) where
  abbrev c : Color
  c = retractor p

  abbrev r : ChessRetraction
  r = uncastling c d

  men_before : (unmade p r).men ≡ earlier c d p.men
  men_before = λ i. before (castled p d king i) c (king_home c) (king_to c d) (same (p.men (king_to c d)) (man c King) king i) empty p.men

  free : clear (bare (earlier c d p.men)) (king_home c) (corner c d) ≡ true
  free =
      subst (λ (m : Men). clear (bare m) (king_home c) (corner c d) ≡ true) men_before
      (right _ _ (subst (λ (w : Way). goes (unmade p r) w (king_home c) (king_to c d) 0 ≡ true) (castled p d king) (back p r can).going))

  nobody : (q : ℕ) → not (attacked (earlier c d p.men) (opp c) q) ≡ true → attackers_of (unmade p r).men (opp c) q ≡ 0
  nobody q n = eqb-true _ 0 (sym (none (unmade p r).men (opp c) q) ∙ ap (λ (m : Men). not (attacked m (opp c) q)) men_before ∙ n)

  -- safe by today's men, as the Rust's list asks, it was safe
  pub listed_unattacked : safe p.men (castles d) c ≡ true → ((way_before p d).home ≡ 0) × ((way_before p d).crossed ≡ 0)
  unfolding way_before
  listed_unattacked h = let s = safe_before c d p.men free h in (nobody _ (left _ _ s), nobody _ (right _ _ s))

  pub reached_unattacked : accepted p ≡ true → (way_before p d).reached ≡ 0
  unfolding way_before
  reached_unattacked ok = nobody (king_to c d) (into_before c d p.men free (ap (λ (z : Color). not (attacked p.men z (king_to c d))) (opp_opp p.turn) ∙ unattacked))
    where
      unattacked : not (attacked p.men p.turn (king_to c d)) ≡ true
      unattacked = second _ _ king (all_at 64 (λ k. not (same_man (p.men k) (man c King) and attacked p.men p.turn k)) (right _ _ ok) (king_to c d) (to_lt c d))
