-- Replay after un-make: the un-made board makes the move, and gives back every square, the turn and the rights.
use mathlib.Core.Path.{◌≡◌, ap, ◌∙◌}
use mathlib.Core.Bool.{true}
use Prim.Native.Nat.{ℕ}
use Rattle.geometry.specs.declared.Color.{Color}
use Rattle.geometry.specs.Colors.{opp}
use Rattle.laws.specs.declared.ChessRetraction.{ChessRetraction}
use Rattle.laws.specs.Men.{Man, numbered}
use Rattle.laws.specs.Positions.{Pos, retractor}
use Rattle.laws.specs.Acceptance.{rights_ok}
use Rattle.laws.specs.Moves.{way, after, possible, arriving, replayed}
use Rattle.laws.specs.Unmaking.{way_back, unmade}
use Rattle.laws.proofs.Mans.{opp_opp, arrives, castling_is}
use Rattle.laws.proofs.Puts.{after_before}
use Rattle.laws.proofs.Retracting.{kind_today, mover, can_retract, Back, back, done_of}
use Rattle.laws.proofs.Rights as rights

pub record Replays (p : Pos) (r : ChessRetraction) : Type 0 where
  pub possible_again : possible (unmade p r) r (kind_today p r) ≡ true
  pub men_back : (replayed (unmade p r) r (kind_today p r)).men ≡ p.men
  pub turn_back : (replayed (unmade p r) r (kind_today p r)).turn ≡ p.turn
  pub rights_back : (replayed (unmade p r) r (kind_today p r)).rights ≡ p.rights

pub replay_unmake : (p : Pos) (r : ChessRetraction) → rights_ok p.men p.rights ≡ true → can_retract p r ≡ true → Replays p r
replay_unmake p r ok R = record {
  possible_again = b.can.step;
  men_back =
      ap (λ (z : Man). after (way z t s u) c t s (arriving r.unpromotion z c k) (unmade p r).men) b.there
      ∙ after_before (way_back c p r) c t s (mover p r) (numbered (opp c) u) (arriving r.unpromotion (mover p r) c k) p.men
      (arrives (p.men s) c s r.unpromotion b.can.mine b.marked) b.can.target_bare (done_of (way_back c p r) c s p.men b.can.undo);
  turn_back = opp_opp p.turn;
  rights_back =
      rights.rights_back (way_back c p r) c t s p.rights (λ d q. (castling_is (mover p r) t s u c d b.mine q).0)
      (rights.keeps_held p.men p.rights c t s ok b.can.target_bare b.can.mine b.can.not_held);
}
  where
    b : Back p r
    b = back p r R

    c : Color
    c = retractor p

    t : ℕ
    t = r.target

    s : ℕ
    s = r.source

    u : ℕ
    u = r.uncaptured

    k : ℕ
    k = kind_today p r
