-- The un-made board passes 2 to 5, so that replay does not refuse it. (6 may fail.)
use mathlib.Core.Path.{◌≡◌, refl, ap, ◌∙◌, subst}
use mathlib.Core.Bool.{true, not}
use Prim.Native.Nat.{ℕ}
use borrow.Author.Tests.{eqb-true, eq-eqb}
use Rattle.squares.specs.Tests.{◌and◌}
use Rattle.geometry.specs.declared.Color.{Color}
use Rattle.geometry.specs.declared.Color.TheVariants.{White, Black}
use Rattle.geometry.specs.Colors.{opp}
use Rattle.geometry.specs.Steps.{pawn_takes}
use Rattle.laws.specs.declared.Piece.TheVariants.{Pawn, King}
use Rattle.laws.specs.declared.ChessRetraction.{ChessRetraction}
use Rattle.laws.specs.Men.{Man, man, numbered, is_pawn}
use Rattle.laws.specs.Souls.{number}
use Rattle.laws.specs.Positions.{Pos, retractor}
use Rattle.laws.specs.Acceptance.{kings_ok, edge, pawns_ok, rights_ok, state_ok, accepted}
use Rattle.laws.specs.declared.Way.{Way}
use Rattle.laws.specs.declared.Way.TheVariants.{Plain as plain, Passant as passant, Castle as castling}
use Rattle.laws.specs.Moves.{goes}
use Rattle.laws.specs.Unmaking.{before, state_before, way_back, unmade, undoable}
use Rattle.squares.proofs.Testing.{both, left, right}
use Rattle.squares.proofs.Every.{all_at, all_of}
use Rattle.laws.proofs.Mans.{is_empty_lem, passant_is, castling_is}
use Rattle.laws.proofs.Facts.{Accepts, accepts}
use Rattle.laws.proofs.Retracting.{mover, can_retract, Back, back, done_of}
use Rattle.laws.proofs.Rights.{keeps_held}
use Rattle.laws.proofs.Kings.{kings_back, no_king_numbered, same_weight}
use Rattle.laws.proofs.PawnRanks.{Inner, pawns_back}
use Rattle.laws.proofs.RightsBack.{rights_unmade}
use Rattle.laws.proofs.StateBack.{around, state_back}

pub record Passes (p : Pos) : Type 0 where
  pub kings : kings_ok p.men ≡ true
  pub pawns : pawns_ok p.men ≡ true
  pub rights : rights_ok p.men p.rights ≡ true
  pub state : state_ok p.terms.edition p.men p.turn p.state ≡ true

pub passes_of : (p : Pos) → Accepts p → Passes p
passes_of p a = record { kings = a.kings; pawns = a.pawns; rights = a.rights; state = a.state }

pub unmade_passes : (p : Pos) (r : ChessRetraction) → accepted p ≡ true → can_retract p r ≡ true → Passes (unmade p r)
unmade_passes p r ok R = record {
  kings = both (eq-eqb _ _ (kings_at White ∙ eqb-true _ _ (left _ _ today.kings))) (eq-eqb _ _ (kings_at Black ∙ eqb-true _ _ (right _ _ today.kings)));
  pawns = all_of 64 (λ j. not (is_pawn ((unmade p r).men j) and edge j))
      (pawns_back w p.men c t s x y b.can.source_in (subst (Inner t) b.there b.can.target_inner) b.can.source_inner b.can.undo
      (all_at 64 (λ j. not (is_pawn (p.men j) and edge j)) today.pawns));
  rights = rights_unmade w p.men p.rights c t s x y today.rights (done_of w c s p.men b.can.undo)
      (keeps_held p.men p.rights c t s today.rights b.can.target_bare b.can.mine b.can.not_held)
      (λ d q. let k = castling_is x t s u c d b.mine q in (k.0, k.2));
  state = state_at w refl;
}
  where
    today : Accepts p
    today = accepts p ok

    b : Back p r
    b = back p r R

    c : Color
    c = retractor p

    t : ℕ
    t = r.target

    s : ℕ
    s = r.source

    u : ℕ
    u = r.uncaptured

    x : Man
    x = mover p r

    y : Man
    y = numbered (opp c) u

    w : Way
    w = way_back c p r

    kings_at : (d : Color) → number (unmade p r).men d King ≡ number p.men d King
    kings_at d =
        kings_back w p.men c d t s x y b.can.target_in b.can.source_in b.can.target_bare (no_king_numbered d (opp c) u)
        (same_weight c d r.unpromotion (p.men s) s b.marked) b.can.undo (λ e q. (castling_is x t s u c e b.mine q).1)

    state_at : (v : Way) → w ≡ v → state_ok p.terms.edition (before v c t s x y p.men) c (state_before v c s) ≡ true
    state_at plain q = refl
    state_at (castling d) q = refl
    state_at passant q =
        state_back p.terms.edition p.men c t s x y b.can.target_in (around c t s b.can.target_in b.can.source_in (eqb-true _ _ (left _ _ (left _ _ un))) takes)
        k.0 (ap (numbered (opp c)) k.1) (is_empty_lem _ (right _ _ un))
      where
        k : (x ≡ man c Pawn) × (u ≡ 0)
        k = passant_is x t s u c b.mine q

        un : undoable passant c s p.men ≡ true
        un = subst (λ (z : Way). undoable z c s p.men ≡ true) q b.can.undo

        takes : pawn_takes c t s ≡ true
        takes = left _ _ (subst (λ (z : Way). goes (unmade p r) z t s u ≡ true) q b.going)
