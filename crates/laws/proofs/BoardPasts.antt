-- Demand 3 for boards of bit sets: every position on the 64 squares is that of a board.
use mathlib.Core.Path.{◌≡◌, refl, sym, ap, subst, fun_ext}
use mathlib.Core.Logic.{◌↔◌}
use mathlib.Core.Bool.{Bool, true, false}
use Prim.Native.Nat.{ℕ, ◌<◌}
use native.Mathlib.Omega.{arith}
use lib.Dec.{eqb}
use borrow.Author.Tests.{eqb-true, eq-eqb}
use Rattle.geometry.specs.declared.Color.{Color}
use Rattle.geometry.specs.declared.Color.TheVariants.{White, Black}
use Rattle.geometry.specs.Colors.{opp}
use Rattle.laws.specs.declared.Piece.TheVariants.{Pawn, Rook}
use Rattle.laws.specs.declared.ChessRetraction.{ChessRetraction}
use Rattle.laws.specs.Men.{Man, empty, man, Men, numbered, put}
use Rattle.laws.specs.Attacks.{union_of, checkers_of, pins_of}
use Rattle.laws.specs.declared.Side.{Side}
use Rattle.laws.specs.declared.Side.TheVariants.{Short as short, Long as long}
use Rattle.laws.specs.Positions.{Rights, holds, rights_of, rights_for, Pos, retractor, corner, rook_to}
use Rattle.laws.specs.Acceptance.{accepted}
use Rattle.laws.specs.declared.Way.{Way}
use Rattle.laws.specs.declared.Way.TheVariants.{Plain as plain, Passant as passant, Castle as castling}
use Rattle.laws.specs.declared.Board.{Board}
use Rattle.laws.specs.Unmaking.{before, way_back, unmade, undoable}
use Rattle.laws.specs.Strictness.{Gives, strict}
use Rattle.laws.specs.Retractions.{InRange}
use Rattle.laws.specs.StrictLists.{place, strict_places, In}
use Rattle.laws.specs.Boards.{men_at, pos_of, Shaped, accepted_board, kind_sets, color_sets, board_of, BoardPast}
use Rattle.squares.proofs.Testing.{both, left}
use Rattle.laws.proofs.Boundaries.{behind_in, corner_in, rook_to_in}
use Rattle.laws.proofs.Puts.{off}
use Rattle.laws.proofs.Retracting.{kind_today, mover, can_retract, back}
use Rattle.laws.proofs.ManSets.{OnBoard, men_shown, men_ok_lem, men_on, kinds_lt, colours_lt}
use Rattle.laws.proofs.Demand3.{sound, complete}
use Rattle.laws.proofs.StrictMembers.{strict_member}

rights_shown : (ρ : Rights) → rights_of (rights_for (ρ White short) (ρ White long)) (rights_for (ρ Black short) (ρ Black long)) ≡ ρ
rights_shown ρ = fun_ext λ c. fun_ext λ d. at c d
  where
    two : (a b : Bool) (d : Side) → holds (rights_for a b) d ≡ (elim d as (λ _. Bool) [ short ↦ a | long ↦ b ])
    two true true short = refl
    two true true long = refl
    two true false short = refl
    two true false long = refl
    two false true short = refl
    two false true long = refl
    two false false short = refl
    two false false long = refl

    at : (c : Color) (d : Side) → rights_of (rights_for (ρ White short) (ρ White long)) (rights_for (ρ Black short) (ρ Black long)) c d ≡ ρ c d
    at White short = two (ρ White short) (ρ White long) short
    at White long = two (ρ White short) (ρ White long) long
    at Black short = two (ρ Black short) (ρ Black long) short
    at Black long = two (ρ Black short) (ρ Black long) long

-- a position on the 64 squares is that of its board
pub pos_shown : (p : Pos) → OnBoard p.men → pos_of (board_of p) ≡ p
pos_shown p on = λ i. record { men = men_shown p.men on i; turn = p.turn; rights = rights_shown p.rights i; state = p.state; terms = p.terms }

pub shaped : (p : Pos) → Shaped (board_of p)
unfolding kind_sets color_sets
shaped p = record { six = refl; two = refl; kinds_fit = kinds_lt p.men; colors_fit = colours_lt p.men }

pub board_accepted : (p : Pos) → OnBoard p.men → accepted p ≡ true → accepted_board (board_of p) ≡ true
board_accepted p on ok =
    both (both (men_ok_lem p.men) (subst (λ (q : Pos). accepted q ≡ true) (sym (pos_shown p on)) ok)) (both (both
    (fresh (λ m. union_of m)) (fresh (λ m. checkers_of m p.turn))) (fresh (λ m. pins_of m p.turn)))
  where
    fresh : (f : Men → ℕ) → eqb (f p.men) (f (men_at (kind_sets p.men) (color_sets p.men))) ≡ true
    fresh f = eq-eqb _ _ (ap f (sym (men_shown p.men on)))

-- the un-made men stand on the 64 squares
pub put_on : (k : ℕ) (x : Man) (m : Men) → k < 64 → OnBoard m → OnBoard (put k x m)
put_on k x m h o j l = off k x j (λ e. apart e) (o j l)
  where
    apart : j ≡ k → ⊥
    apart e = omega arith

before_on : (w : Way) (c : Color) (t s : ℕ) (x y : Man) (m : Men) → t < 64 → s < 64 → undoable w c s m ≡ true → OnBoard m → OnBoard (before w c t s x y m)
before_on plain c t s x y m ht hs h o = put_on t x _ ht (put_on s y m hs o)
before_on passant c t s x y m ht hs h o =
    put_on t x _ ht (put_on _ (man (opp c) Pawn) _ (behind_in c s hs (eqb-true _ _ (left _ _ (left _ _ h)))) (put_on s y m hs o))
before_on (castling d) c t s x y m ht hs h o =
    put_on t x _ ht (put_on (corner c d) (man c Rook) _ (corner_in c d) (put_on s y _ hs (put_on (rook_to c d) empty m (rook_to_in c d) o)))

pub unmade_on : (p : Pos) (r : ChessRetraction) → OnBoard p.men → can_retract p r ≡ true → OnBoard (unmade p r).men
unmade_on p r on R =
    let b = back p r R in
    before_on (way_back (retractor p) p r) (retractor p) r.target r.source (mover p r) (numbered (opp (retractor p)) r.uncaptured) p.men b.can.target_in b.can.source_in b.can.undo on

-- demand 3, of boards
pub demand3 : (b : Board) (r : ChessRetraction) → accepted (pos_of b) ≡ true → (strict (pos_of b) r ≡ true) ↔ BoardPast b r
demand3 b r ok = (there, λ q. complete (pos_of q.0) (pos_of b) r q.1 q.4)
  where
    p : Pos
    p = pos_of b

    e : Pos
    e = unmade p r

    there : strict p r ≡ true → BoardPast b r
    there h = (board_of e, kind_today p r, shaped e, board_accepted e on g.is_accepted, subst (λ (q : Pos). Gives q p r (kind_today p r)) (sym (pos_shown e on)) g)
      where
        g : Gives e p r (kind_today p r)
        g = sound p r ok h

        on : OnBoard e.men
        on = unmade_on p r (men_on b.pieces b.colors) (left _ _ (left _ _ (left _ _ (left _ _ h))))

-- the strict list of a board holds a retraction exactly when the retraction has a past of boards
pub strict_holds : (b : Board) (r : ChessRetraction) → accepted (pos_of b) ≡ true → InRange r → In (place r) (strict_places (pos_of b)) ↔ BoardPast b r
strict_holds b r ok h = (λ z. (demand3 b r ok).0 ((strict_member (pos_of b) r h).0 z), λ z. (strict_member (pos_of b) r h).1 ((demand3 b r ok).1 z))
