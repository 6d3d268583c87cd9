-- What is known of a retraction that passes 9 to 12.
use mathlib.Core.Path.{◌≡◌, subst}
use mathlib.Core.Bool.{Bool, true}
use Prim.Native.Nat.{ℕ}
use Rattle.geometry.specs.declared.Color.{Color}
use Rattle.geometry.specs.Colors.{opp}
use Rattle.laws.specs.declared.ChessRetraction.{ChessRetraction}
use Rattle.laws.specs.Men.{Man, Men, numbered, is_of, put}
use Rattle.laws.specs.Positions.{Pos, retractor}
use Rattle.laws.specs.declared.Way.{Way}
use Rattle.laws.specs.declared.Way.TheVariants.{Plain as plain, Passant as passant, Castle as castling}
use Rattle.laws.specs.Moves.{way, goes, mark_ok}
use Rattle.laws.specs.Unmaking.{uncleared, unfilled, leaving, way_back, unmade, undoable, promoted_to, retractable}
use Rattle.squares.proofs.Testing.{left, right}
use Rattle.laws.proofs.Mans.{same, is_empty_lem}
use Rattle.laws.proofs.Facts.{Possible, possibly, Retractable, retracts}
use Rattle.laws.proofs.Puts.{put_at, Done}

-- the kind promoted to, by today's man on the source
abbrev pub kind_today : Pos → ChessRetraction → ℕ
kind_today p r = promoted_to r.unpromotion (p.men r.source)

-- the man that left the target
abbrev pub mover : Pos → ChessRetraction → Man
mover p r = leaving r.unpromotion (retractor p) (p.men r.source)

abbrev pub can_retract : Pos → ChessRetraction → Bool
can_retract p r = retractable (way_back (retractor p) p r) (retractor p) (unmade p r) p r

pub record Back (p : Pos) (r : ChessRetraction) : Type 0 where
  pub can : Retractable (way_back (retractor p) p r) (retractor p) (unmade p r) p r
  pub step : Possible (unmade p r) r (kind_today p r)
  pub there : (unmade p r).men r.target ≡ mover p r
  pub mine : is_of (retractor p) (mover p r) ≡ true
  pub marked : mark_ok (mover p r) (retractor p) r.source r.unpromotion (kind_today p r) ≡ true
  pub going : goes (unmade p r) (way_back (retractor p) p r) r.target r.source r.uncaptured ≡ true

pub back : (p : Pos) (r : ChessRetraction) → can_retract p r ≡ true → Back p r
back p r R = record {
  can = ca;
  step = st;
  there = th;
  mine = subst (λ (z : Man). is_of c z ≡ true) th st.mine;
  marked = subst (λ (z : Man). mark_ok z c r.source r.unpromotion (kind_today p r) ≡ true) th st.marked;
  going = subst (λ (z : Man). goes (unmade p r) (way z r.target r.source r.uncaptured) r.target r.source r.uncaptured ≡ true) th st.going;
}
  where
    c : Color
    c = retractor p

    ca : Retractable (way_back c p r) c (unmade p r) p r
    ca = retracts (way_back c p r) c (unmade p r) p r R

    st : Possible (unmade p r) r (kind_today p r)
    st = possibly (unmade p r) r (kind_today p r) ca.step

    th : (unmade p r).men r.target ≡ mover p r
    th = put_at r.target (mover p r) (unfilled (way_back c p r) c r.source (put r.source (numbered (opp c) r.uncaptured) (uncleared (way_back c p r) c p.men)))

pub done_of : (w : Way) (c : Color) (s : ℕ) (m : Men) → undoable w c s m ≡ true → Done w c s m
done_of plain c s m h = tt
done_of passant c s m h = is_empty_lem _ (right _ _ (left _ _ h))
done_of (castling d) c s m h = (same _ _ (left _ _ h), is_empty_lem _ (right _ _ h))
