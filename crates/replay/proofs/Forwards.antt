-- Replay on arrays is the Laws' move on their men.
use mathlib.Core.Path.{◌≡◌, refl, sym, ap, ap₂, ◌∙◌, subst}
use mathlib.Core.Logic.{⊎_elim}
use mathlib.Core.Bool.{Bool, true, false, cond, ◌&&◌, ◌||◌}
use Prim.Native.Nat.{ℕ, zero, suc, ◌+◌, ◌/◌, ◌≤◌, ◌<◌}
use native.Mathlib.Omega.{arith}
use lib.Dec.{eqb}
use borrow.Author.Tests.{eqb-true, eq-eqb, ne_eqb, leb-true}
use Rattle.squares.specs.Tests.{◌and◌, ◌or◌}
use Rattle.geometry.specs.declared.Color.{Color}
use Rattle.geometry.specs.declared.Color.TheVariants.{White, Black}
use Rattle.geometry.specs.Colors.{opp, behind}
use Rattle.geometry.specs.Lines.{apart, ranks}
use Rattle.laws.specs.declared.Piece.TheVariants.{Pawn, Rook}
use Rattle.laws.specs.declared.CastleRights.{CastleRights}
use Rattle.laws.specs.declared.EnPassantFlag.{EnPassantFlag}
use Rattle.laws.specs.declared.Edition.{Edition}
use Rattle.laws.specs.declared.EnPassantFlag.TheVariants.{Some, None}
use Rattle.laws.specs.declared.ChessRetraction.{ChessRetraction}
use Rattle.laws.specs.Men.{Man, empty, man, Men, man_number, man_of, is_pawn}
use Rattle.laws.specs.Positions.{Pos, rights_of, rights_for, corner, rook_to}
use Rattle.laws.specs.declared.Side.TheVariants.{Short as short, Long as long}
use Rattle.laws.specs.Acceptance.{noted}
use Rattle.laws.specs.declared.Way.TheVariants.{Plain as plain, Passant as passant, Castle as castling}
use Rattle.laws.specs.Moves.{way, cleared, filled, after, goes, mark_ok, arriving, state_after, replayed}
use Rattle.laws.specs.Boards.{Clean, men_in, pos_at}
use Rattle.men.specs.inner.Standing.{noted_of}
use Rattle.laws.specs.declared.Position.{Position}
use Rattle.position.specs.inner.Edits.{with_men, man_with, color_by}
use Rattle.position.specs.Answers.{position_of}
use Rattle.laws.specs.declared.Way.{Way}
use Rattle.moves.specs.Stepping.{possible_for}
use Rattle.moves.specs.inner.Parts.{way_for}
use Rattle.unmake.specs.inner.Parts.{Fits}
use Rattle.replay.specs.inner.Parts.{after_for, state_for, keeps_for, Goes}
use Rattle.replay.specs.Replayed.{replayed_for}
use Rattle.squares.proofs.Testing.{left, right, bool_ext, either, or_left, or_right, order}
use Rattle.laws.proofs.Facts.{possibly}
use Rattle.laws.proofs.Boundaries.{corner_in, rook_to_in}
use Rattle.laws.proofs.ManSets.{OnBoard, men_on}
use Rattle.geometry.proofs.Behind.{behind_in}
use Rattle.moves.proofs.Steps.{came_up}
use Rattle.position.proofs.Editing.{man_split, kind_on, is_man}
use Rattle.position.proofs.Composing.{put_on, Keeps, four_on}

-- the men stay on the 64 squares
cleared_on : (w : Way) (c : Color) (s : ℕ) (m : Men) → s < 64 → Fits w c s → OnBoard m → OnBoard (cleared w c s m)
cleared_on plain c s m h f on = on
cleared_on passant c s m h f on = put_on (behind c s) empty m (behind_in c s h f).0 on
cleared_on (castling d) c s m h f on = put_on (corner c d) empty m (corner_in c d) on

filled_on : (w : Way) (c : Color) (m : Men) → OnBoard m → OnBoard (filled w c m)
filled_on plain c m on = on
filled_on passant c m on = on
filled_on (castling d) c m on = put_on (rook_to c d) (man c Rook) m (rook_to_in c d) on

-- the edits of a move
pub edits : (w : Way) (c : Color) (t s : ℕ) → t < 64 → s < 64 → Fits w c s → Keeps (cleared w c s) (filled w c) t
edits w c t s ht hs f = record { first_on = λ m on. cleared_on w c s m hs f on; square_in = ht; second_on = filled_on w c }

-- a double step, by ranks
two_apart : (a b : ℕ) → (eqb a (b + 2) or eqb b (a + 2)) ≡ eqb (apart a b) 2
two_apart a b =
    bool_ext (eqb a (b + 2) or eqb b (a + 2)) (eqb (apart a b) 2)
    (λ e. ⊎_elim (λ x. let h : a ≡ b + 2 = eqb-true a (b + 2) x in eq-eqb (apart a b) 2 (omega arith)) (λ x. let h : b ≡ a + 2 = eqb-true b (a + 2) x in eq-eqb (apart a b) 2 (omega arith))
    (either (eqb a (b + 2)) (eqb b (a + 2)) e))
    (λ e. let h : apart a b ≡ 2 = eqb-true (apart a b) 2 e in ⊎_elim (λ l. or_right (eqb a (b + 2)) (eq-eqb b (a + 2) (omega arith))) (λ l. or_left (eqb b (a + 2)) (eq-eqb a (b + 2) (omega arith))) (order a b))

-- the state by the code's one test
state_with : (v : Edition) (m : Men) (c : Color) (k t s : ℕ) → cond ((eqb k 1 && eqb (ranks t s) 2) && noted v m (opp c) s) (Some s) None ≡ state_after v m (man_with c k) t s
unfolding ◌and◌
state_with v m c zero t s = refl
state_with v m c (suc zero) t s = refl
state_with v m c (suc (suc zero)) t s = refl
state_with v m c (suc (suc (suc zero))) t s = refl
state_with v m c (suc (suc (suc (suc zero)))) t s = refl
state_with v m c (suc (suc (suc (suc (suc zero))))) t s = refl
state_with v m c (suc (suc (suc (suc (suc (suc n)))))) t s =
    ap (λ (b : Bool). cond ((b && eqb (ranks t s) 2) && noted v m (opp c) s) (Some s) None) (ne_eqb (suc (suc (suc (suc (suc (suc n)))))) 1 (λ e. omega arith))

pub state_is : (v : Edition) (m : Men) (x t s : ℕ) {a d g z : Bool} {e : Color} → x < 14 → z ≡ ((a && d) && g) → a ≡ is_pawn (man_of x) → d ≡ (eqb (t / 8) (s / 8 + 2) || eqb (s / 8) (t / 8 + 2))
    → g ≡ noted_of v m e s → e ≡ opp (color_by x) → cond z (Some s) None ≡ state_for v m (man_of x) t s
unfolding state_for noted_of ◌or◌
state_is v m x t s {a} {d} {g} {z} {e} h ez ea ed eg ee =
    ap (λ (b : Bool). cond b (Some s) None)
    (ez ∙ ap₂ (λ (i j : Bool). i && j)
    (ap₂ (λ (i j : Bool). i && j) (ea ∙ sym (kind_on x h Pawn)) (ed ∙ two_apart (t / 8) (s / 8)))
    (eg ∙ ap (λ (q : Color). noted v m q s) ee))
    ∙ state_with v m (color_by x) (x / 2) t s ∙ ap (λ (y : Man). state_after v m y t s) (sym (man_split x h))

-- what the test of the step tells
fits_of : (p : Pos) (w : Way) (t s u : ℕ) → goes p w t s u ≡ true → Fits w p.turn s
fits_of p plain t s u e = tt
fits_of p passant t s u e = came_up p.turn t s (left _ _ e)
fits_of p (castling d) t s u e = tt

kind_of : (x : Man) (c : Color) (s : ℕ) (mark : Bool) (k : ℕ) → mark_ok x c s mark k ≡ true → k < 6
kind_of x c s true k e = let h : k ≤ 5 = leb-true k 5 (right _ _ e) in omega arith
kind_of x c s false k e = let h : k ≡ 0 = eqb-true k 0 (right _ _ e) in omega arith

pub goes_of : (p : Position) (r : ChessRetraction) (k : ℕ) → Clean p.pieces p.colors → possible_for (pos_at p) r k ≡ true → Goes p r k
unfolding possible_for
goes_of p r k ok e = let b = possibly (pos_at p) r k e in record {
  sound = ok;
  source_in = b.source_in;
  target_in = b.target_in;
  kind_in = kind_of (men_in p r.target) p.turn r.source r.unpromotion k b.marked;
  fits = fits_of (pos_at p) (way (men_in p r.target) r.target r.source r.uncaptured) r.target r.source r.uncaptured b.going;
}

-- the whole position after the move
module _ (p : Position) (r : ChessRetraction) (k : ℕ) (h : Goes p r k) where
  pub later_on : OnBoard (replayed (pos_at p) r k).men
  later_on =
      four_on (edits (way (men_in p r.target) r.target r.source r.uncaptured) p.turn r.target r.source h.target_in h.source_in h.fits)
      r.source empty (arriving r.unpromotion (men_in p r.target) p.turn k) (men_in p) h.source_in (men_on p.pieces p.colors)

  module _ {x : ℕ} (ex : x ≡ man_number (men_in p r.target)) {w : Way} (ew : w ≡ way_for (man_of x) r.target r.source r.uncaptured) where
    there : man_of x ≡ men_in p r.target
    there = is_man (men_in p r.target) ex

    way_is : w ≡ way (men_in p r.target) r.target r.source r.uncaptured
    unfolding way_for
    way_is = ew ∙ ap (λ (y : Man). way y r.target r.source r.uncaptured) there

    pub fits_is : Fits w p.turn r.source
    fits_is = subst (λ (v : Way). Fits v p.turn r.source) (sym way_is) h.fits

    pub forward_is : (z : ℕ) {m : Position} {c : Color} {u v : CastleRights} {f : EnPassantFlag} → man_of z ≡ arriving r.unpromotion (man_of x) p.turn k
        → m ≡ with_men p (after_for w p.turn r.target r.source (man_of z) (men_in p)) → c ≡ opp p.turn
        → u ≡ rights_for (rights_of p.white p.black White short and keeps_for r.target r.source White short) (rights_of p.white p.black White long and keeps_for r.target r.source White long)
        → v ≡ rights_for (rights_of p.white p.black Black short and keeps_for r.target r.source Black short) (rights_of p.white p.black Black long and keeps_for r.target r.source Black long)
        → f ≡ state_for p.terms.edition (men_in p) (man_of x) r.target r.source
        → ◌≡◌ {A = Position} (record { pieces = m.pieces; colors = m.colors; turn = c; white = u; black = v; passant = f; terms = m.terms }) (replayed_for (pos_at p) r k)
    unfolding keeps_for state_for after_for replayed_for position_of with_men
    forward_is z {m} ez em ec eu ev ef = λ i. record {
      pieces = (men i).pieces;
      colors = (men i).colors;
      turn = ec i;
      white = eu i;
      black = ev i;
      passant = (ef ∙ ap (λ (y : Man). state_after p.terms.edition (men_in p) y r.target r.source) there) i;
      terms = (men i).terms;
    }
      where
        men : m ≡ with_men p (replayed (pos_at p) r k).men
        men = em ∙ (λ i. with_men p (after (way_is i) p.turn r.target r.source ((ez ∙ ap (λ (y : Man). arriving r.unpromotion y p.turn k) there) i) (men_in p)))
