-- The answers of un-make: what the code's tests say is what the Laws say.
use mathlib.Core.Path.{◌≡◌, refl, sym, ap, ap₂, ◌∙◌, subst}
use mathlib.Core.Bool.{Bool, true, false, not, ◌&&◌, ◌||◌, false≢true}
use Prim.Native.Nat.{ℕ, ◌/◌, ◌%◌, ◌<◌}
use native.Mathlib.Omega.{arith}
use lib.Dec.{eqb, ltb}
use borrow.Author.Tests.{eqb-true, eq-eqb, ne_eqb, ltb-true}
use Rattle.squares.specs.Tests.{◌and◌}
use Rattle.squares.specs.Squares.{all_to}
use Rattle.geometry.specs.declared.Color.{Color}
use Rattle.geometry.specs.declared.Color.TheVariants.{White, Black}
use Rattle.geometry.specs.Colors.{opp, rank_for, behind}
use Rattle.laws.specs.declared.Way.{Way}
use Rattle.laws.specs.declared.Way.TheVariants.{Plain as plain, Passant as passant, Castle as castling}
use Rattle.laws.specs.declared.Position.{Position}
use Rattle.laws.specs.declared.ChessRetraction.{ChessRetraction}
use Rattle.laws.specs.Men.{Man, Men, man_number, man_of, numbered, is_empty, is_pawn}
use Rattle.laws.specs.Positions.{Pos, retractor}
use Rattle.laws.specs.Acceptance.{edge}
use Rattle.laws.specs.Moves.{way}
use Rattle.laws.specs.Unmaking.{leaving, promoted_to, way_back, unmade, unmade_by}
use Rattle.laws.specs.Boards.{Clean, men_in, pos_at}
use Rattle.position.specs.Answers.{position_of}
use Rattle.moves.specs.Stepping.{possible_for}
use Rattle.moves.specs.inner.Parts.{way_for}
use Rattle.unmake.specs.Retracted.{source_for, target_for, step_for, unmade_for}
use Rattle.unmake.specs.inner.Parts.{Fits, undoable_for, rest_for, Leaves}
use Rattle.squares.proofs.Testing.{left, and_false, agree, agree_eq}
use Rattle.squares.proofs.Every.{all_at}
use Rattle.laws.proofs.Cases.{by_colors}
use Rattle.position.proofs.Editing.{is_man}
use Rattle.position.proofs.Composing.{position_shown, position_clean}
use Rattle.moves.proofs.Steps.{impossible}
use Rattle.unmake.proofs.Backs.{earlier, earlier_on}

-- numbers of men
pub promoted_number : (y : ℕ) → y < 14 → y / 2 ≡ promoted_to true (man_of y)
unfolding all_to ◌and◌
promoted_number y h = eqb-true _ _ (all_at 14 (λ n. eqb (n / 2) (promoted_to true (man_of n))) refl y h)

pawn_number : (c : Color) (u : ℕ) → u < 6 → eqb u 1 ≡ is_pawn (numbered c u)
unfolding all_to ◌and◌
pawn_number c u h =
    agree_eq _ _ (all_at 6 (λ n. agree (eqb n 1) (is_pawn (numbered c n)))
    (by_colors (λ d. all_to 6 (λ n. agree (eqb n 1) (is_pawn (numbered d n)))) refl c) u h)

-- what un-make overwrites
pub up_five : (c : Color) (s : ℕ) → s < 64 → rank_for c s ≡ 5 → (0 < rank_for c s) × (0 < rank_for (opp c) s)
up_five White s h e = (omega arith, omega arith)
up_five Black s h e = (omega arith, omega arith)

pub crossed_is : (m : Men) (c : Color) (s : ℕ) → rank_for c s ≡ 5 → (is_empty (m (behind c s)) && is_empty (m (behind (opp c) s))) ≡ undoable_for passant c s m
unfolding undoable_for ◌and◌
crossed_is m c s e = ap (λ (t : Bool). t and is_empty (m (behind c s)) and is_empty (m (behind (opp c) s))) (sym (eq-eqb (rank_for c s) 5 e))

pub not_crossed : (m : Men) (c : Color) (s : ℕ) → (rank_for c s ≡ 5 → ⊥) → false ≡ undoable_for passant c s m
unfolding undoable_for ◌and◌
not_crossed m c s z = ap (λ (t : Bool). t and is_empty (m (behind c s)) and is_empty (m (behind (opp c) s))) (sym (ne_eqb (rank_for c s) 5 z))

fits_of : (w : Way) (c : Color) (s : ℕ) (m : Men) → undoable_for w c s m ≡ true → Fits w c s
unfolding undoable_for
fits_of plain c s m e = tt
fits_of passant c s m e = let h : rank_for c s ≡ 5 = eqb-true (rank_for c s) 5 (left _ _ (left _ _ e)) in omega arith
fits_of (castling d) c s m e = tt

-- 12 in two parts
split_step : (u a b p : Bool) → (u and a and b and p) ≡ (u and (a and b and p))
unfolding ◌and◌
split_step true a b p = refl
split_step false a b p = refl

no_and : (a b : Bool) → a ≡ false → (a and b) ≡ false
unfolding ◌and◌
no_and true b e = absurd (false≢true (sym e))
no_and false b e = refl

step_parts : (p : Pos) (r : ChessRetraction) → step_for p r
    ≡ (undoable_for (way_back (retractor p) p r) (retractor p) r.source p.men and rest_for (retractor p) (unmade p r) r (promoted_to r.unpromotion (p.men r.source)))
unfolding step_for undoable_for rest_for possible_for
step_parts p r = split_step _ _ _ _

pub step_over : (p : Pos) (r : ChessRetraction) → ltb 5 r.uncaptured ≡ true → step_for p r ≡ false
unfolding rest_for
step_over p r e =
    step_parts p r
    ∙ ap (λ (z : Bool). undoable_for (way_back (retractor p) p r) (retractor p) r.source p.men and z)
    (ap (λ (z : Bool). not (is_pawn (numbered (opp (retractor p)) r.uncaptured) and edge r.source) and not (is_pawn ((unmade p r).men r.target) and edge r.target) and z)
    (sym (impossible (unmade p r) r (promoted_to r.unpromotion (p.men r.source)) (over (ltb 63 r.source || ltb 63 r.target) e))) ∙ and_false _)
    ∙ and_false _
  where
    over : (a : Bool) {b : Bool} → b ≡ true → (a || b) ≡ true
    over true e = refl
    over false e = e

-- what the code knows where it un-makes: c is the retractor, y the man on the source, x the man that left, w the way back
pub record Known (p : Position) (r : ChessRetraction) (w : Way) (c : Color) (x y : ℕ) : Type 0 where
  pub colour : c ≡ opp p.turn
  pub stands : y ≡ man_number (men_in p r.source)
  pub left : man_of x ≡ leaving r.unpromotion c (man_of y)
  pub back : w ≡ way_for (man_of x) r.target r.source r.uncaptured

module _ (p : Position) (r : ChessRetraction) (w : Way) (c : Color) (x y : ℕ) (k : Known p r w c x y) where
  abbrev today : Pos
  today = pos_at p

  left_is : man_of x ≡ leaving r.unpromotion c (men_in p r.source)
  left_is = k.left ∙ ap (leaving r.unpromotion c) (is_man (men_in p r.source) k.stands)

  way_is : w ≡ way_back (retractor today) today r
  unfolding way_for
  way_is =
      k.back ∙ ap (λ (m : Man). way m r.target r.source r.uncaptured) left_is
      ∙ ap (λ (d : Color). way_back d today r) k.colour

  back_is : unmade_by w c today r ≡ unmade today r
  back_is = ap₂ (λ (v : Way) (d : Color). unmade_by v d today r) way_is k.colour

  undo_is : undoable_for w c r.source (men_in p) ≡ undoable_for (way_back (retractor today) today r) (retractor today) r.source (men_in p)
  undo_is = ap₂ (λ (v : Way) (d : Color). undoable_for v d r.source (men_in p)) way_is k.colour

  pub step_no : undoable_for w c r.source (men_in p) ≡ false → step_for today r ≡ false
  step_no e = step_parts today r ∙ no_and _ _ (sym undo_is ∙ e)

  pub leaves : Clean p.pieces p.colors → r.source < 64 → r.target < 64 → r.uncaptured < 6 → x < 14
      → undoable_for w c r.source (men_in p) ≡ true → Leaves p r w c x
  leaves ok hs ht hu hx e = record {
    sound = ok;
    source_in = hs;
    target_in = ht;
    uncaptured_in = hu;
    man_in = hx;
    man_is = left_is;
    fits = fits_of w c r.source (men_in p) e;
  }

  module _ (l : Leaves p r w c x) (e : Position) (ee : e ≡ position_of (unmade_by w c today r)) where
    pub back_clean : Clean e.pieces e.colors
    back_clean = subst (λ (q : Position). Clean q.pieces q.colors) (sym ee) (position_clean (earlier p r w c l) (earlier_on p r w c l))

    pos_is : pos_at e ≡ unmade today r
    pos_is = ap pos_at ee ∙ position_shown (earlier p r w c l) (earlier_on p r w c l) ∙ back_is

    pub step_is : (n : ℕ) (t : Bool) → n ≡ promoted_to r.unpromotion (man_of y) → undoable_for w c r.source (men_in p) ≡ true
        → t ≡ rest_for c (pos_at e) r n → step_for today r ≡ t
    unfolding ◌and◌
    step_is n t en eu et =
        step_parts today r
        ∙ ap₂ (λ (u v : Bool). u and v) (sym undo_is ∙ eu)
        (sym (et ∙ (λ i. rest_for (k.colour i) (pos_is i) r ((en ∙ ap (promoted_to r.unpromotion) (is_man (men_in p r.source) k.stands)) i))))

    pub position_is : e ≡ unmade_for today r
    unfolding unmade_for
    position_is = ee ∙ ap position_of back_is

-- the tests that the code writes out
pub rest_is : (c : Color) (e : Pos) (r : ChessRetraction) (k : ℕ) {a z : Bool} → r.uncaptured < 6 → a ≡ is_pawn (e.men r.target) → z ≡ possible_for e r k
    → ((not (eqb r.uncaptured 1 && eqb (r.source / 8 % 7) 0) && not (a && eqb (r.target / 8 % 7) 0)) && z) ≡ rest_for c e r k
unfolding ◌and◌ rest_for
rest_is c e r k {a} {z} h ea ez =
    ap₂ (λ (i j : Bool). i && j)
    (ap₂ (λ (i j : Bool). not (i && eqb (r.source / 8 % 7) 0) && not (j && eqb (r.target / 8 % 7) 0)) (pawn_number (opp c) r.uncaptured h) ea) ez

pub source_in : (p : Pos) (r : ChessRetraction) → source_for p r ≡ true → r.source < 64
unfolding source_for
source_in p r e = ltb-true r.source 64 (left _ _ e)

pub target_in : (p : Pos) (r : ChessRetraction) → target_for p r ≡ true → r.target < 64
unfolding target_for
target_in p r e = ltb-true r.target 64 (left _ _ e)
