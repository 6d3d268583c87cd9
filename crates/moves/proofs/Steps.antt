-- What the code's numbers and sets say of men, ways and steps.
use mathlib.Core.Path.{◌≡◌, refl, sym, ap, ap₂, ◌∙◌}
use mathlib.Core.Bool.{Bool, true, false, not, cond, ◌&&◌, ◌||◌, false≢true, not-not}
use Prim.Native.Nat.{ℕ, zero, suc, ◌+◌, ◌/◌, ◌%◌, ◌≤◌, ◌<◌}
use native.Mathlib.Omega.{arith}
use lib.Dec.{eqb, leb, ltb}
use borrow.Author.Tests.{eqb-true, eq-eqb, ne_eqb, lt-ltb, le-ltb, le-leb, ltb-true, ltb-false, leb-true}
use Rattle.squares.specs.Tests.{◌and◌, ◌or◌}
use Rattle.squares.specs.Squares.{has, set_of}
use Rattle.geometry.specs.declared.Color.{Color}
use Rattle.geometry.specs.Colors.{opp, rank_for}
use Rattle.geometry.specs.Lines.{apart, files, between, straight, free, clear}
use Rattle.geometry.specs.Steps.{knight_step, king_step, pawn_step, pawn_double, pawn_takes, slide_line}
use Rattle.laws.specs.declared.Piece.TheVariants.{Pawn, Knight, King}
use Rattle.laws.specs.declared.ChessRetraction.{ChessRetraction}
use Rattle.laws.specs.Men.{Man, man, Men, man_number, man_of, numbered, same_man, is_empty, is_of, bare}
use Rattle.laws.specs.Attacks.{union_of}
use Rattle.laws.specs.Positions.{Pos, king_home, king_to}
use Rattle.laws.specs.declared.Side.TheVariants.{Short as short, Long as long}
use Rattle.laws.specs.declared.Way.TheVariants.{Plain as plain}
use Rattle.laws.specs.Moves.{way, goes, mark_ok}
use Rattle.position.specs.inner.Edits.{man_with, color_by}
use Rattle.laws.specs.declared.Way.{Way}
use Rattle.moves.specs.Stepping.{possible_for}
use Rattle.moves.specs.inner.Parts.{way_by, way_for, moves_for, goes_for}
use Rattle.squares.proofs.Testing.{both, left, or_false, bool_ext}
use Rattle.squares.proofs.Comprehension.{has_set_of}
use Rattle.squares.proofs.Every.{all_cong}
use Rattle.position.proofs.Editing.{man_split, is_man}
use Rattle.position.proofs.Composing.{numbered_is}
use Rattle.laws.specs.Moves as laws

-- the man whose kind's number is k
pub man_is : (x k : ℕ) → x < 14 → x / 2 ≡ k → man_of x ≡ man_with (color_by x) k
man_is x k h e = man_split x h ∙ ap (λ (n : ℕ). man_with (color_by x) n) e

-- ways
pub files_apart : (a b : ℕ) → eqb a b ≡ eqb (apart a b) 0
files_apart a b =
    bool_ext (eqb a b) (eqb (apart a b) 0)
    (λ e. let h : a ≡ b = eqb-true a b e in eq-eqb (apart a b) 0 (omega arith))
    (λ e. let h : apart a b ≡ 0 = eqb-true (apart a b) 0 e in eq-eqb a b (omega arith))

pub not_home : (k h : Bool) (w : Way) → (k && h) ≡ false → plain ≡ cond k (cond h w plain) plain
not_home true true w e = absurd (false≢true (sym e))
not_home true false w e = refl
not_home false h w e = refl

way_with : (c : Color) (k t s u : ℕ) → k < 7
    → way_by (eqb k 1) (eqb k 6) (eqb u 0 and not (eqb (files t s) 0)) (eqb t (king_home c)) (eqb s (king_to c short)) (eqb s (king_to c long)) ≡ way (man_with c k) t s u
way_with c zero t s u h = refl
way_with c (suc zero) t s u h = refl
way_with c (suc (suc zero)) t s u h = refl
way_with c (suc (suc (suc zero))) t s u h = refl
way_with c (suc (suc (suc (suc zero)))) t s u h = refl
way_with c (suc (suc (suc (suc (suc zero))))) t s u h = refl
way_with c (suc (suc (suc (suc (suc (suc zero)))))) t s u h = refl
way_with c (suc (suc (suc (suc (suc (suc (suc n))))))) t s u h = absurd (omega arith)

pub way_is : (x t s u : ℕ) → x < 14
    → way_by (eqb (x / 2) 1) (eqb (x / 2) 6) (eqb u 0 && not (eqb (t % 8) (s % 8))) (eqb t (king_home (color_by x))) (eqb s (king_to (color_by x) short)) (eqb s (king_to (color_by x) long))
    ≡ way_for (man_of x) t s u
unfolding way_for ◌and◌
way_is x t s u h =
    ap (λ (b : Bool). way_by (eqb (x / 2) 1) (eqb (x / 2) 6) (eqb u 0 and not b) (eqb t (king_home (color_by x))) (eqb s (king_to (color_by x) short)) (eqb s (king_to (color_by x) long)))
    (files_apart (t % 8) (s % 8))
    ∙ way_with (color_by x) (x / 2) t s u (omega arith) ∙ ap (λ (z : Man). way z t s u) (sym (man_split x h))

-- no man between, tested on the union
pub clear_is : (m : Men) (a b : ℕ) → clear (free (union_of m)) a b ≡ clear (bare m) a b
unfolding clear
clear_is m a b =
    all_cong 64 (λ k. not (between a b k) or free (union_of m) k) (λ k. not (between a b k) or bare m k)
    (λ k l. ap (λ (t : Bool). not (between a b k) or t) (ap not (has_set_of (λ j. not (is_empty (m j))) k l) ∙ not-not (is_empty (m k))))

-- the men's steps
module _ (m : Men) (c : Color) (t s u : ℕ) (h : s < 64) where
  pub pawn_takes_lem : (u ≡ 0 → ⊥) → has (set_of (pawn_takes c t)) s ≡ moves_for m (man c Pawn) t s u
  unfolding moves_for
  pawn_takes_lem z = has_set_of (pawn_takes c t) s h ∙ sym (ap (λ (b : Bool). cond b (laws.pawn_goes m c t s) (pawn_takes c t s)) (ne_eqb u 0 z))

  pub pawn_goes : u ≡ 0 → (has (set_of (pawn_step c t)) s or (has (set_of (pawn_double c t)) s and clear (bare m) t s)) ≡ moves_for m (man c Pawn) t s u
  unfolding moves_for
  pawn_goes z =
      ap₂ (λ (a b : Bool). a or (b and clear (bare m) t s)) (has_set_of (pawn_step c t) s h) (has_set_of (pawn_double c t) s h)
      ∙ sym (ap (λ (b : Bool). cond b (laws.pawn_goes m c t s) (pawn_takes c t s)) (eq-eqb u 0 z))

  pub knight_goes : has (set_of (knight_step t)) s ≡ moves_for m (man c Knight) t s u
  unfolding moves_for
  knight_goes = has_set_of (knight_step t) s h

  pub king_goes : has (set_of (king_step t)) s ≡ moves_for m (man c King) t s u
  unfolding moves_for
  king_goes = has_set_of (king_step t) s h

-- a bishop, a rook, a queen, or nothing
pub slide_goes : (m : Men) (c : Color) (k t s u : ℕ) → k < 7 → (k ≡ 1 → ⊥) → (k ≡ 2 → ⊥) → (k ≡ 6 → ⊥)
    → (slide_line (eqb k 4 or eqb k 5) (eqb k 3 or eqb k 5) t s and clear (bare m) t s) ≡ moves_for m (man_with c k) t s u
unfolding moves_for slide_line ◌and◌ ◌or◌
slide_goes m c zero t s u h a b d = refl
slide_goes m c (suc zero) t s u h a b d = absurd (a refl)
slide_goes m c (suc (suc zero)) t s u h a b d = absurd (b refl)
slide_goes m c (suc (suc (suc zero))) t s u h a b d = refl
slide_goes m c (suc (suc (suc (suc zero)))) t s u h a b d = ap (λ (z : Bool). z and clear (bare m) t s) (or_false (straight t s))
slide_goes m c (suc (suc (suc (suc (suc zero))))) t s u h a b d = refl
slide_goes m c (suc (suc (suc (suc (suc (suc zero)))))) t s u h a b d = absurd (d refl)
slide_goes m c (suc (suc (suc (suc (suc (suc (suc n))))))) t s u h a b d = absurd (omega arith)

-- a pawn that takes has come up a rank
pub came_up : (c : Color) (t s : ℕ) → pawn_takes c t s ≡ true → 0 < rank_for c s
unfolding pawn_takes
came_up c t s e = let h : rank_for c s ≡ rank_for c t + 1 = eqb-true (rank_for c s) (rank_for c t + 1) (left _ _ e) in omega arith

pub not_then : (a b : Bool) → a ≡ false → false ≡ (a and b)
unfolding ◌and◌
not_then true b e = absurd (false≢true (sym e))
not_then false b e = refl

pub and_then : (a b : Bool) {z : Bool} → a ≡ true → z ≡ b → z ≡ (a and b)
unfolding ◌and◌
and_then true b e h = h
and_then false b e h = absurd (false≢true e)

-- the whole test
abbrev rest : Pos → ChessRetraction → ℕ → Bool → Bool
rest p r k z =
    z and is_of p.turn (p.men r.target) and same_man (p.men r.source) (numbered (opp p.turn) r.uncaptured)
    and mark_ok (p.men r.target) p.turn r.source r.unpromotion k
    and goes p (way (p.men r.target) r.target r.source r.uncaptured) r.target r.source r.uncaptured

-- what the first test of the numbers says
pub impossible : (p : Pos) (r : ChessRetraction) (k : ℕ) → ((ltb 63 r.source || ltb 63 r.target) || ltb 5 r.uncaptured) ≡ true → false ≡ possible_for p r k
unfolding ◌and◌ possible_for
impossible p r k e = sym (ap (rest p r k) (lost (ltb r.source 64) (ltb r.target 64) (leb r.uncaptured 5) refl refl refl))
  where
    lost : (a b d : Bool) → ltb r.source 64 ≡ a → ltb r.target 64 ≡ b → leb r.uncaptured 5 ≡ d → (a and b and d) ≡ false
    lost false b d x y z = refl
    lost true false d x y z = refl
    lost true true false x y z = refl
    lost true true true x y z = absurd (false≢true (sym (ap₂ (λ (i j : Bool). i || j) (ap₂ (λ (i j : Bool). i || j) (le-ltb 63 r.source (below (ltb-true r.source 64 x))) (le-ltb 63 r.target (below (ltb-true r.target 64 y)))) (le-ltb 5 r.uncaptured (leb-true r.uncaptured 5 z))) ∙ e))
      where
        below : {n : ℕ} → n < 64 → n ≤ 63
        below h = omega arith

pub in_range : (s t u : ℕ) → ((ltb 63 s || ltb 63 t) || ltb 5 u) ≡ false → (s < 64) × (t < 64) × (u < 6)
in_range s t u e =
    let first : (ltb 63 s || ltb 63 t) ≡ false = no_left (ltb 63 s || ltb 63 t) (ltb 5 u) e in (
      omega (arith, ltb-false 63 s (no_left (ltb 63 s) (ltb 63 t) first)),
      omega (arith, ltb-false 63 t (no_right (ltb 63 s) (ltb 63 t) first)),
      omega (arith, ltb-false 5 u (no_right (ltb 63 s || ltb 63 t) (ltb 5 u) e)),
    )
  where
    no_left : (a b : Bool) → (a || b) ≡ false → a ≡ false
    no_left true b e = e
    no_left false b e = refl

    no_right : (a b : Bool) → (a || b) ≡ false → b ≡ false
    no_right true b e = absurd (false≢true (sym e))
    no_right false b e = e

pub possible_is : (p : Pos) (r : ChessRetraction) (k : ℕ) {x y v : ℕ} {a f g : Bool} (w : Way) → (r.source < 64) × (r.target < 64) × (r.uncaptured < 6)
    → x ≡ man_number (p.men r.target) → y ≡ man_number (p.men r.source) → v ≡ man_number (man_with (opp p.turn) r.uncaptured)
    → w ≡ way_for (man_of x) r.target r.source r.uncaptured → a ≡ is_of p.turn (man_of x) → f ≡ mark_ok (man_of x) p.turn r.source r.unpromotion k
    → g ≡ goes_for p w r.target r.source r.uncaptured → (((a && eqb y v) && f) && g) ≡ possible_for p r k
unfolding ◌and◌ possible_for way_for goes_for
possible_is p r k {x} {y} {v} {a} {f} {g} w h nx ny nv ew ea ef eg =
    ap₂ (λ (i j : Bool). i && j)
    (ap₂ (λ (i j : Bool). i && j)
    (ap₂ (λ (i j : Bool). i && j) (ea ∙ ap (is_of p.turn) is)
    (ap₂ eqb ny (nv ∙ ap man_number (numbered_is (opp p.turn) r.uncaptured (omega (arith, h.2))))))
    (ef ∙ ap (λ (z : Man). mark_ok z p.turn r.source r.unpromotion k) is))
    (eg ∙ ap (λ (z : Way). goes p z r.target r.source r.uncaptured) (ew ∙ ap (λ (z : Man). way z r.target r.source r.uncaptured) is))
    ∙ sym (ap (rest p r k) inside)
  where
    is : man_of x ≡ p.men r.target
    is = is_man (p.men r.target) nx

    inside : (ltb r.source 64 and ltb r.target 64 and leb r.uncaptured 5) ≡ true
    inside = both (both (lt-ltb r.source 64 h.0) (lt-ltb r.target 64 h.1)) (le-leb r.uncaptured 5 (omega (arith, h.2)))
