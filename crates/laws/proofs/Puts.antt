-- Laws of `put`: a board after edits, square by square. The outermost edit of a square counts.
use mathlib.Core.Path.{◌≡◌, refl, sym, ap, ◌∙◌, fun_ext}
use mathlib.Core.Logic.{◌≢◌}
use mathlib.Core.Bool.{Bool, true, false, cond}
use Prim.Native.Nat.{ℕ}
use lib.Dec.{eqb}
use borrow.Author.Tests.{eqb-true, eq-eqb, ne_eqb, eqb-false}
use Rattle.geometry.specs.declared.Color.{Color}
use Rattle.geometry.specs.Colors.{opp, behind}
use Rattle.laws.specs.declared.Piece.TheVariants.{Pawn, Rook}
use Rattle.laws.specs.Men.{Man, empty, man, Men, put}
use Rattle.laws.specs.Positions.{corner, rook_to}
use Rattle.laws.specs.declared.Way.{Way}
use Rattle.laws.specs.declared.Way.TheVariants.{Plain as plain, Passant as passant, Castle as castling}
use Rattle.laws.specs.Moves.{after}
use Rattle.laws.specs.Unmaking.{before}

pub put_at : (k : ℕ) (x : Man) (m : Men) → put k x m k ≡ x
put_at k x m = ap (λ (b : Bool). cond b x (m k)) (eq-eqb k k refl)

pub put_off : (k : ℕ) (x : Man) (m : Men) (j : ℕ) → j ≢ k → put k x m j ≡ m j
put_off k x m j ne = ap (λ (b : Bool). cond b x (m j)) (ne_eqb j k ne)

-- one edit seen from the square j, where z stands without it: the edit gives m's own man, or it is elsewhere
pub over : (m : Men) (k : ℕ) {x : Man} (j : ℕ) {z : Man} → m k ≡ x → (j ≢ k → z ≡ m j) → cond (eqb j k) x z ≡ m j
over m k {x} j {z} h g = go (eqb j k) refl
  where
    go : (b : Bool) → eqb j k ≡ b → cond b x z ≡ m j
    go true e = sym h ∙ ap m (sym (eqb-true j k e))
    go false e = g (eqb-false j k e)

pub off : (k : ℕ) (x : Man) (j : ℕ) {z y : Man} → j ≢ k → z ≡ y → cond (eqb j k) x z ≡ y
off k x j {z} ne e = ap (λ (b : Bool). cond b x z) (ne_eqb j k ne) ∙ e

-- what must stand on the squares that a way touches beside the move's own, before it and after it
abbrev pub Ready : Way → Color → ℕ → Men → Type 0
Ready plain c s m = Unit {0}
Ready passant c s m = m (behind c s) ≡ man (opp c) Pawn
Ready (castling d) c s m = (m (corner c d) ≡ man c Rook) × (m (rook_to c d) ≡ empty)

abbrev pub Done : Way → Color → ℕ → Men → Type 0
Done plain c s m = Unit {0}
Done passant c s m = m (behind c s) ≡ empty
Done (castling d) c s m = (m (rook_to c d) ≡ man c Rook) × (m (corner c d) ≡ empty)

-- the move forward takes the move back off
pub after_before : (w : Way) (c : Color) (t s : ℕ) (x y a : Man) (m : Men) → m s ≡ a → m t ≡ empty → Done w c s m → after w c t s a (before w c t s x y m) ≡ m
after_before plain c t s x y a m hs ht d =
    fun_ext λ j. over m s j hs λ js. over m t j ht λ jt. off t x j jt (off s y j js refl)
after_before passant c t s x y a m hs ht d =
    fun_ext λ j. over m s j hs λ js. over m t j ht λ jt. over m (behind c s) j d λ jv.
    off t x j jt (off (behind c s) (man (opp c) Pawn) j jv (off s y j js refl))
after_before (castling i) c t s x y a m hs ht d =
    fun_ext λ j. over m s j hs λ js. over m (rook_to c i) j d.0 λ jr. over m t j ht λ jt. over m (corner c i) j d.1 λ jc.
    off t x j jt (off (corner c i) (man c Rook) j jc (off s y j js (off (rook_to c i) empty j jr refl)))

-- and the other way round
pub before_after : (w : Way) (c : Color) (t s : ℕ) (x y a : Man) (m : Men) → m t ≡ x → m s ≡ y → Ready w c s m → before w c t s x y (after w c t s a m) ≡ m
before_after plain c t s x y a m ht hs d =
    fun_ext λ j. over m t j ht λ jt. over m s j hs λ js. off s a j js (off t empty j jt refl)
before_after passant c t s x y a m ht hs d =
    fun_ext λ j. over m t j ht λ jt. over m (behind c s) j d λ jv. over m s j hs λ js.
    off s a j js (off t empty j jt (off (behind c s) empty j jv refl))
before_after (castling i) c t s x y a m ht hs d =
    fun_ext λ j. over m t j ht λ jt. over m (corner c i) j d.0 λ jc. over m s j hs λ js. over m (rook_to c i) j d.1 λ jr.
    off s a j js (off (rook_to c i) (man c Rook) j jr (off t empty j jt (off (corner c i) empty j jc refl)))
