-- Each statement of the Rust on the sets of some men, as edits of those men.
use mathlib.Core.Path.{◌≡◌, refl, sym, ap, ap₂, ◌∙◌, fun_ext}
use mathlib.Core.Logic.{◌≢◌}
use mathlib.Core.Bool.{Bool, true, false, cond, false≢true}
use Prim.Native.Nat.{ℕ, ◌<◌}
use native.Mathlib.Omega.{arith}
use lib.Dec.{eqb}
use lib.Bits.{bit_xor}
use borrow.Author.Tests.{eqb-true}
use Rattle.squares.specs.Squares.{file, only}
use Rattle.geometry.specs.declared.Color.{Color}
use Rattle.geometry.specs.declared.Color.TheVariants.{White, Black}
use Rattle.geometry.specs.Colors.{opp, rank_for, behind, back_of}
use Rattle.laws.specs.declared.Piece.{Piece}
use Rattle.laws.specs.declared.Piece.TheVariants.{Pawn, Rook}
use Rattle.laws.specs.declared.CastleRights.{CastleRights}
use Rattle.laws.specs.declared.CastleRights.TheVariants.{KingSide, QueenSide}
use Rattle.laws.specs.declared.EnPassantFlag.TheVariants.{Some}
use Rattle.laws.specs.declared.ChessRetraction.{ChessRetraction}
use Rattle.laws.specs.Men.{Man, empty, man, Men, is_empty, put}
use Rattle.laws.specs.declared.Side.{Side}
use Rattle.laws.specs.declared.Side.TheVariants.{Short as short, Long as long}
use Rattle.laws.specs.Positions.{king_home, corner, king_to, rook_to}
use Rattle.laws.specs.declared.Way.TheVariants.{Passant as passant, Castle as castling}
use Rattle.laws.specs.declared.Board.{Board}
use Rattle.laws.specs.Unmaking.{before, leaving}
use Rattle.incremental.specs.Moved.{xor_of, retraction_bb, stepped_of, uncaptured_of, is_uncastling, rights_stored, rooked_of, uncastled_of, is_passant_uncapture, passant_stored, reborn_of}
use Rattle.laws.proofs.Puts.{put_at, put_off, over, Done}
use Rattle.laws.proofs.StateBack.{Around}
use Rattle.incremental.proofs.Toggling.{with_men, lifts, puts, xor_one, xor_two}

-- edits of two squares in either order, of one square twice, and of a square by what it holds
put_comm : (i j : ℕ) (x y : Man) (m : Men) → i ≢ j → put i x (put j y m) ≡ put j y (put i x m)
put_comm i j x y m ne = fun_ext λ a. go a (eqb a i) (eqb a j) refl refl
  where
    go : (a : ℕ) (u v : Bool) → eqb a i ≡ u → eqb a j ≡ v → cond u x (cond v y (m a)) ≡ cond v y (cond u x (m a))
    go a true true p q = absurd (ne (sym (eqb-true a i p) ∙ eqb-true a j q))
    go a true false p q = refl
    go a false true p q = refl
    go a false false p q = refl

put_put : (i : ℕ) (x y : Man) (m : Men) → put i x (put i y m) ≡ put i x m
put_put i x y m = fun_ext λ a. go a (eqb a i)
  where
    go : (a : ℕ) (u : Bool) → cond u x (cond u y (m a)) ≡ cond u x (m a)
    go a true = refl
    go a false = refl

put_same : (i : ℕ) (x : Man) (m : Men) → m i ≡ x → put i x m ≡ m
put_same i x m e = fun_ext λ a. over m i a e λ ne. refl

-- the man x gone back to the target, and y on the source
abbrev pub gone : Men → ChessRetraction → Man → Man → Men
gone m r x y = put r.target x (put r.source y m)

-- the first two statements, on a board b with the men m: the man k of c on the source, nobody on the target
module _ (b : Board) (m : Men) (c : Color) (k : Piece) (r : ChessRetraction) (here : m r.source ≡ man c k) (bare : m r.target ≡ empty) where
  abbrev s : ℕ
  s = r.source

  abbrev t : ℕ
  t = r.target

  apart : s ≢ t
  apart e = false≢true (ap is_empty (sym here ∙ ap m e ∙ bare))

  pub stepped : stepped_of (with_men b m) k r c ≡ with_men b (put t (leaving r.unpromotion c (man c k)) (put s empty m))
  unfolding stepped_of
  stepped = go r.unpromotion
    where
      go : (u : Bool) → cond u (xor_of (xor_of (with_men b m) k (only s) c) Pawn (only t) c) (xor_of (with_men b m) k (retraction_bb r) c) ≡ with_men b (put t (leaving u c (man c k)) (put s empty m))
      go true =
          ap (λ (e : Board). xor_of e Pawn (only t) c) (xor_one b m c k s empty (lifts (m s) here))
          ∙ xor_one b (put s empty m) c Pawn t (man c Pawn) (puts (man c Pawn) _ (put_off s empty m t (λ e. apart (sym e)) ∙ bare))
      go false = xor_two b m c k s t empty (man c k) apart (lifts (m s) here) (puts (man c k) (m t) bare)

  pub uncaptured : (x y : Man) → uncaptured_of (with_men b (put t x (put s empty m))) y (only s) ≡ with_men b (gone m r x y)
  unfolding uncaptured_of
  uncaptured x y = go y ∙ ap (with_men b) (put_comm s t y x (put s empty m) apart ∙ ap (put t x) (put_put s y empty m))
    where
      n : Men
      n = put t x (put s empty m)

      free : n s ≡ empty
      free = put_off t x (put s empty m) s apart ∙ put_at s empty m

      go : (y : Man) → uncaptured_of (with_men b n) y (only s) ≡ with_men b (put s y n)
      go empty = ap (with_men b) (sym (put_same s empty n free))
      go (man d j) = xor_one b n d j s (man d j) (puts (man d j) (n s) free)

-- castling: the squares are five, and the right of a side is its own
record Five (c : Color) (d : Side) : Type 0 where
  rook≢home : rook_to c d ≢ king_home c
  rook≢king : rook_to c d ≢ king_to c d
  rook≢corner : rook_to c d ≢ corner c d
  corner≢home : corner c d ≢ king_home c
  corner≢king : corner c d ≢ king_to c d

five : (c : Color) (d : Side) → Five c d
five White short = omega arith
five White long = omega arith
five Black short = omega arith
five Black long = omega arith

file_of : (c : Color) (d : Side) → file (king_to c d) ≡ (elim d as (λ _. ℕ) [ short ↦ 6 | long ↦ 2 ])
file_of White short = refl
file_of White long = refl
file_of Black short = refl
file_of Black long = refl

abbrev pub of_side : Side → CastleRights
of_side short = KingSide
of_side long = QueenSide

-- `ubackward` from the sixth rank goes round no edge
back_is : (c : Color) (s : ℕ) → s < 64 → rank_for c s ≡ 5 → back_of c s ≡ behind c s
unfolding back_of
back_is White s l h = omega arith
back_is Black s l h = omega arith

module _ (b : Board) (m : Men) (c : Color) (r : ChessRetraction) (x y : Man) where
  abbrev base : Men
  base = gone m r x y

  -- the rook, on a board whose king has gone back
  module _ (d : Side) (et : r.target ≡ king_home c) (es : r.source ≡ king_to c d) (done : Done (castling d) c r.source m) where
    off_both : (j : ℕ) → j ≢ king_home c → j ≢ king_to c d → base j ≡ m j
    off_both j nt ns = put_off r.target x (put r.source y m) j (λ e. nt (e ∙ et)) ∙ put_off r.source y m j (λ e. ns (e ∙ es))

    rook_back : put (corner c d) (man c Rook) (put (rook_to c d) empty base) ≡ before (castling d) c r.target r.source x y m
    rook_back =
        ap (put (corner c d) (man c Rook))
        (put_comm (rook_to c d) r.target empty x (put r.source y m) (λ e. (five c d).rook≢home (e ∙ et))
        ∙ ap (put r.target x) (put_comm (rook_to c d) r.source empty y m (λ e. (five c d).rook≢king (e ∙ es))))
        ∙ put_comm (corner c d) r.target (man c Rook) x (put r.source y (put (rook_to c d) empty m)) (λ e. (five c d).corner≢home (e ∙ et))

    rooked : rights_stored (xor_of (with_men b base) Rook (bit_xor (only (rook_to c d)) (only (corner c d))) c) c (of_side d)
        ≡ with_men (rights_stored b c (of_side d)) (before (castling d) c r.target r.source x y m)
    unfolding rights_stored
    rooked =
        ap (λ (e : Board). rights_stored e c (of_side d))
        (xor_two b base c Rook (rook_to c d) (corner c d) empty (man c Rook) (five c d).rook≢corner
        (lifts _ (off_both (rook_to c d) (five c d).rook≢home (five c d).rook≢king ∙ done.0))
        (puts (man c Rook) _ (off_both (corner c d) (five c d).corner≢home (five c d).corner≢king ∙ done.1)))
        ∙ ap (with_men (rights_stored b c (of_side d))) rook_back

  abbrev by_file : Bool → ℕ → Board
  by_file test f = cond test (cond (eqb f 6) (rooked_of (with_men b base) c 5 7 KingSide) (cond (eqb f 2) (rooked_of (with_men b base) c 3 0 QueenSide) (with_men b base))) (with_men b base)

  pub uncastled : (k : Piece) (d : Side) → is_uncastling k r ≡ true → r.target ≡ king_home c → r.source ≡ king_to c d → Done (castling d) c r.source m
      → uncastled_of (with_men b base) k r c ≡ with_men (rights_stored b c (of_side d)) (before (castling d) c r.target r.source x y m)
  unfolding uncastled_of rooked_of
  uncastled k short test et es done = ap₂ by_file test (ap (λ (j : ℕ). file j) es ∙ file_of c short) ∙ rooked short et es done
  uncastled k long test et es done = ap₂ by_file test (ap (λ (j : ℕ). file j) es ∙ file_of c long) ∙ rooked long et es done

  pub reborn : (k : Piece) → is_passant_uncapture k r ≡ true → r.source < 64 → rank_for c r.source ≡ 5 → Around c r.target r.source → m (behind c r.source) ≡ empty
      → reborn_of (with_men b base) k r c (opp c) ≡ with_men (passant_stored b (Some (behind c r.source))) (before passant c r.target r.source x y m)
  unfolding reborn_of passant_stored
  reborn k test l h a free =
      ap₂ (λ (u : Bool) (v : ℕ). cond u (xor_of (passant_stored (with_men b base) (Some v)) Pawn (only v) (opp c)) (with_men b base)) test (back_is c r.source l h)
      ∙ xor_one (passant_stored b (Some (behind c r.source))) base (opp c) Pawn (behind c r.source) (man (opp c) Pawn)
      (puts (man (opp c) Pawn) _ (put_off r.target x (put r.source y m) _ a.v≢t ∙ put_off r.source y m _ (λ e. a.s≢v (sym e)) ∙ free))
      ∙ ap (with_men (passant_stored b (Some (behind c r.source)))) (put_comm (behind c r.source) r.target (man (opp c) Pawn) x (put r.source y m) a.v≢t)

-- a statement whose test fails
pub skip_castle : (b : Board) (k : Piece) (r : ChessRetraction) (c : Color) → is_uncastling k r ≡ false → uncastled_of b k r c ≡ b
unfolding uncastled_of
skip_castle b k r c e =
    ap (λ (u : Bool). cond u (cond (eqb (file r.source) 6) (rooked_of b c 5 7 KingSide) (cond (eqb (file r.source) 2) (rooked_of b c 3 0 QueenSide) b)) b) e

pub skip_passant : (b : Board) (k : Piece) (r : ChessRetraction) (c d : Color) → is_passant_uncapture k r ≡ false → reborn_of b k r c d ≡ b
unfolding reborn_of
skip_passant b k r c d e =
    ap (λ (u : Bool). cond u (xor_of (passant_stored b (Some (back_of c r.source))) Pawn (only (back_of c r.source)) d) b) e
