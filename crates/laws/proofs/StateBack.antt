-- The pawn that reappears may be named (5).
use mathlib.Core.Path.{◌≡◌, refl, ap, ◌∙◌}
use mathlib.Core.Logic.{◌≢◌}
use mathlib.Core.Bool.{true}
use Prim.Native.Nat.{ℕ, ◌+◌, ◌<◌}
use native.Mathlib.Omega.{arith}
use lib.Dec.{eqb}
use borrow.Author.Tests.{lt-ltb, eq-eqb, eqb-true}
use Rattle.squares.specs.Tests.{◌and◌}
use Rattle.squares.specs.Squares.{rank}
use Rattle.geometry.specs.declared.Color.{Color}
use Rattle.geometry.specs.declared.Color.TheVariants.{White, Black}
use Rattle.geometry.specs.Colors.{opp, rank_for, behind}
use Rattle.geometry.specs.Lines.{files}
use Rattle.geometry.specs.Steps.{pawn_takes}
use Rattle.laws.specs.declared.Piece.TheVariants.{Pawn}
use Rattle.laws.specs.declared.EnPassantFlag.TheVariants.{Some}
use Rattle.laws.specs.declared.Edition.{Edition}
use Rattle.laws.specs.declared.Edition.TheVariants.{A, B}
use Rattle.laws.specs.Men.{Man, empty, man, Men, same_man, is_empty, put}
use Rattle.laws.specs.Acceptance.{beside, noted, state_ok}
use Rattle.laws.specs.declared.Way.TheVariants.{Passant as passant}
use Rattle.laws.specs.Unmaking.{before}
use Rattle.squares.proofs.Testing.{left, right, both}
use Rattle.squares.proofs.Every.{any_of}
use Rattle.laws.proofs.Mans.{same_self}
use Rattle.laws.proofs.Puts.{put_at, off}

-- the squares about an un-en-passant from s to t
pub record Around (c : Color) (t s : ℕ) : Type 0 where
  pub v_in : behind c s < 64
  pub v_rank : rank_for (opp c) (behind c s) ≡ 3
  pub v_back : behind (opp c) (behind c s) ≡ s
  pub v≢t : behind c s ≢ t
  pub s≢t : s ≢ t
  pub s≢v : s ≢ behind c s
  pub ahead≢t : behind (opp c) s ≢ t
  pub ahead≢v : behind (opp c) s ≢ behind c s
  pub ahead≢s : behind (opp c) s ≢ s
  pub ranks_same : rank t ≡ rank (behind c s)
  pub files_one : files t (behind c s) ≡ 1

numbers : (c : Color) (t s : ℕ) → t < 64 → s < 64 → rank_for c s ≡ 5 → rank_for c s ≡ rank_for c t + 1 → files t s ≡ 1 → Around c t s
numbers White t s ht hs h5 h1 hf = omega arith
numbers Black t s ht hs h5 h1 hf = omega arith

pub around : (c : Color) (t s : ℕ) → t < 64 → s < 64 → rank_for c s ≡ 5 → pawn_takes c t s ≡ true → Around c t s
unfolding pawn_takes
around c t s ht hs h5 h = numbers c t s ht hs h5 (eqb-true _ _ (left _ _ h)) (eqb-true _ _ (right _ _ h))

-- a pawn beside the square is all that either edition asks
enough : (v : Edition) (m : Men) (c : Color) (q : ℕ) → beside m (man c Pawn) q ≡ true → noted v m c q ≡ true
enough A m c q h = h
enough B m c q h = refl

pub state_back : (v : Edition) (m : Men) (c : Color) (t s : ℕ) (x y : Man) → t < 64 → Around c t s → x ≡ man c Pawn → y ≡ empty → m (behind (opp c) s) ≡ empty
    → state_ok v (before passant c t s x y m) c (Some (behind c s)) ≡ true
state_back ed m c t s x y ht a hx hy hm =
    both (both (both (both (both (lt-ltb v 64 a.v_in) (same_self (e v) (man (opp c) Pawn) on_v)) (eq-eqb _ _ a.v_rank))
    (ap is_empty (ap e a.v_back ∙ on_s))) (ap is_empty (ap (λ (q : ℕ). e (behind (opp c) q)) a.v_back ∙ on_ahead)))
    (enough ed e c v (any_of 64 (λ k. same_man (e k) (man c Pawn) and eqb (rank k) (rank v) and eqb (files k v) 1) t ht
    (both (both (same_self (e t) (man c Pawn) (put_at t x (put v (man (opp c) Pawn) (put s y m)) ∙ hx)) (eq-eqb _ _ a.ranks_same)) (eq-eqb _ _ a.files_one))))
  where
    v : ℕ
    v = behind c s

    e : Men
    e = before passant c t s x y m

    on_v : e v ≡ man (opp c) Pawn
    on_v = off t x v a.v≢t (put_at v (man (opp c) Pawn) (put s y m))

    on_s : e s ≡ empty
    on_s = off t x s a.s≢t (off v (man (opp c) Pawn) s a.s≢v (put_at s y m ∙ hy))

    on_ahead : e (behind (opp c) s) ≡ empty
    on_ahead = off t x (behind (opp c) s) a.ahead≢t (off v (man (opp c) Pawn) (behind (opp c) s) a.ahead≢v (off s y (behind (opp c) s) a.ahead≢s hm))
