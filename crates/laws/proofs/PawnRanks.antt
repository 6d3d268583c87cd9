-- Un-make puts no pawn on rank 1 or 8 (3).
use mathlib.Core.Path.{◌≡◌, refl, sym, ap, subst}
use mathlib.Core.Logic.{◌≢◌}
use mathlib.Core.Bool.{Bool, true, false, not, cond}
use Prim.Native.Nat.{ℕ, ◌+◌, ◌-◌, ◌/◌, ◌%◌, ◌<◌}
use native.Mathlib.Omega.{arith}
use lib.Dec.{eqb}
use borrow.Author.Tests.{ne_eqb, eqb-true}
use Rattle.squares.specs.Tests.{◌and◌}
use Rattle.geometry.specs.declared.Color.{Color}
use Rattle.geometry.specs.declared.Color.TheVariants.{White, Black}
use Rattle.geometry.specs.Colors.{opp, rank_for, behind}
use Rattle.laws.specs.declared.Piece.TheVariants.{Pawn, Rook}
use Rattle.laws.specs.Men.{Man, empty, man, Men, is_empty, is_pawn, put}
use Rattle.laws.specs.Positions.{corner, rook_to}
use Rattle.laws.specs.Acceptance.{edge}
use Rattle.laws.specs.declared.Way.{Way}
use Rattle.laws.specs.declared.Way.TheVariants.{Plain as plain, Passant as passant, Castle as castling}
use Rattle.laws.specs.Unmaking.{before, undoable}
use Rattle.squares.proofs.Testing.{left}

put_all : (P : ℕ → Man → Type 0) (k : ℕ) (x : Man) (m : Men) (j : ℕ) → P k x → P j (m j) → P j (put k x m j)
put_all P k x m j a b = go (eqb j k) refl
  where
    go : (q : Bool) → eqb j k ≡ q → P j (cond q x (m j))
    go true e = subst (λ (i : ℕ). P i x) (sym (eqb-true j k e)) a
    go false e = b

-- no pawn on an edge rank
abbrev pub Inner : ℕ → Man → Type 0
Inner j x = not (is_pawn x and edge j) ≡ true

no_pawn : (j : ℕ) (x : Man) → is_pawn x ≡ false → Inner j x
unfolding ◌and◌
no_pawn j x e = ap (λ (b : Bool). not (b and edge j)) e

inner_behind : (c : Color) (s : ℕ) → s < 64 → rank_for c s ≡ 5 → edge (behind c s) ≡ false
inner_behind White s h e = ne_eqb _ 0 (go s h e)
  where
    go : (s : ℕ) → s < 64 → s / 8 ≡ 5 → (s - 8) / 8 % 7 ≢ 0
    go s h e = omega arith
inner_behind Black s h e = ne_eqb _ 0 (go s h e)
  where
    go : (s : ℕ) → s < 64 → 7 - s / 8 ≡ 5 → (s + 8) / 8 % 7 ≢ 0
    go s h e = omega arith

pub pawns_back : (w : Way) (m : Men) (c : Color) (t s : ℕ) (x y : Man) → s < 64 → Inner t x → Inner s y → undoable w c s m ≡ true → ((j : ℕ) → j < 64 → Inner j (m j))
    → (j : ℕ) → j < 64 → Inner j (before w c t s x y m j)
unfolding ◌and◌
pawns_back plain m c t s x y hs ix iy h a j l = put_all Inner t x (put s y m) j ix (put_all Inner s y m j iy (a j l))
pawns_back passant m c t s x y hs ix iy h a j l =
    put_all Inner t x (put (behind c s) (man (opp c) Pawn) (put s y m)) j ix
    (put_all Inner (behind c s) (man (opp c) Pawn) (put s y m) j (ap not (inner_behind c s hs (eqb-true (rank_for c s) 5 (left (eqb (rank_for c s) 5) (is_empty (m (behind c s))) (left _ (is_empty (m (behind (opp c) s))) h)))))
    (put_all Inner s y m j iy (a j l)))
pawns_back (castling d) m c t s x y hs ix iy h a j l =
    put_all Inner t x (put (corner c d) (man c Rook) (put s y (put (rook_to c d) empty m))) j ix
    (put_all Inner (corner c d) (man c Rook) (put s y (put (rook_to c d) empty m)) j refl
    (put_all Inner s y (put (rook_to c d) empty m) j iy (put_all Inner (rook_to c d) empty m j refl (a j l))))
