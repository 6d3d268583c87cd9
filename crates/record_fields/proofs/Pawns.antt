-- The pawn's own square and the square passed over.
use mathlib.Core.Path.{◌≡◌, refl, sym, ◌∙◌}
use mathlib.Core.Logic.{◌⊎◌, inl, inr}
use mathlib.Core.Bool.{Bool, true, false, cond}
use Prim.Native.Nat.{ℕ, ◌+◌, ◌-◌, ◌/◌, ◌<◌}
use native.Mathlib.Omega.{arith}
use lib.Dec.{eqb, ltb}
use borrow.Author.Tests.{lt-ltb, le-ltb, ltb-true, ltb-false, eqb-true, eq-eqb, ne_eqb}
use Rattle.squares.specs.Squares.{file, rank}
use Rattle.laws.specs.declared.EnPassantFlag.{EnPassantFlag}
use Rattle.laws.specs.declared.EnPassantFlag.TheVariants.{Any, Some, None}
use Rattle.record_fields.specs.Passed.{passed_of, passed_state, StateNamed, PassedOver, is_known}
use Rattle.record_fields.specs.inner.Pawns.{pawn_of, pawn_state}

pub pawn_back : (e : EnPassantFlag) → StateNamed e → pawn_state (passed_state e) ≡ e
pawn_back Any k = absurd k
pawn_back None k = refl
pawn_back (Some s) k = go (ltb s 32) refl
  where
    go : (x : Bool) → ltb s 32 ≡ x → pawn_of (cond x 16 40 + file s) ≡ Some s
    go true e =
        let h = ltb-true s 32 e in
        let q : (16 + file s) / 8 ≡ 2 = omega arith in
        let z : 16 + file s + 8 ≡ s = omega (arith, k.0) in
        simp (eq-eqb ((16 + file s) / 8) 2 q, z)
    go false e =
        let h = ltb-false s 32 e in
        let q : (40 + file s) / 8 ≡ 5 = omega arith in
        let z : 40 + file s - 8 ≡ s = omega (arith, k.1) in
        simp (ne_eqb ((40 + file s) / 8) 2 (λ w. omega arith), eq-eqb ((40 + file s) / 8) 5 q, z)

-- the square passed over is one of the board
pub passed_low : (s : ℕ) → passed_of s < 64
passed_low s = go (ltb s 32)
  where
    go : (x : Bool) → cond x 16 40 + file s < 64
    go true = omega arith
    go false = omega arith

-- a square on rank 3 or 6 is passed over by one pawn, and no other state has one
pub pawn_known : (q : EnPassantFlag) → is_known (pawn_state q) ≡ true → StateNamed (pawn_state q) × (passed_state (pawn_state q) ≡ q)
pawn_known Any k = let z : ◌≡◌ {A = ℕ} 0 1 = cc in absurd (omega arith)
pawn_known None k = (tt, refl)
pawn_known (Some q) k = go (eqb (q / 8) 2) (eqb (q / 8) 5) refl refl k
  where
    go : (x y : Bool) → eqb (q / 8) 2 ≡ x → eqb (q / 8) 5 ≡ y → is_known (cond x (Some (q + 8)) (cond y (Some (q - 8)) Any)) ≡ true
        → StateNamed (cond x (Some (q + 8)) (cond y (Some (q - 8)) Any)) × (passed_state (cond x (Some (q + 8)) (cond y (Some (q - 8)) Any)) ≡ Some q)
    go true y e f m =
        let h = eqb-true (q / 8) 2 e in
        let z : 16 + file (q + 8) ≡ q = omega arith in
        ((omega arith, omega arith), simp (lt-ltb (q + 8) 32 (omega arith), z))
    go false true e f m =
        let h = eqb-true (q / 8) 5 f in
        let z : 40 + file (q - 8) ≡ q = omega arith in
        ((omega arith, omega arith), simp (le-ltb (q - 8) 32 (omega arith), z))
    go false false e f m = let z : ◌≡◌ {A = ℕ} 0 1 = cc in absurd (omega arith)

pub named_known : (e : EnPassantFlag) → StateNamed e → is_known e ≡ true
named_known Any k = absurd k
named_known (Some s) k = refl
named_known None k = refl

pub never_unknown : (e : EnPassantFlag) → StateNamed e → is_known e ≡ false → ⊥
never_unknown e k h = let z : true ≡ false = sym (named_known e k) ∙ h in let w : ◌≡◌ {A = ℕ} 0 1 = cc in omega arith

-- the square passed over is one rank behind the pawn: rank 3 behind rank 4, rank 6 behind rank 5
pub passed_fourth : (s : ℕ) → rank s ≡ 3 → passed_of s ≡ s - 8
passed_fourth s h = rw (lt-ltb s 32 (omega arith)) (omega arith)

pub passed_fifth : (s : ℕ) → rank s ≡ 4 → passed_of s ≡ s + 8
passed_fifth s h = rw (le-ltb s 32 (omega arith)) (omega arith)

-- the square passed over by a pawn on rank 4 or 5 is on rank 3 or 6, and every such square is passed over by one
pub over_named : (e : EnPassantFlag) → StateNamed e → PassedOver (passed_state e)
over_named Any k = k
over_named None k = tt
over_named (Some s) k = go (ltb s 32) refl
  where
    go : (x : Bool) → ltb s 32 ≡ x → (rank (cond x 16 40 + file s) ≡ 2) ⊎ (rank (cond x 16 40 + file s) ≡ 5)
    go true e = inl (omega arith)
    go false e = inr (omega arith)

pub named_over : (q : EnPassantFlag) → PassedOver q → is_known (pawn_state q) ≡ true
named_over Any k = absurd k
named_over None k = refl
named_over (Some q) (inl e) = rw (eq-eqb (rank q) 2 e)
named_over (Some q) (inr e) = rw (ne_eqb (rank q) 2 (λ z. omega arith), eq-eqb (rank q) 5 e)
