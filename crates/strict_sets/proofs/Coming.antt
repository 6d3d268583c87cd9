-- The squares that a man can have come from, as sets.
use mathlib.Core.Path.{◌≡◌, refl, sym, ap, ap₂, ◌∙◌}
use mathlib.Core.Bool.{Bool, true, false, not, cond, false≢true, not-not}
use Prim.Native.Nat.{ℕ, ◌/◌, ◌<◌, ◌^◌}
use native.Mathlib.Nat.{lt_of_le_of_lt}
use lib.Bits.{bit_and, and_le_l}
use Rattle.squares.specs.Tests.{◌and◌}
use Rattle.squares.specs.Squares.{has, set_of, all_to}
use Rattle.squares.specs.Members.{compl}
use Rattle.geometry.specs.declared.Color.{Color}
use Rattle.geometry.specs.declared.Color.TheVariants.{White, Black}
use Rattle.geometry.specs.Colors.{opp}
use Rattle.geometry.specs.Steps.{pawn_step, pawn_takes}
use Rattle.laws.specs.declared.Piece.TheVariants.{Pawn, Knight, Bishop, Rook, Queen, King}
use Rattle.laws.specs.Men.{Man, empty, man, Men, man_of, is_empty, is_pawn}
use Rattle.laws.specs.Attacks.{attacks, union_of}
use Rattle.laws.specs.Acceptance.{edge}
use Rattle.laws.specs.Unmaking.{promoted_to}
use Rattle.strict_sets.specs.inner.Parts.{steps, pawn_at, steps_at, comes_at}
use Rattle.squares.proofs.Testing.{and_true, known}
use Rattle.squares.proofs.Digits.{has_and}
use Rattle.squares.proofs.Comprehension.{is_up_to, up_to_lt, up_to_cong, has_set_of, has_not}
use Rattle.squares.proofs.Every.{number_law, square_eq, pair_eq}
use Rattle.geometry.proofs.Turned.{pawn_turned}
use Rattle.laws.proofs.Mans.{opp_opp}
use borrow.Author.Tests.{lt-ltb}

-- the ranks without the first and the last
inner_ranks : (q : ℕ) → q < 64 → has 0x00ffffffffffff00 q ≡ not (edge q)
unfolding has all_to ◌and◌
inner_ranks = square_eq (has 0x00ffffffffffff00) (λ q. not (edge q)) refl

-- a pawn's step seen from its end
step_turned : (c : Color) (a b : ℕ) → a < 64 → b < 64 → pawn_step (opp c) a b ≡ pawn_step c b a
unfolding pawn_step ◌and◌ all_to
step_turned White = pair_eq (pawn_step Black) (λ a b. pawn_step White b a) refl
step_turned Black = pair_eq (pawn_step White) (λ a b. pawn_step Black b a) refl

pub pawn_set : (c : Color) (taking : Bool) (s : ℕ) {a b : ℕ} → s < 64 → a ≡ set_of (pawn_takes (opp c) s) → b ≡ set_of (pawn_step (opp c) s)
    → bit_and (cond taking a b) 0x00ffffffffffff00 ≡ set_of (pawn_at c taking s)
unfolding pawn_at
pawn_set c taking s {a} {b} hs ea eb = is_up_to 64 _ (pawn_at c taking s) (lt_of_le_of_lt (and_le_l (cond taking a b) _) (fits taking)) at
  where
    fits : (z : Bool) → cond z a b < 2 ^ 64
    fits true = rw ea (up_to_lt 64 (pawn_takes (opp c) s))
    fits false = rw eb (up_to_lt 64 (pawn_step (opp c) s))

    at : (q : ℕ) → q < 64 → has (bit_and (cond taking a b) 0x00ffffffffffff00) q ≡ pawn_at c taking s q
    at q l = has_and (cond taking a b) 0x00ffffffffffff00 q ∙ ap₂ ◌and◌ (go taking) (inner_ranks q l)
      where
        go : (z : Bool) → has (cond z a b) q ≡ cond z (pawn_takes c q s) (pawn_step c q s)
        go true = ap (λ (n : ℕ). has n q) ea ∙ has_set_of (pawn_takes (opp c) s) q l ∙ pawn_turned (opp c) s q hs l ∙ ap (λ (z : Color). pawn_takes z q s) (opp_opp c)
        go false = ap (λ (n : ℕ). has n q) eb ∙ has_set_of (pawn_step (opp c) s) q l ∙ step_turned c s q hs l

-- of a pawn, and of another man
pub pawn_steps : (m : Men) (c : Color) (taking : Bool) (s : ℕ) → set_of (pawn_at c taking s) ≡ set_of (steps_at m (man c Pawn) taking s)
unfolding pawn_at steps_at ◌and◌
pawn_steps m c taking s = refl

pub other_steps : (m : Men) (x : Man) (taking : Bool) (s : ℕ) → is_pawn x ≡ false → set_of (λ q. attacks m x q s) ≡ set_of (steps_at m x taking s)
unfolding steps_at ◌and◌
other_steps m x taking s e = up_to_cong 64 (λ q. attacks m x q s) (steps_at m x taking s) (λ q l. sym (and_true _) ∙ ap₂ ◌and◌ (go x e q) (ap (λ (z : Bool). not (z and edge q)) (sym e)))
  where
    go : (z : Man) → is_pawn z ≡ false → (q : ℕ) → attacks m z q s ≡ steps m z taking s q
    go empty h q = refl
    go (man c Pawn) h q = absurd (false≢true (sym h))
    go (man c Knight) h q = refl
    go (man c Bishop) h q = refl
    go (man c Rook) h q = refl
    go (man c Queen) h q = refl
    go (man c King) h q = refl

-- without the squares of today's men
pub comes_set : (m : Men) (x : Man) (taking : Bool) (s : ℕ) {a o : ℕ} → a ≡ set_of (steps_at m x taking s) → o ≡ union_of m → bit_and a (compl o) ≡ set_of (comes_at m x taking s)
unfolding comes_at
comes_set m x taking s {a} {o} ea eo = is_up_to 64 _ (comes_at m x taking s) (lt_of_le_of_lt (and_le_l a (compl o)) (rw ea (up_to_lt 64 (steps_at m x taking s)))) at
  where
    at : (q : ℕ) → q < 64 → has (bit_and a (compl o)) q ≡ comes_at m x taking s q
    at q l =
        has_and a (compl o) q
        ∙ ap₂ ◌and◌ (ap (λ (n : ℕ). has n q) ea ∙ has_set_of (steps_at m x taking s) q l)
        (has_not 64 o q (rw eo (up_to_lt 64 (λ k. not (is_empty (m k)))))
        ∙ known _ (lt-ltb q 64 l) ∙ ap (λ (n : ℕ). not (has n q)) eo ∙ ap not (has_set_of (λ k. not (is_empty (m k))) q l) ∙ not-not (is_empty (m q)))

-- the kind promoted to, by a man's number
pub promoted_by : (y : ℕ) → y < 14 → promoted_to true (man_of y) ≡ y / 2
unfolding all_to ◌and◌
promoted_by y l = number_law 14 (λ j. promoted_to true (man_of j)) (λ j. j / 2) refl y l
