-- Any two tables that give the squares between are one.
use mathlib.Core.Path.{◌≡◌, refl, sym, ap, ap₂, ◌∙◌}
use mathlib.Core.List.{List, [], ◌∷◌}
use Prim.Native.Nat.{ℕ, suc, ◌+◌, ◌*◌, ◌/◌, ◌%◌, ◌<◌}
use native.Mathlib.Omega.{arith}
use lib.ListN.{length, get_or}
use Rattle.geometry.specs.Lines.{IsBetween}

-- lists of one length with equal elements
same_elements : (s t : List ℕ) → length s ≡ length t → ((i : ℕ) → i < length s → get_or s i 0 ≡ get_or t i 0) → s ≡ t
same_elements [] [] e f = refl
same_elements [] (y ∷ t) e f = absurd (omega (arith, e))
same_elements (x ∷ s) [] e f = absurd (omega (arith, e))
same_elements (x ∷ s) (y ∷ t) e f =
    ap₂ (λ (a : ℕ) (l : List ℕ). a ∷ l) (f 0 (omega arith)) (same_elements s t (omega (arith, e)) (λ i h. f (suc i) (omega (arith, h))))

pub one_table : (s t : List ℕ) → IsBetween s → IsBetween t → s ≡ t
one_table s t p q = same_elements s t (p.long ∙ sym q.long) at
  where
    place : (i : ℕ) → i / 64 * 64 + i % 64 ≡ i
    place i = omega arith

    at : (i : ℕ) → i < length s → get_or s i 0 ≡ get_or t i 0
    at i h =
        ap (λ (k : ℕ). get_or s k 0) (sym (place i))
        ∙ p.entry (i / 64) (i % 64) (omega (arith, p.long)) (omega arith)
        ∙ sym (q.entry (i / 64) (i % 64) (omega (arith, p.long)) (omega arith))
        ∙ ap (λ (k : ℕ). get_or t k 0) (place i)
