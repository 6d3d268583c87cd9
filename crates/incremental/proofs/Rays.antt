-- Two squares beyond k on a ray from q are one, or one stands between the other and q.
use mathlib.Core.Path.{◌≡◌, sym, ◌∙◌}
use mathlib.Core.Logic.{◌⊎◌, inl, inr, ⊎_elim}
use mathlib.Core.Bool.{true}
use Prim.Native.Nat.{ℕ, ◌/◌, ◌%◌, ◌<◌, ◌+◌}
use native.Mathlib.Nat.{eq-or-lt_of_le}
use native.Mathlib.Omega.{arith}
use Rattle.geometry.specs.Lines.{between, apart}
use Rattle.squares.proofs.Testing.{order}
use Rattle.geometry.proofs.Between.{Inside, OnDiagonal, Between, between_facts, between_of}

-- coordinates: a and b on the same side of q
data Sided (a b q : ℕ) : Type 0 where
  same : a ≡ b → Sided a b q
  nearer : Inside a q b → Sided a b q
  further : Inside b q a → Sided a b q

sided : (a b q k : ℕ) → Inside a q k → Inside b q k → Sided a b q
sided a b q k (inl p) (inl r) = ⊎_elim (λ l. nearer (inl (l, omega arith))) (λ l. ⊎_elim (λ e. same (sym e)) (λ h. further (inl (h, omega arith))) (eq-or-lt_of_le l)) (order a b)
sided a b q k (inr p) (inr r) = ⊎_elim (λ l. further (inr (omega arith, l))) (λ l. ⊎_elim (λ e. same (sym e)) (λ h. nearer (inr (omega arith, h))) (eq-or-lt_of_le l)) (order a b)
sided a b q k (inl p) (inr r) = absurd (no p r)
  where
    no : (a < k) × (k < q) → (q < k) × (k < b) → ⊥
    no p r = omega arith
sided a b q k (inr p) (inl r) = absurd (no p r)
  where
    no : (q < k) × (k < a) → (b < k) × (k < q) → ⊥
    no p r = omega arith

inside_ne : (a q k : ℕ) → Inside a q k → q ≡ k → ⊥
inside_ne a q k (inl p) e = omega arith
inside_ne a q k (inr p) e = omega arith

same_far : (a b q k : ℕ) → Inside a q k → Inside b q k → apart a q ≡ apart b q → a ≡ b
same_far a b q k (inl p) (inl r) e = omega arith
same_far a b q k (inr p) (inr r) e = omega arith
same_far a b q k (inl p) (inr r) e = absurd (no p r)
  where
    no : (a < k) × (k < q) → (q < k) × (k < b) → ⊥
    no p r = omega arith
same_far a b q k (inr p) (inl r) e = absurd (no p r)
  where
    no : (q < k) × (k < a) → (b < k) × (k < q) → ⊥
    no p r = omega arith

-- b is nearer to q than a
less_far : (a b q : ℕ) → Inside a q b → apart b q < apart a q
less_far a b q (inl p) = omega arith
less_far a b q (inr p) = omega arith

inside_by : (a b q k : ℕ) → Inside a q k → Inside b q k → apart b q < apart a q → Inside a q b
inside_by a b q k (inl p) (inl r) l = inl (omega arith, omega arith)
inside_by a b q k (inr p) (inr r) l = inr (omega arith, omega arith)
inside_by a b q k (inl p) (inr r) l = absurd (no p r)
  where
    no : (a < k) × (k < q) → (q < k) × (k < b) → ⊥
    no p r = omega arith
inside_by a b q k (inr p) (inl r) l = absurd (no p r)
  where
    no : (q < k) × (k < a) → (b < k) × (k < q) → ⊥
    no p r = omega arith

part : (a b q : ℕ) → Inside a q b → apart a q ≡ apart a b + apart b q
part a b q (inl p) = omega arith
part a b q (inr p) = omega arith

cancel : (x x' y y' w w' : ℕ) → x ≡ y + w → x' ≡ y' + w' → x ≡ x' → w ≡ w' → y ≡ y'
cancel x x' y y' w w' p q r s = omega arith

less_by : (x x' y y' : ℕ) → x ≡ x' → y ≡ y' → x < y → x' < y'
less_by x x' y y' p q l = omega arith

-- on a diagonal, b nearer by files
diagonal_nested : (a b q k : ℕ) → OnDiagonal a q k → OnDiagonal b q k → Inside (a % 8) (q % 8) (b % 8) → OnDiagonal a q b
diagonal_nested a b q k A B i = record { ends = A.ends; here = here; by_files = i; by_ranks = ranks }
  where
    ranks : Inside (a / 8) (q / 8) (b / 8)
    ranks =
        inside_by (a / 8) (b / 8) (q / 8) (k / 8) A.by_ranks B.by_ranks
        (less_by (apart (b % 8) (q % 8)) (apart (b / 8) (q / 8)) (apart (a % 8) (q % 8)) (apart (a / 8) (q / 8)) B.ends A.ends (less_far (a % 8) (b % 8) (q % 8) i))

    here : apart (a % 8) (b % 8) ≡ apart (a / 8) (b / 8)
    here =
        cancel (apart (a % 8) (q % 8)) (apart (a / 8) (q / 8)) (apart (a % 8) (b % 8)) (apart (a / 8) (b / 8)) (apart (b % 8) (q % 8)) (apart (b / 8) (q / 8))
        (part (a % 8) (b % 8) (q % 8) i) (part (a / 8) (b / 8) (q / 8) ranks) A.ends B.ends

square : (a b : ℕ) → a % 8 ≡ b % 8 → a / 8 ≡ b / 8 → a ≡ b
square a b p q = omega arith

Nested : ℕ → ℕ → ℕ → Type 0
Nested a b q = (a ≡ b) ⊎ (Between a q b ⊎ Between b q a)

nested_facts : (a b q k : ℕ) → Between a q k → Between b q k → Nested a b q
unfolding Nested
nested_facts a b q k (inl A) (inl B) = go (sided (a % 8) (b % 8) (q % 8) (k % 8) A.within B.within)
  where
    level : a / 8 ≡ b / 8
    level = A.here ∙ sym B.here

    go : Sided (a % 8) (b % 8) (q % 8) → Nested a b q
    go (same e) = inl (square a b e level)
    go (nearer i) = inr (inl (inl (record { ends = A.ends; here = level; within = i })))
    go (further i) = inr (inr (inl (record { ends = B.ends; here = sym level; within = i })))
nested_facts a b q k (inr (inl A)) (inr (inl B)) = go (sided (a / 8) (b / 8) (q / 8) (k / 8) A.within B.within)
  where
    level : a % 8 ≡ b % 8
    level = A.here ∙ sym B.here

    go : Sided (a / 8) (b / 8) (q / 8) → Nested a b q
    go (same e) = inl (square a b level e)
    go (nearer i) = inr (inl (inr (inl (record { ends = A.ends; here = level; within = i }))))
    go (further i) = inr (inr (inr (inl (record { ends = B.ends; here = sym level; within = i }))))
nested_facts a b q k (inr (inr A)) (inr (inr B)) = go (sided (a % 8) (b % 8) (q % 8) (k % 8) A.by_files B.by_files)
  where
    go : Sided (a % 8) (b % 8) (q % 8) → Nested a b q
    go (same e) =
        inl (square a b e (same_far (a / 8) (b / 8) (q / 8) (k / 8) A.by_ranks B.by_ranks (sym A.ends ∙ same_apart (a % 8) (b % 8) (q % 8) e ∙ B.ends)))
      where
        same_apart : (x y z : ℕ) → x ≡ y → apart x z ≡ apart y z
        same_apart x y z e = omega arith
    go (nearer i) = inr (inl (inr (inr (diagonal_nested a b q k A B i))))
    go (further i) = inr (inr (inr (inr (diagonal_nested b a q k B A i))))
nested_facts a b q k (inl A) (inr (inl B)) = absurd (inside_ne (b / 8) (q / 8) (k / 8) B.within (sym A.ends ∙ A.here))
nested_facts a b q k (inl A) (inr (inr B)) = absurd (inside_ne (b / 8) (q / 8) (k / 8) B.by_ranks (sym A.ends ∙ A.here))
nested_facts a b q k (inr (inl A)) (inl B) = absurd (inside_ne (a / 8) (q / 8) (k / 8) A.within (sym B.ends ∙ B.here))
nested_facts a b q k (inr (inl A)) (inr (inr B)) = absurd (inside_ne (b % 8) (q % 8) (k % 8) B.by_files (sym A.ends ∙ A.here))
nested_facts a b q k (inr (inr A)) (inl B) = absurd (inside_ne (a / 8) (q / 8) (k / 8) A.by_ranks (sym B.ends ∙ B.here))
nested_facts a b q k (inr (inr A)) (inr (inl B)) = absurd (inside_ne (a % 8) (q % 8) (k % 8) A.by_files (sym B.ends ∙ B.here))

pub nested : (a b q k : ℕ) → between a q k ≡ true → between b q k ≡ true → (a ≡ b) ⊎ ((between a q b ≡ true) ⊎ (between b q a ≡ true))
unfolding Nested
nested a b q k p r = go (nested_facts a b q k (between_facts a q k p) (between_facts b q k r))
  where
    go : Nested a b q → (a ≡ b) ⊎ ((between a q b ≡ true) ⊎ (between b q a ≡ true))
    go (inl e) = inl e
    go (inr (inl z)) = inr (inl (between_of a q b z))
    go (inr (inr z)) = inr (inr (between_of b q a z))
