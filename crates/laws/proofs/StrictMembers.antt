-- The strict list: in order, each member once, and it holds a retraction exactly when the retraction has a past.
use mathlib.Core.Path.{◌≡◌, refl, sym, ap, ◌∙◌, subst}
use mathlib.Core.Logic.{◌⊎◌, inl, inr, ◌≢◌, ◌↔◌}
use mathlib.Core.Bool.{Bool, true, false, true≢false}
use mathlib.Core.List.{List, [], ◌∷◌, map}
use Prim.Native.Nat.{ℕ, zero, suc, ◌+◌, ◌*◌, ◌/◌, ◌%◌, ◌≤◌, ◌<◌}
use native.Mathlib.Omega.{arith}
use lib.Dec.{eqb}
use borrow.Author.Tests.{eqb-true, eq-eqb, leb-true}
use Rattle.squares.specs.Squares.{flag}
use Rattle.laws.specs.declared.ChessRetraction.{ChessRetraction}
use Rattle.laws.specs.Positions.{Pos}
use Rattle.laws.specs.Retractions.{InRange}
use Rattle.laws.specs.Acceptance.{accepted}
use Rattle.laws.specs.Strictness.{strict, Past}
use Rattle.squares.specs.Members.{numbers_from}
use Rattle.laws.specs.StrictLists.{place, retraction_at, strict_places, Below, Ascending, In, here, there}
use Rattle.squares.proofs.Testing.{left}
use Rattle.squares.proofs.Comprehension.{flag_lt, flag_back}
use Rattle.laws.proofs.Retracting.{Back, back}
use Rattle.laws.proofs.Demand3.{demand3}

passing_in : (f : ℕ → Bool) (i n j : ℕ) → i ≤ j → j < i + n → f j ≡ true → In j (numbers_from f i n)
passing_in f i zero j l h e = absurd (no l h)
  where
    no : i ≤ j → j < i + 0 → ⊥
    no l h = omega arith
passing_in f i (suc n) j l h e = go (f i) refl (passing_in f (suc i) n j)
  where
    next : i ≢ j → suc i ≤ j
    next ne = omega arith

    rest : j < suc i + n
    rest = omega arith

    go : (b : Bool) → f i ≡ b → (suc i ≤ j → j < suc i + n → f j ≡ true → In j (numbers_from f (suc i) n))
        → In j (elim b as (λ _. List ℕ) [ true ↦ i ∷ numbers_from f (suc i) n | false ↦ numbers_from f (suc i) n ])
    go true q ih = at (eqb i j) refl
      where
        at : (b : Bool) → eqb i j ≡ b → In j (i ∷ numbers_from f (suc i) n)
        at true z = subst (λ (k : ℕ). In j (k ∷ numbers_from f (suc i) n)) (sym (eqb-true i j z)) here
        at false z = there (ih (next (λ k. true≢false (sym (eq-eqb _ _ k) ∙ z))) rest e)
    go false q ih = ih (next (λ z. true≢false (sym e ∙ ap f (sym z) ∙ q))) rest e

pub in_cases : {A : Type 0} {x y : A} {l : List A} → In x (y ∷ l) → (x ≡ y) ⊎ In x l
in_cases here = inl refl
in_cases (there z) = inr z

-- what is in the list of a function's values
module _ {A B : Type 0} (f : A → B) where
  pub map_in : {x : A} {l : List A} → In x l → In (f x) (map f l)
  map_in here = here
  map_in (there z) = there (map_in z)

  pub in_map : {y : B} (l : List A) → In y (map f l) → (x : A) × (y ≡ f x) × In x l
  in_map [] z = elim z [ ]
  in_map {y} (a ∷ l) z = go (in_cases z) (in_map l)
    where
      go : (y ≡ f a) ⊎ In y (map f l) → (In y (map f l) → (x : A) × (y ≡ f x) × In x l) → (x : A) × (y ≡ f x) × In x (a ∷ l)
      go (inl e) ih = (a, e, here)
      go (inr w) ih = let q = ih w in (q.0, q.1, there q.2)

pub in_passes : (f : ℕ → Bool) (i n j : ℕ) → In j (numbers_from f i n) → (i ≤ j) × (j < i + n) × (f j ≡ true)
in_passes f i zero j z = elim z [ ]
in_passes f i (suc n) j z = go (f i) refl z (in_passes f (suc i) n j)
  where
    wider : (suc i ≤ j) × (j < suc i + n) × (f j ≡ true) → (i ≤ j) × (j < i + suc n) × (f j ≡ true)
    wider q = (omega (arith, q.0), omega (arith, q.1), q.2)

    first : j ≡ i → f i ≡ true → (i ≤ j) × (j < i + suc n) × (f j ≡ true)
    first e q = (omega arith, omega arith, ap f e ∙ q)

    go : (b : Bool) → f i ≡ b → In j (elim b as (λ _. List ℕ) [ true ↦ i ∷ numbers_from f (suc i) n | false ↦ numbers_from f (suc i) n ])
        → (In j (numbers_from f (suc i) n) → (suc i ≤ j) × (j < suc i + n) × (f j ≡ true)) → (i ≤ j) × (j < i + suc n) × (f j ≡ true)
    go true q z ih = which (in_cases z)
      where
        which : (j ≡ i) ⊎ In j (numbers_from f (suc i) n) → (i ≤ j) × (j < i + suc n) × (f j ≡ true)
        which (inl e) = first e q
        which (inr k) = wider (ih k)
    go false q z ih = wider (ih z)

passing_below : (f : ℕ → Bool) (k i n : ℕ) → k < i → Below k (numbers_from f i n)
passing_below f k i zero h = tt
passing_below f k i (suc n) h = go (f i) (passing_below f k (suc i) n (omega arith))
  where
    go : (b : Bool) → Below k (numbers_from f (suc i) n) → Below k (elim b as (λ _. List ℕ) [ true ↦ i ∷ numbers_from f (suc i) n | false ↦ numbers_from f (suc i) n ])
    go true z = (h, z)
    go false z = z

-- in order, and once
pub ascending : (f : ℕ → Bool) (i n : ℕ) → Ascending (numbers_from f i n)
ascending f i zero = tt
ascending f i (suc n) = go (f i) (ascending f (suc i) n)
  where
    go : (b : Bool) → Ascending (numbers_from f (suc i) n) → Ascending (elim b as (λ _. List ℕ) [ true ↦ i ∷ numbers_from f (suc i) n | false ↦ numbers_from f (suc i) n ])
    go true z = (passing_below f i (suc i) n (omega arith), z)
    go false z = z

-- a retraction and its place
digits : (s t u x : ℕ) → s < 64 → t < 64 → u ≤ 5 → x < 2
    → ((s * 768 + (t * 12 + (u * 2 + x))) / 768 ≡ s) × ((s * 768 + (t * 12 + (u * 2 + x))) / 12 % 64 ≡ t)
    × ((s * 768 + (t * 12 + (u * 2 + x))) / 2 % 6 ≡ u) × ((s * 768 + (t * 12 + (u * 2 + x))) % 2 ≡ x)
    × (s * 768 + (t * 12 + (u * 2 + x)) < 49152)
digits s t u x hs ht hu hx = omega arith

pub placed_place : (r : ChessRetraction) → InRange r → retraction_at (place r) ≡ r
placed_place r h = λ i. record { source = d.0 i; target = d.1 i; uncaptured = d.2 i; unpromotion = mark i }
  where
    d : (place r / 768 ≡ r.source) × (place r / 12 % 64 ≡ r.target) × (place r / 2 % 6 ≡ r.uncaptured) × (place r % 2 ≡ flag r.unpromotion) × (place r < 49152)
    d = digits r.source r.target r.uncaptured (flag r.unpromotion) h.source_in h.target_in h.uncaptured_in (flag_lt r.unpromotion)

    mark : eqb (place r % 2) 1 ≡ r.unpromotion
    mark = ap (λ (q : ℕ). eqb q 1) d.3 ∙ flag_back r.unpromotion

place_lt : (r : ChessRetraction) → InRange r → place r < 49152
place_lt r h = (digits r.source r.target r.uncaptured (flag r.unpromotion) h.source_in h.target_in h.uncaptured_in (flag_lt r.unpromotion)).4

pub strict_in : (p : Pos) (r : ChessRetraction) → strict p r ≡ true → InRange r
strict_in p r h = record { source_in = b.can.source_in; target_in = b.can.target_in; uncaptured_in = leb-true r.uncaptured 5 b.step.small }
  where
    b : Back p r
    b = back p r (left _ _ (left _ _ (left _ _ (left _ _ h))))

pub strict_order : (p : Pos) → Ascending (strict_places p)
strict_order p = ascending (λ i. strict p (retraction_at i)) 0 49152

-- it holds the place of a strict retraction, and nothing else
pub strict_member : (p : Pos) (r : ChessRetraction) → InRange r → In (place r) (strict_places p) ↔ (strict p r ≡ true)
strict_member p r h = (
  (λ z. subst (λ (q : ChessRetraction). strict p q ≡ true) (placed_place r h) (in_passes test 0 49152 (place r) z).2),
  (λ z. passing_in test 0 49152 (place r) (omega arith) (omega (arith, place_lt r h)) (subst (λ (q : ChessRetraction). strict p q ≡ true) (sym (placed_place r h)) z)),
)
  where
    test : ℕ → Bool
    test i = strict p (retraction_at i)

pub strict_holds : (p : Pos) (r : ChessRetraction) → accepted p ≡ true → InRange r → In (place r) (strict_places p) ↔ Past p r
strict_holds p r ok h = (λ z. (demand3 p r ok).0 ((strict_member p r h).0 z), λ z. (strict_member p r h).1 ((demand3 p r ok).1 z))
