-- A walk through the lines: how far it is, one line more, and its end.
use mathlib.Core.Path.{◌≡◌, refl, sym, ap, ◌∙◌, subst}
use mathlib.Core.Logic.{◌⊎◌, inl, inr}
use mathlib.Core.List.{List, [], ◌∷◌}
use Prim.Native.Nat.{ℕ, zero, suc, ◌+◌, ◌-◌, ◌≤◌, ◌<◌}
use native.Mathlib.Omega.{arith}
use native.Mathlib.Numerals.{add-one}
use lib.ListN.{length, get_or, take, drop}
use lib.Dec.{ltb}
use mathlib.Core.Bool.{cond}
use Rattle.chunks.specs.Newlines.{stop_from}
use Rattle.solution_lines.specs.Lines.{lines_of, line_at, NoneOf, FirstOf}
use Rattle.squares.proofs.Testing.{order}
use Rattle.solution_lines.proofs.Cutting.{lines_over, next_line}

-- n lines end at the place `at`, and none of them is P
pub record Through (P : ℕ → Type 0) (s : List ℕ) (at n : ℕ) : Type 0 where
  pub left : drop n (lines_of s) ≡ lines_of (drop at s)
  pub most : n ≤ length (lines_of s)
  pub none : NoneOf n P

pub start : (P : ℕ → Type 0) (s : List ℕ) → Through P s 0 0
start P s = record { left = refl; most = omega arith; none = λ i l p. omega arith }

drop_head : (n : ℕ) (ls : List (List ℕ)) (l : List ℕ) (rest : List (List ℕ)) → drop n ls ≡ l ∷ rest → (n < length ls) × (get_or ls n [] ≡ l) × (drop (suc n) ls ≡ rest)
drop_head zero [] l rest e = absurd (omega (arith, (let w : ◌≡◌ {A = ℕ} 0 1 = cc in w)))
drop_head zero (x ∷ ls) l rest e = (omega arith, cc, cc)
drop_head (suc n) [] l rest e = absurd (omega (arith, (let w : ◌≡◌ {A = ℕ} 0 1 = cc in w)))
drop_head (suc n) (x ∷ ls) l rest e = let q = drop_head n ls l rest e in (omega (arith, q.0), q.1, q.2)

drop_none : (n : ℕ) (ls : List (List ℕ)) → drop n ls ≡ [] → length ls ≤ n
drop_none n [] e = omega arith
drop_none zero (x ∷ ls) e = absurd (omega (arith, (let w : ◌≡◌ {A = ℕ} 0 1 = cc in w)))
drop_none (suc n) (x ∷ ls) e = omega (arith, drop_none n ls e)

module _ (P : ℕ → Type 0) (s : List ℕ) (at n : ℕ) (x : Through P s at n) where
  -- the walk is at its end
  pub walked : at ≤ length s → length s ≤ at → n ≡ length (lines_of s)
  walked h k = omega (arith, x.most, drop_none n (lines_of s) (x.left ∙ lines_over s at h k))

  pub none_walked : at ≤ length s → length s ≤ at → NoneOf (length (lines_of s)) P
  none_walked h k = subst (λ (i : ℕ). NoneOf i P) (walked h k) x.none

  -- the line that starts here has n lines before it
  module _ (h : at < length s) (stop : ℕ) (e : stop ≡ stop_from s at (length s - at)) where
    abbrev after : ℕ
    after = cond (ltb stop (length s)) (stop + 1) (length s)

    head : (n < length (lines_of s)) × (line_at (lines_of s) n ≡ take (stop - at) (drop at s)) × (drop (suc n) (lines_of s) ≡ lines_of (drop after s))
    head = drop_head n (lines_of s) _ _ (x.left ∙ next_line s at h stop e after refl)

    pub there : n < length (lines_of s)
    there = head.0

    pub line_is : line_at (lines_of s) n ≡ take (stop - at) (drop at s)
    line_is = head.1

    pub first_so : P n → FirstOf (length (lines_of s)) P (n + 1)
    first_so z = record { before = n; number = refl; there = there; so = z; none = x.none }

    pub one_more : (P n → ⊥) → (next : ℕ) → next ≡ after → Through P s next (n + 1)
    one_more f next p = record {
      left = ap (λ (i : ℕ). drop i (lines_of s)) (add-one n) ∙ head.2 ∙ ap (λ (i : ℕ). lines_of (drop i s)) (sym p);
      most = omega (arith, there);
      none = λ i l. go i (order i n) l;
    }
      where
        go : (i : ℕ) → (i < n) ⊎ (n ≤ i) → i < n + 1 → P i → ⊥
        go i (inl k) l z = x.none i k z
        go i (inr k) l z = let q : i ≡ n = omega arith in f (subst P q z)

-- the first of the lines that is P has one number, and there is none where no line is P
pub first_one : (n : ℕ) (P : ℕ → Type 0) (k j : ℕ) → FirstOf n P k → FirstOf n P j → k ≡ j
first_one n P k j x y = x.number ∙ ap (λ (i : ℕ). i + 1) (go (order x.before y.before) (order y.before x.before)) ∙ sym y.number
  where
    go : (x.before < y.before) ⊎ (y.before ≤ x.before) → (y.before < x.before) ⊎ (x.before ≤ y.before) → x.before ≡ y.before
    go (inl l) m = absurd (y.none x.before l x.so)
    go (inr l) (inl m) = absurd (x.none y.before m y.so)
    go (inr l) (inr m) = omega arith

pub first_none : {n : ℕ} {P : ℕ → Type 0} {k : ℕ} → FirstOf n P k → NoneOf n P → ⊥
first_none x f = f x.before x.there x.so

-- the same lines by another name
module _ {n : ℕ} {P Q : ℕ → Type 0} where
  pub none_too : ((i : ℕ) → i < n → Q i → P i) → NoneOf n P → NoneOf n Q
  none_too f x i l z = x i l (f i l z)

  pub first_too : ((i : ℕ) → i < n → P i → Q i) → ((i : ℕ) → i < n → Q i → P i) → {k : ℕ} → FirstOf n P k → FirstOf n Q k
  first_too f g x = record {
    before = x.before;
    number = x.number;
    there = x.there;
    so = f x.before x.there x.so;
    none = λ i l z. x.none i l (g i (omega (arith, x.there)) z);
  }
