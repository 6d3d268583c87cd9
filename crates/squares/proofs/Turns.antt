-- `for k in each(set) { x = f(x, k); }`: a turn takes k, the first of the members of `left`, and `next` is left then.
use mathlib.Core.Path.{◌≡◌, refl, sym, ap, ap₂, ◌∙◌, subst}
use mathlib.Core.Bool.{Bool, true, false, cond}
use mathlib.Core.List.{List, [], ◌∷◌, ◌++◌}
use Prim.Native.Nat.{ℕ, zero, suc, ◌<◌}
use lib.Dec.{eqb}
use borrow.Author.Tests.{eqb-true, eq-eqb}
use Rattle.squares.specs.Tests.{◌and◌, ◌or◌}
use Rattle.squares.specs.Squares.{has, any_to}
use Rattle.squares.specs.Members.{list_to, members, for_each}
use Rattle.squares.proofs.Testing.{both, left, right, or_left, or_right, or_false, bool_ext}
use Rattle.squares.proofs.Every.{any_of, any_at}

-- some number of the list passes
abbrev pub any_list : (ℕ → Bool) → List ℕ → Bool
any_list q [] = false
any_list q (x ∷ xs) = q x or any_list q xs

any_both : (q : ℕ → Bool) (xs ys : List ℕ) → any_list q (xs ++ ys) ≡ (any_list q ys or any_list q xs)
unfolding ◌or◌
any_both q [] ys = sym (or_false (any_list q ys))
any_both q (x ∷ xs) ys = ap (λ (t : Bool). q x or t) (any_both q xs ys) ∙ go (q x) (any_list q ys) (any_list q xs)
  where
    go : (a b c : Bool) → (a or (b or c)) ≡ (b or (a or c))
    go true true c = refl
    go true false c = refl
    go false b c = refl

any_listed : (q : ℕ → Bool) (n : ℕ) (p : ℕ → Bool) → any_list q (list_to n p) ≡ any_to n (λ a. p a and q a)
unfolding list_to any_to ◌and◌ ◌or◌
any_listed q zero p = refl
any_listed q (suc n) p =
    any_both q (list_to n p) (cond (p n) (n ∷ []) []) ∙ ap₂ (λ (t u : Bool). t or u) (last (p n)) (any_listed q n p)
  where
    last : (t : Bool) → any_list q (cond t (n ∷ []) []) ≡ (t and q n)
    last true = or_false (q n)
    last false = refl

-- some member passes
pub any_member : (q : ℕ → Bool) (s : ℕ) → any_list q (members s) ≡ any_to 64 (λ a. has s a and q a)
unfolding members
any_member q s = any_listed q 64 (has s)

-- what a turn takes is a square, and a member
pub taken_in : (s : ℕ) {k : ℕ} {ks : List ℕ} → members s ≡ k ∷ ks → (k < 64) × (has s k ≡ true)
taken_in s {k} {ks} e =
    let w = any_at 64 (λ a. has s a and eqb a k) (sym (any_member (λ a. eqb a k) s) ∙ ap (any_list (λ a. eqb a k)) e ∙ or_left (any_list (λ a. eqb a k) ks) (eq-eqb k k refl)) in
    let same : w.0 ≡ k = eqb-true w.0 k (right _ _ w.2) in
    (subst (λ (x : ℕ). x < 64) same w.1, subst (λ (x : ℕ). has s x ≡ true) same (left _ _ w.2))

pub taken_lt : (s : ℕ) {k : ℕ} {ks : List ℕ} → members s ≡ k ∷ ks → k < 64
taken_lt s e = (taken_in s e).0

-- what is left then was there before
pub kept_in : (s t : ℕ) {k : ℕ} → members s ≡ k ∷ members t → (j : ℕ) → j < 64 → has t j ≡ true → has s j ≡ true
kept_in s t {k} e j l m =
    sym (found s) ∙ ap (any_list (λ a. eqb a j)) e ∙ or_right (eqb k j) (found t ∙ m)
  where
    found : (s : ℕ) → any_list (λ a. eqb a j) (members s) ≡ has s j
    found s =
        any_member (λ a. eqb a j) s
        ∙ bool_ext (any_to 64 (λ a. has s a and eqb a j)) (has s j)
        (λ x. let w = any_at 64 (λ a. has s a and eqb a j) x in ap (has s) (sym (eqb-true w.0 j (right _ _ w.2))) ∙ left _ _ w.2)
        (λ x. any_of 64 (λ a. has s a and eqb a j) j l (both x (eq-eqb j j refl)))

-- the loop's invariant: what there is, with the members left still to come, makes the whole
pub record Going {A : Type 0} (f : A → ℕ → A) (start : A) (set : ℕ) (x : A) (left : ℕ) : Type 0 where
  pub whole : for_each f x (members left) ≡ for_each f start (members set)

pub going_starts : {A : Type 0} {f : A → ℕ → A} {start : A} {set left : ℕ} → left ≡ set → Going f start set start left
going_starts {f = f} {start = start} e = record { whole = ap (λ (s : ℕ). for_each f start (members s)) e }

pub going_on : {A : Type 0} {f : A → ℕ → A} {start x y : A} {set left k next : ℕ} → Going f start set x left → members left ≡ k ∷ members next → y ≡ f x k
    → Going f start set y next
unfolding for_each
going_on {f = f} {x = x} {next = next} g m e = record { whole = ap (λ z. for_each f z (members next)) e ∙ sym (ap (for_each f x) m) ∙ g.whole }

pub going_done : {A : Type 0} {f : A → ℕ → A} {start x : A} {set left : ℕ} → Going f start set x left → members left ≡ [] → x ≡ for_each f start (members set)
unfolding for_each
going_done {f = f} {x = x} g e = sym (ap (for_each f x) e) ∙ g.whole
