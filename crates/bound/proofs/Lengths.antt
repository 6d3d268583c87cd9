-- Lengths of lists of entries, by the ways that lists are made.
use mathlib.Core.Path.{◌≡◌, refl, ap}
use mathlib.Core.Bool.{Bool, true, false, cond}
use mathlib.Core.List.{List, [], ◌∷◌, ◌++◌}
use Prim.Native.Nat.{ℕ, zero, suc, ◌+◌, ◌*◌, ◌≤◌, zero-le}
use native.Mathlib.Nat.{le_refl, le_trans, mul-add, mul-one}
use native.Mathlib.Omega.{arith}
use lib.Dec.{eqb}
use lib.ListN.{length, length-append}
use Rattle.squares.specs.Squares.{has, flag, count_to, size}
use Rattle.squares.specs.Members.{list_to, members, concat}
use Rattle.retraction_list.specs.declared.UnCaptureKind.{UnCaptureKind}
use Rattle.retraction_list.specs.declared.SourceAndTargets.{SourceAndTargets}
use Rattle.retraction_list.specs.Entries.{offered}
use Rattle.squares.proofs.Members.{concat_both}

abbrev Entries : Type 0
Entries = List SourceAndTargets

-- m entries at most. A record, so that the list is read off its type
pub record AtMost (m : ℕ) (xs : Entries) : Type 0 where
  pub fits : length xs ≤ m

pub most_none : (m : ℕ) → AtMost m []
most_none m = record { fits = zero-le }

pub most_one : (e : SourceAndTargets) → AtMost 1 (e ∷ [])
most_one e = record { fits = le_refl 1 }

pub most_le : (m n : ℕ) (xs : Entries) → m ≤ n → AtMost m xs → AtMost n xs
most_le m n xs h p = record { fits = le_trans p.fits h }

-- one or the other
pub most_if : (b : Bool) (xs ys : Entries) (m : ℕ) → (b ≡ true → AtMost m xs) → (b ≡ false → AtMost m ys) → AtMost m (cond b xs ys)
most_if true xs ys m p q = p refl
most_if false xs ys m p q = q refl

-- `if targets != EMPTY { push }`
pub most_offered : (s t : ℕ) (k : UnCaptureKind) (u : Bool) → AtMost 1 (offered s t k u)
unfolding offered
most_offered s t k u = most_if (eqb t 0) _ _ 1 (λ e. most_none 1) (λ e. most_one _)

pub most_both : (xs ys : Entries) (m n : ℕ) → AtMost m xs → AtMost n ys → AtMost (m + n) (xs ++ ys)
most_both xs ys m n p q = record { fits = omega (arith, length-append xs ys) }

-- a loop over the members of a set, c entries at most for each
up_to : (c n : ℕ) (p : ℕ → Bool) (f : ℕ → Entries) → ((k : ℕ) → AtMost c (f k)) → length (concat f (list_to n p)) ≤ c * count_to n p
unfolding list_to concat count_to
up_to c zero p f h = zero-le
up_to c (suc n) p f h =
    omega (
      arith,
      ap (λ (l : Entries). length l) (concat_both f (list_to n p) (cond (p n) (n ∷ []) [])),
      length-append (concat f (list_to n p)) (concat f (cond (p n) (n ∷ []) [])),
      up_to c n p f h,
      last (p n),
      mul-add c (flag (p n)) (count_to n p),
    )
  where
    last : (t : Bool) → length (concat f (cond t (n ∷ []) [])) ≤ c * flag t
    last true = omega (arith, length-append (f n) [], (h n).fits, mul-one c)
    last false = zero-le

pub most_each : (c : ℕ) (f : ℕ → Entries) (s : ℕ) → ((k : ℕ) → AtMost c (f k)) → AtMost (c * size s) (concat f (members s))
unfolding members
most_each c f s h = record { fits = up_to c 64 (has s) f h }
