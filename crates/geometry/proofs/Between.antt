-- `between` as facts on numbers, for variable squares, so that `omega` can use it; and that the order of the two ends does not matter.
use mathlib.Core.Path.{◌≡◌, sym, ◌∙◌}
use mathlib.Core.Logic.{◌⊎◌, inl, inr, ⊎_elim}
use mathlib.Core.Bool.{true}
use Prim.Native.Nat.{ℕ, ◌+◌, ◌/◌, ◌%◌, ◌<◌}
use native.Mathlib.Omega.{arith}
use lib.Dec.{eqb}
use borrow.Author.Tests.{eqb-true, ltb-true, eq-eqb, lt-ltb}
use Rattle.squares.specs.Tests.{◌and◌}
use Rattle.geometry.specs.Lines.{apart, inside, between, same_rank, same_file, same_diagonal}
use Rattle.squares.proofs.Testing.{both, left, right, either, or_left, or_right, bool_ext}

-- k strictly inside a and b
abbrev pub Inside : ℕ → ℕ → ℕ → Type 0
Inside a b k = ((a < k) × (k < b)) ⊎ ((b < k) × (k < a))

pub inside_facts : (a b k : ℕ) → inside a b k ≡ true → Inside a b k
inside_facts a b k e =
    ⊎_elim (λ p. inl (ltb-true a k (left _ _ p), ltb-true k b (right _ _ p))) (λ p. inr (ltb-true b k (left _ _ p), ltb-true k a (right _ _ p)))
    (either _ _ e)

pub inside_of : (a b k : ℕ) → Inside a b k → inside a b k ≡ true
inside_of a b k (inl p) = or_left _ (both (lt-ltb a k p.0) (lt-ltb k b p.1))
inside_of a b k (inr p) = or_right _ (both (lt-ltb b k p.0) (lt-ltb k a p.1))

-- k strictly between a and b: on their rank, on their file, or on their diagonal
pub record OnRank (a b k : ℕ) : Type 0 where
  pub ends : a / 8 ≡ b / 8
  pub here : a / 8 ≡ k / 8
  pub within : Inside (a % 8) (b % 8) (k % 8)

pub record OnFile (a b k : ℕ) : Type 0 where
  pub ends : a % 8 ≡ b % 8
  pub here : a % 8 ≡ k % 8
  pub within : Inside (a / 8) (b / 8) (k / 8)

pub record OnDiagonal (a b k : ℕ) : Type 0 where
  pub ends : apart (a % 8) (b % 8) ≡ apart (a / 8) (b / 8)
  pub here : apart (a % 8) (k % 8) ≡ apart (a / 8) (k / 8)
  pub by_files : Inside (a % 8) (b % 8) (k % 8)
  pub by_ranks : Inside (a / 8) (b / 8) (k / 8)

abbrev pub Between : ℕ → ℕ → ℕ → Type 0
Between a b k = OnRank a b k ⊎ (OnFile a b k ⊎ OnDiagonal a b k)

pub between_facts : (a b k : ℕ) → between a b k ≡ true → Between a b k
unfolding between same_rank same_file same_diagonal
between_facts a b k e = ⊎_elim (λ p. ⊎_elim on_rank on_file (either _ _ p)) on_diagonal (either _ _ e)
  where
    on_rank : (eqb (a / 8) (b / 8) and eqb (a / 8) (k / 8) and inside (a % 8) (b % 8) (k % 8)) ≡ true → Between a b k
    on_rank q =
        inl (record { ends = eqb-true _ _ (left _ _ (left _ _ q)); here = eqb-true _ _ (right _ _ (left _ _ q)); within = inside_facts _ _ _ (right _ _ q) })

    on_file : (eqb (a % 8) (b % 8) and eqb (a % 8) (k % 8) and inside (a / 8) (b / 8) (k / 8)) ≡ true → Between a b k
    on_file q =
        inr (inl (record { ends = eqb-true _ _ (left _ _ (left _ _ q)); here = eqb-true _ _ (right _ _ (left _ _ q)); within = inside_facts _ _ _ (right _ _ q) }))

    on_diagonal : (eqb (apart (a % 8) (b % 8)) (apart (a / 8) (b / 8)) and eqb (apart (a % 8) (k % 8)) (apart (a / 8) (k / 8)) and inside (a % 8) (b % 8) (k % 8) and inside (a / 8) (b / 8) (k / 8)) ≡ true → Between a b k
    on_diagonal q = inr (inr (record {
      ends = eqb-true _ _ (left _ _ (left _ _ (left _ _ q)));
      here = eqb-true _ _ (right _ _ (left _ _ (left _ _ q)));
      by_files = inside_facts _ _ _ (right _ _ (left _ _ q));
      by_ranks = inside_facts _ _ _ (right _ _ q);
    }))

pub between_of : (a b k : ℕ) → Between a b k → between a b k ≡ true
unfolding between same_rank same_file same_diagonal
between_of a b k (inl p) = or_left _ (or_left _ (both (both (eq-eqb _ _ p.ends) (eq-eqb _ _ p.here)) (inside_of _ _ _ p.within)))
between_of a b k (inr (inl p)) = or_left _ (or_right _ (both (both (eq-eqb _ _ p.ends) (eq-eqb _ _ p.here)) (inside_of _ _ _ p.within)))
between_of a b k (inr (inr p)) =
    or_right _ (both (both (both (eq-eqb _ _ p.ends) (eq-eqb _ _ p.here)) (inside_of _ _ _ p.by_files)) (inside_of _ _ _ p.by_ranks))

inside_sym : (a b k : ℕ) → Inside a b k → Inside b a k
inside_sym a b k (inl p) = inr p
inside_sym a b k (inr p) = inl p

-- distances add up at a square inside. `omega` splits at each `-`, six times at most, so each step is a lemma of its own
apart_inside : (a b k : ℕ) → Inside a b k → apart a b ≡ apart a k + apart b k
apart_inside a b k (inl p) = omega arith
apart_inside a b k (inr p) = omega arith

cancel : (x x' y y' w w' : ℕ) → x ≡ y + w → x' ≡ y' + w' → x ≡ x' → y ≡ y' → w ≡ w'
cancel x x' y y' w w' p q r s = omega arith

diagonal_turn : (fa fb fk ra rb rk : ℕ) → apart fa fb ≡ apart ra rb → apart fa fk ≡ apart ra rk → Inside fa fb fk → Inside ra rb rk → apart fb fk ≡ apart rb rk
diagonal_turn fa fb fk ra rb rk e h p q =
    cancel (apart fa fb) (apart ra rb) (apart fa fk) (apart ra rk) (apart fb fk) (apart rb rk) (apart_inside fa fb fk p) (apart_inside ra rb rk q) e h

apart_sym : (a b : ℕ) → apart a b ≡ apart b a
apart_sym a b = omega arith

turned : (a b k : ℕ) → Between a b k → Between b a k
turned a b k (inl p) = inl (record { ends = sym p.ends; here = sym p.ends ∙ p.here; within = inside_sym _ _ _ p.within })
turned a b k (inr (inl p)) = inr (inl (record { ends = sym p.ends; here = sym p.ends ∙ p.here; within = inside_sym _ _ _ p.within }))
turned a b k (inr (inr p)) = inr (inr (record {
  ends = apart_sym (b % 8) (a % 8) ∙ p.ends ∙ apart_sym (a / 8) (b / 8);
  here = diagonal_turn (a % 8) (b % 8) (k % 8) (a / 8) (b / 8) (k / 8) p.ends p.here p.by_files p.by_ranks;
  by_files = inside_sym _ _ _ p.by_files;
  by_ranks = inside_sym _ _ _ p.by_ranks;
}))

pub between_sym : (a b k : ℕ) → between a b k ≡ between b a k
between_sym a b k = bool_ext (between a b k) (between b a k) (there a b) (there b a)
  where
    there : (x y : ℕ) → between x y k ≡ true → between y x k ≡ true
    there x y e = between_of y x k (turned x y k (between_facts x y k e))
