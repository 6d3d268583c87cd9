-- A diagonal rises or falls; the masks of both; and the line of two squares by masks.
use Rattle.std.proofs.Common.{◌≡◌, ℕ, ◌+◌, ◌-◌, ◌*◌, ◌/◌, ◌%◌, ◌^◌, ◌<◌, ◌≤◌, Bool, true, false, cond, not, eqb, ltb, sym, refl, ap, ◌∙◌, ap₂, ⊎_elim, mod-lt, arith, pow_pos, le-ltb, lt-ltb, eq-eqb, ne_eqb, eqb-true}
use lib.Bits.{bit_or}
use borrow.Author.Tests.{lt-leb}
use Rattle.squares.specs.Tests.{◌and◌, ◌or◌}
use Rattle.squares.specs.Squares.{file, rank, has, up_to, set_of, all_to}
use Rattle.squares.proofs.Testing.{both, left, right, either, or_left, or_right, and_false, known, order, bool_ext}
use Rattle.squares.proofs.Digits.{has_shl_mod}
use Rattle.squares.proofs.Comprehension.{up_to_cong, up_to_none, set_of_none, empty, or_set_of}
use Rattle.squares.proofs.Every.{number_law}
use Rattle.geometry.specs.Lines.{apart, same_rank, same_file, same_diagonal, straight, diagonal, line}
use Rattle.sliding.specs.inner.Diagonals.{rising, falling, ranked}

-- two coordinates are as far apart as two others, in the same direction or in the opposite one
same_apart : (x y u v : ℕ) → apart x y ≡ apart u v → (eqb (x + v) (y + u) or eqb (x + u) (y + v)) ≡ true
same_apart x y u v e =
    ⊎_elim
    (λ l. ⊎_elim (λ m. or_left (eqb (x + u) (y + v)) (eq-eqb (x + v) (y + u) (omega arith))) (λ m. or_right (eqb (x + v) (y + u)) (eq-eqb (x + u) (y + v) (omega arith))) (order u v))
    (λ l. ⊎_elim (λ m. or_right (eqb (x + v) (y + u)) (eq-eqb (x + u) (y + v) (omega arith))) (λ m. or_left (eqb (x + u) (y + v)) (eq-eqb (x + v) (y + u) (omega arith))) (order u v))
    (order x y)

apart_same : (x y u v : ℕ) → (eqb (x + v) (y + u) or eqb (x + u) (y + v)) ≡ true → apart x y ≡ apart u v
apart_same x y u v t =
    ⊎_elim (λ e. let p : x + v ≡ y + u = eqb-true _ _ e in omega arith) (λ e. let p : x + u ≡ y + v = eqb-true _ _ e in omega arith) (either _ _ t)

pub same_diagonal_lem : (a b : ℕ) → same_diagonal a b ≡ (rising a b or falling a b)
unfolding same_diagonal
same_diagonal_lem a b =
    bool_ext _ _ (λ e. same_apart (file a) (file b) (rank a) (rank b) (eqb-true _ _ e))
    (λ t. eq-eqb _ _ (apart_same (file a) (file b) (rank a) (rank b) t))

eqb_sym : (x y : ℕ) → eqb x y ≡ eqb y x
eqb_sym x y = bool_ext _ _ (λ e. eq-eqb y x (sym (eqb-true x y e))) (λ e. eq-eqb x y (sym (eqb-true y x e)))

-- the masks of ranks and files
abbrev pub on_rank : ℕ → ℕ → Bool
on_rank a k = eqb (rank k) (rank a)

abbrev pub on_file : ℕ → ℕ → Bool
on_file a k = eqb (file k) (file a)

pub straight_is : (a k : ℕ) → (not (eqb a k) and (on_rank a k or on_file a k)) ≡ straight a k
unfolding straight same_rank same_file
straight_is a k = ap₂ (λ (s t : Bool). not (eqb a k) and (s or t)) (eqb_sym (rank k) (rank a)) (eqb_sym (file k) (file a))

pub diagonal_is : (a k : ℕ) → (not (eqb a k) and (rising a k or falling a k)) ≡ diagonal a k
unfolding diagonal
diagonal_is a k = ap (λ (t : Bool). not (eqb a k) and t) (sym (same_diagonal_lem a k))

-- those of the diagonals: one constant, moved by whole ranks
pub ranked_down : (s up down : ℕ) → up < down → s / 2 ^ ((down - up) * 8) ≡ ranked s up down
ranked_down s up down l = ap (λ (t : Bool). cond t (s / 2 ^ ((down - up) * 8)) (s * 2 ^ ((up - down) * 8) % 2 ^ 64)) (sym (lt-ltb up down l))

pub ranked_up : (s up down : ℕ) → down ≤ up → s * 2 ^ ((up - down) * 8) % 2 ^ 64 ≡ ranked s up down
ranked_up s up down l = ap (λ (t : Bool). cond t (s / 2 ^ ((down - up) * 8)) (s * 2 ^ ((up - down) * 8) % 2 ^ 64)) (sym (le-ltb up down l))

pub ranked_off : (s up down : ℕ) → down ≤ up → 8 ≤ up - down → 0 ≡ ranked s up down
unfolding ◌and◌
ranked_off s up down l h =
    let n = (up - down) * 8 in
    sym (empty 64 (s * 2 ^ n % 2 ^ 64) (mod-lt (s * 2 ^ n) (pow_pos 64))
    (λ k i. has_shl_mod s n 64 k ∙ ap (λ (t : Bool). ltb k 64 and (t and has s (k - n))) (lt-leb n k (omega arith)) ∙ and_false (ltb k 64)))
    ∙ ranked_up s up down l

pub rising_mask : (a : ℕ) → a < 256 → ranked 0x8040_2010_0804_0201 (rank a) (file a) ≡ set_of (rising a)
unfolding up_to all_to ◌and◌
rising_mask = number_law 256 (λ a. ranked 0x8040_2010_0804_0201 (rank a) (file a)) (λ a. set_of (rising a)) refl

pub falling_mask : (a : ℕ) → a < 256 → ranked 0x0102_0408_1020_4080 (rank a + file a) 7 ≡ set_of (falling a)
unfolding up_to all_to ◌and◌
falling_mask = number_law 256 (λ a. ranked 0x0102_0408_1020_4080 (rank a + file a) 7) (λ a. set_of (falling a)) refl

-- three squares, the first two not the same, each two on a diagonal: they are on one
module _ (a b k : ℕ) (other : a ≡ b → ⊥) where
  risen : rising a b ≡ true → falling a k ≡ true → (rising b k or falling b k) ≡ true → rising a k ≡ true
  risen r f t =
      let p : file a + rank b ≡ file b + rank a = eqb-true _ _ r in
      let q : file a + rank a ≡ file k + rank k = eqb-true _ _ f in
      ⊎_elim (λ e. let s : file b + rank k ≡ file k + rank b = eqb-true _ _ e in eq-eqb (file a + rank k) (file k + rank a) (omega arith))
      (λ e. let s : file b + rank b ≡ file k + rank k = eqb-true _ _ e in absurd (other (omega arith))) (either _ _ t)

  fallen : falling a b ≡ true → rising a k ≡ true → (rising b k or falling b k) ≡ true → falling a k ≡ true
  fallen f r t =
      let p : file a + rank a ≡ file b + rank b = eqb-true _ _ f in
      let q : file a + rank k ≡ file k + rank a = eqb-true _ _ r in
      ⊎_elim (λ e. let s : file b + rank k ≡ file k + rank b = eqb-true _ _ e in absurd (other (omega arith)))
      (λ e. let s : file b + rank b ≡ file k + rank k = eqb-true _ _ e in eq-eqb (file a + rank a) (file k + rank k) (omega arith)) (either _ _ t)

  from_each : ((rising a b or falling a b) and (rising a k or falling a k) and (rising b k or falling b k)) ≡ true
      → ((rising a b and rising a k) or (falling a b and falling a k)) ≡ true
  from_each t =
      let ak = either _ _ (right _ _ (left _ _ t)) in
      ⊎_elim (λ r. or_left _ (both r (⊎_elim (λ q. q) (λ q. risen r q (right _ _ t)) ak)))
      (λ f. or_right _ (both f (⊎_elim (λ q. fallen f q (right _ _ t)) (λ q. q) ak))) (either _ _ (left _ _ (left _ _ t)))

  to_each : ((rising a b and rising a k) or (falling a b and falling a k)) ≡ true
      → ((rising a b or falling a b) and (rising a k or falling a k) and (rising b k or falling b k)) ≡ true
  to_each t =
      ⊎_elim
      (λ r. let p : file a + rank b ≡ file b + rank a = eqb-true _ _ (left _ _ r) in let q : file a + rank k ≡ file k + rank a = eqb-true _ _ (right _ _ r) in
      both (both (or_left _ (left _ _ r)) (or_left _ (right _ _ r))) (or_left _ (eq-eqb (file b + rank k) (file k + rank b) (omega arith))))
      (λ f. let p : file a + rank a ≡ file b + rank b = eqb-true _ _ (left _ _ f) in let q : file a + rank a ≡ file k + rank k = eqb-true _ _ (right _ _ f) in
      both (both (or_right _ (left _ _ f)) (or_right _ (right _ _ f))) (or_right _ (eq-eqb (file b + rank b) (file k + rank k) (omega arith))))
      (either _ _ t)

  one_diagonal : (same_diagonal a b and same_diagonal a k and same_diagonal b k) ≡ ((rising a b and rising a k) or (falling a b and falling a k))
  one_diagonal = rw (same_diagonal_lem a b, same_diagonal_lem a k, same_diagonal_lem b k) (bool_ext _ _ from_each to_each)

  -- the line of the first two, by the lines of the first
  by_lines : (((eqb (rank a) (rank b) and on_rank a k) or (eqb (file a) (file b) and on_file a k)) or ((rising a b and rising a k) or (falling a b and falling a k))) ≡ line a b k
  unfolding line same_rank same_file
  by_lines =
      ap₂ ◌or◌ (ap₂ (λ (s t : Bool). (eqb (rank a) (rank b) and s) or (eqb (file a) (file b) and t)) (eqb_sym (rank k) (rank a)) (eqb_sym (file k) (file a))) (sym one_diagonal)
      ∙ sym (known _ (ap not (ne_eqb a b other)))

chosen : (t : Bool) (p : ℕ → Bool) → cond t (set_of p) 0 ≡ set_of (λ k. t and p k)
unfolding ◌and◌
chosen true p = refl
chosen false p = sym (up_to_none 64)

pub line_is : (a b : ℕ) → (a ≡ b → ⊥)
    → bit_or (bit_or (cond (eqb (rank a) (rank b)) (set_of (on_rank a)) 0) (cond (eqb (file a) (file b)) (set_of (on_file a)) 0))
    (bit_or (cond (rising a b) (set_of (rising a)) 0) (cond (falling a b) (set_of (falling a)) 0))
    ≡ set_of (line a b)
line_is a b other =
    ap₂ bit_or (two (eqb (rank a) (rank b)) (eqb (file a) (file b)) (on_rank a) (on_file a)) (two (rising a b) (falling a b) (rising a) (falling a)) ∙ or_set_of _ _
    ∙ up_to_cong 64 _ (line a b) (λ k l. by_lines a b k other)
  where
    two : (s t : Bool) (p q : ℕ → Bool) → bit_or (cond s (set_of p) 0) (cond t (set_of q) 0) ≡ set_of (λ k. (s and p k) or (t and q k))
    two s t p q = ap₂ bit_or (chosen s p) (chosen t q) ∙ or_set_of (λ k. s and p k) (λ k. t and q k)

pub line_none : (a b : ℕ) → a ≡ b → 0 ≡ set_of (line a b)
unfolding line ◌and◌
line_none a b e = set_of_none (line a b) (λ k l. ap (λ (t : Bool). not t and ((same_rank a b and same_rank a k) or (same_file a b and same_file a k) or (same_diagonal a b and same_diagonal a k and same_diagonal b k))) (eq-eqb a b e))
