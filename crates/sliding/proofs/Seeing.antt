-- What is seen along a line, once upwards and once on the turned board, is what is reached past an empty path; and the sliders' lines.
use Rattle.std.proofs.Common.{◌≡◌, ℕ, ◌+◌, ◌/◌, ◌%◌, ◌<◌, ◌≤◌, Bool, true, false, not, eqb, ltb, sym, refl, ap, ◌∙◌, subst, ap₂, inl, inr, ⊎_elim, lt_trans, eq-or-lt_of_le, arith, ltb-true, lt-ltb, eq-eqb, ne_eqb, eqb-true}
use lib.Bits.{bit_and, bit_or}
use borrow.Author.Tests.{eqb-false, not-true}
use Rattle.squares.specs.Tests.{◌and◌, ◌or◌}
use Rattle.squares.specs.Squares.{has, set_of, all_to, every_square}
use Rattle.squares.proofs.Testing.{both, left, right, either, or_left, or_right, or_and, and_true, and_false, and_swap, and_group, and_yes, implied, cases, order, bool_ext, agree, agree_eq}
use Rattle.squares.proofs.Digits.{has_and}
use Rattle.squares.proofs.Comprehension.{up_to_cong, has_set_of, or_set_of}
use Rattle.squares.proofs.Every.{all_at, all_of}
use Rattle.geometry.specs.Lines.{between, inside, same_rank, same_file, same_diagonal, straight, diagonal, aligned, clear, free}
use Rattle.geometry.specs.Steps.{reaches}
use Rattle.geometry.proofs.Between.{Inside, inside_facts, inside_of, Between, between_facts}
use Rattle.sliding.specs.inner.Seen.{moved, flipped, mirrored, opens, seen}
use Rattle.sliding.specs.inner.Diagonals.{rising, falling}
use Rattle.sliding.proofs.Borrowing.{opens_above, opens_free, opens_of}
use Rattle.sliding.proofs.Diagonals.{on_rank, on_file, straight_is, diagonal_is}

-- g turns the board over, and comes back
turns_at : (ℕ → ℕ) → ℕ → Bool
turns_at g k = ltb (g k) 64 and eqb (g (g k)) k

-- what is between two squares of a line is on it
Straight : (ℕ → ℕ → Bool) → Type 0
Straight on = (a k j : ℕ) → on a k ≡ true → between a k j ≡ true → on a j ≡ true

-- on a line, the squares numbered between two squares are between them, and g turns the order round
lined_at : (ℕ → ℕ) → (ℕ → ℕ → Bool) → ℕ → ℕ → ℕ → Bool
lined_at g on a k j = not (on a j) or (agree (between a k j) (inside a k j) and agree (ltb (g j) (g k)) (ltb k j))

lined : (ℕ → ℕ) → (ℕ → ℕ → Bool) → Bool
lined g on = every_square (turns_at g) and every_square (λ a. on a a and every_square (λ k. not (on a k) or every_square (lined_at g on a k)))

module _ (g : ℕ → ℕ) (on : ℕ → ℕ → Bool) (ok : lined g on ≡ true) (along : Straight on) (occ a : ℕ) (in_board : a < 64) where
  stays : (k : ℕ) → k < 64 → g k < 64
  unfolding lined turns_at
  stays k h = ltb-true (g k) 64 (left _ _ (all_at 64 (turns_at g) (left _ _ ok) k h))

  back : (k : ℕ) → k < 64 → g (g k) ≡ k
  unfolding lined turns_at
  back k h = eqb-true (g (g k)) k (right _ _ (all_at 64 (turns_at g) (left _ _ ok) k h))

  at_a : (on a a and every_square (λ k. not (on a k) or every_square (lined_at g on a k))) ≡ true
  unfolding lined
  at_a = all_at 64 (λ x. on x x and every_square (λ k. not (on x k) or every_square (lined_at g on x k))) (right _ _ ok) a in_board

  line_at : (k : ℕ) → k < 64 → on a k ≡ true → (j : ℕ) → j < 64 → lined_at g on a k j ≡ true
  line_at k h e = all_at 64 (lined_at g on a k) (implied (on a k) (all_at 64 (λ x. not (on a x) or every_square (lined_at g on a x)) (right _ _ at_a) k h) e)

  ruled : (k : ℕ) → k < 64 → on a k ≡ true → (j : ℕ) → j < 64 → between a k j ≡ (inside a k j and on a j)
  unfolding lined_at Straight
  ruled k h e j l = go (on a j) refl
    where
      off : (t : Bool) → on a j ≡ false → between a k j ≡ t → t ≡ false
      off true q w = sym (along a k j e w) ∙ q
      off false q w = refl

      go : (t : Bool) → on a j ≡ t → between a k j ≡ (inside a k j and t)
      go true q = agree_eq _ _ (left _ _ (implied (on a j) (line_at k h e j l) q)) ∙ sym (and_true (inside a k j))
      go false q = off (between a k j) q refl ∙ sym (and_false (inside a k j))

  turns : (k : ℕ) → k < 64 → on a k ≡ true → (j : ℕ) → j < 64 → on a j ≡ true → ltb (g j) (g k) ≡ ltb k j
  unfolding lined_at
  turns k h e j l f = agree_eq _ _ (right _ _ (implied (on a j) (line_at k h e j l) f))

  -- the order of two squares of the line, from that of their images
  down : (k : ℕ) → k < 64 → on a k ≡ true → (j : ℕ) → j < 64 → on a j ≡ true → g j < g k → k < j
  down k h e j l f p = ltb-true k j (sym (turns k h e j l f) ∙ lt-ltb (g j) (g k) p)

  up : (k : ℕ) → k < 64 → on a k ≡ true → (j : ℕ) → j < 64 → on a j ≡ true → k < j → g j < g k
  up k h e j l f p = ltb-true (g j) (g k) (turns k h e j l f ∙ lt-ltb k j p)

  -- the men on the line
  men : ℕ
  men = bit_and occ (set_of (on a))

  has_men : (j : ℕ) → j < 64 → has men j ≡ (has occ j and on a j)
  unfolding men
  has_men j l = has_and occ (set_of (on a)) j ∙ ap (λ (t : Bool). has occ j and t) (has_set_of (on a) j l)

  -- none of them is numbered strictly between a and k, another square
  record Sees (k : ℕ) : Type 0 where
    apart : a ≡ k → ⊥
    none : (j : ℕ) → j < 64 → inside a k j ≡ true → on a j ≡ true → has men j ≡ false

  module _ (k : ℕ) (h : k < 64) (e : on a k ≡ true) where
    from_up : opens a men k ≡ true → Sees k
    from_up o =
        let l : a < k = opens_above a men k o in
        record {
          apart = λ q. omega arith;
          none = λ j i p q. ⊎_elim (λ w. opens_free a men k o j w.0 w.1) (λ w. absurd (omega arith)) (inside_facts a k j p);
        }

    from_down : opens (g a) (moved g men) (g k) ≡ true → Sees k
    from_down o =
        let l : k < a = down k h e a in_board (left _ _ at_a) (opens_above (g a) (moved g men) (g k) o) in
        record {
          apart = λ q. omega arith;
          none = λ j i p q. ⊎_elim (λ w. absurd (omega arith))
              (λ w. sym (has_set_of (λ x. has men (g x)) (g j) (stays j i) ∙ ap (has men) (back j i))
              ∙ opens_free (g a) (moved g men) (g k) o (g j) (up j i q a in_board (left _ _ at_a) w.1) (up k h e j i q w.0))
              (inside_facts a k j p);
        }

    to_up : Sees k → a < k → opens a men k ≡ true
    to_up s l = opens_of a men k l (λ j p q. let i = lt_trans q h in
        ⊎_elim (λ f. s.none j i (inside_of a k j (inl (p, q))) f) (λ f. has_men j i ∙ ap (λ (t : Bool). has occ j and t) f ∙ and_false (has occ j)) (cases (on a j)))

    to_down : Sees k → k < a → opens (g a) (moved g men) (g k) ≡ true
    to_down s l = opens_of (g a) (moved g men) (g k) (up k h e a in_board (left _ _ at_a) l) (λ x p q. at_image x (lt_trans q (stays k h)) p q)
      where
        at_image : (x : ℕ) → x < 64 → g a < x → x < g k → has (moved g men) x ≡ false
        at_image x i p q =
            let j = g x in
            let l' = stays x i in
            let b = sym (back x i) in
            has_set_of (λ y. has men (g y)) x i
            ∙ ⊎_elim
            (λ f. s.none j l' (inside_of a k j (inr (down k h e j l' f (subst (λ (y : ℕ). y < g k) b q), down j l' f a in_board (left _ _ at_a) (subst (λ (y : ℕ). g a < y) b p)))) f)
            (λ f. has_men j l' ∙ ap (λ (t : Bool). has occ j and t) f ∙ and_false (has occ j)) (cases (on a j))

    to_clear : Sees k → (not (eqb a k) and clear (free occ) a k) ≡ true
    unfolding clear ◌or◌
    to_clear s = both (ap not (ne_eqb a k s.apart)) (all_of 64 (λ j. not (between a k j) or free occ j) (λ j l. go j l (between a k j) (ruled k h e j l)))
      where
        go : (j : ℕ) → j < 64 → (t : Bool) → t ≡ (inside a k j and on a j) → (not t or free occ j) ≡ true
        go j l false f = refl
        go j l true f =
            let q = right _ _ (sym f) in
            ap not (sym (and_yes (has occ j) q) ∙ sym (has_men j l) ∙ s.none j l (left _ _ (sym f)) q)

    from_clear : (not (eqb a k) and clear (free occ) a k) ≡ true → Sees k
    unfolding clear
    from_clear c = record {
      apart = eqb-false a k (not-true (eqb a k) (left _ _ c));
      none = λ j l p q. has_men j l ∙ and_yes (has occ j) q
          ∙ not-true (has occ j) (implied (between a k j) (all_at 64 (λ x. not (between a k x) or free occ x) (right _ _ c) j l) (ruled k h e j l ∙ both p q));
    }

    seen_clear : seen g a men k ≡ (not (eqb a k) and clear (free occ) a k)
    seen_clear =
        bool_ext (seen g a men k) (not (eqb a k) and clear (free occ) a k) (λ o. to_clear (⊎_elim from_up from_down (either _ _ o)))
        (λ c. let s = from_clear c in
        ⊎_elim (λ l. or_left _ (to_up s l)) (λ l. or_right _ (to_down s (other s.apart l))) (order a k))
      where
        other : (a ≡ k → ⊥) → k ≤ a → k < a
        other d l = ⊎_elim (λ q. absurd (d (sym q))) (λ q. q) (eq-or-lt_of_le l)

  line_is : (k : ℕ) → k < 64 → (has (set_of (on a)) k and seen g a men k) ≡ (on a k and (not (eqb a k) and clear (free occ) a k))
  unfolding ◌and◌
  line_is k h = ap (λ (t : Bool). t and seen g a men k) (has_set_of (on a) k h) ∙ go (on a k) refl
    where
      go : (t : Bool) → on a k ≡ t → (t and seen g a men k) ≡ (t and (not (eqb a k) and clear (free occ) a k))
      go true e = seen_clear k h e
      go false e = refl

-- two lines
spread : (p q n c : Bool) → ((p and (n and c)) or (q and (n and c))) ≡ ((n and (p or q)) and c)
spread p q n c = or_and p q (n and c) ∙ sym (and_group (p or q) n c) ∙ ap (λ (t : Bool). t and c) (and_swap (p or q) n)

-- what `sideways` and `upright` find on a line
abbrev found : (ℕ → ℕ) → (ℕ → ℕ → Bool) → ℕ → ℕ → ℕ
found g on occ a = set_of (λ k. has (set_of (on a)) k and seen g a (bit_and occ (set_of (on a))) k)

two_lines : (on one two : ℕ → ℕ → Bool) (f g : ℕ → ℕ) → lined f one ≡ true → Straight one → lined g two ≡ true → Straight two
    → ((a b : ℕ) → (not (eqb a b) and (one a b or two a b)) ≡ on a b)
    → (occ a : ℕ) → a < 64 → bit_or (found f one occ a) (found g two occ a) ≡ set_of (reaches on (free occ) a)
unfolding men
two_lines on one two f g ok₁ st₁ ok₂ st₂ lines occ a h =
    or_set_of (λ k. has (set_of (one a)) k and seen f a (bit_and occ (set_of (one a))) k) (λ k. has (set_of (two a)) k and seen g a (bit_and occ (set_of (two a))) k)
    ∙ up_to_cong 64 _ (reaches on (free occ) a)
    (λ k l. ap₂ ◌or◌ (line_is f one ok₁ st₁ occ a h k l) (line_is g two ok₂ st₂ occ a h k l)
    ∙ spread (one a k) (two a k) (not (eqb a k)) (clear (free occ) a k) ∙ ap (λ (t : Bool). t and clear (free occ) a k) (lines a k))

-- by which way round three numbers stand
ordered : {A : Type 0} {x y z : ℕ} → Inside x y z → (x < z → z < y → A) → (y < z → z < x → A) → A
ordered (inl p) f g = f p.0 p.1
ordered (inr p) f g = g p.0 p.1

rank_straight : Straight on_rank
unfolding Straight
rank_straight a k j q e = eq-eqb (j / 8) (a / 8) (go (eqb-true (k / 8) (a / 8) q) (between_facts a k j e))
  where
    go : k / 8 ≡ a / 8 → Between a k j → j / 8 ≡ a / 8
    go w (inl p) = sym p.here
    go w (inr (inl p)) = ordered p.within (λ u v. omega arith) (λ u v. omega arith)
    go w (inr (inr p)) = ordered p.by_ranks (λ u v. omega arith) (λ u v. omega arith)

file_straight : Straight on_file
unfolding Straight
file_straight a k j q e = eq-eqb (j % 8) (a % 8) (go (eqb-true (k % 8) (a % 8) q) (between_facts a k j e))
  where
    go : k % 8 ≡ a % 8 → Between a k j → j % 8 ≡ a % 8
    go w (inl p) = ordered p.within (λ u v. omega arith) (λ u v. omega arith)
    go w (inr (inl p)) = sym p.here
    go w (inr (inr p)) = ordered p.by_files (λ u v. omega arith) (λ u v. omega arith)

rising_straight : Straight rising
unfolding Straight
rising_straight a k j q e = eq-eqb (a % 8 + j / 8) (j % 8 + a / 8) (go (eqb-true (a % 8 + k / 8) (k % 8 + a / 8) q) (between_facts a k j e))
  where
    go : a % 8 + k / 8 ≡ k % 8 + a / 8 → Between a k j → a % 8 + j / 8 ≡ j % 8 + a / 8
    go w (inl p) = ordered p.within (λ u v. omega arith) (λ u v. omega arith)
    go w (inr (inl p)) = ordered p.within (λ u v. omega arith) (λ u v. omega arith)
    go w (inr (inr p)) =
        ordered p.by_files (λ u v. ordered p.by_ranks (λ x y. omega (arith, p.here)) (λ x y. omega arith))
        (λ u v. ordered p.by_ranks (λ x y. omega arith) (λ x y. omega (arith, p.here)))

falling_straight : Straight falling
unfolding Straight
falling_straight a k j q e = eq-eqb (a % 8 + a / 8) (j % 8 + j / 8) (go (eqb-true (a % 8 + a / 8) (k % 8 + k / 8) q) (between_facts a k j e))
  where
    go : a % 8 + a / 8 ≡ k % 8 + k / 8 → Between a k j → a % 8 + a / 8 ≡ j % 8 + j / 8
    go w (inl p) = ordered p.within (λ u v. omega arith) (λ u v. omega arith)
    go w (inr (inl p)) = ordered p.within (λ u v. omega arith) (λ u v. omega arith)
    go w (inr (inr p)) =
        ordered p.by_files (λ u v. ordered p.by_ranks (λ x y. omega arith) (λ x y. omega (arith, p.here)))
        (λ u v. ordered p.by_ranks (λ x y. omega (arith, p.here)) (λ x y. omega arith))

rank_lined : lined mirrored on_rank ≡ true
unfolding lined lined_at turns_at all_to between same_rank same_file same_diagonal ◌and◌ ◌or◌
rank_lined = refl

file_lined : lined flipped on_file ≡ true
unfolding lined lined_at turns_at all_to between same_rank same_file same_diagonal ◌and◌ ◌or◌
file_lined = refl

rising_lined : lined flipped rising ≡ true
unfolding lined lined_at turns_at all_to between same_rank same_file same_diagonal ◌and◌ ◌or◌
rising_lined = refl

falling_lined : lined flipped falling ≡ true
unfolding lined lined_at turns_at all_to between same_rank same_file same_diagonal ◌and◌ ◌or◌
falling_lined = refl

pub rook_is : (occ a : ℕ) → a < 64 → bit_or (found mirrored on_rank occ a) (found flipped on_file occ a) ≡ set_of (reaches straight (free occ) a)
rook_is = two_lines straight on_rank on_file mirrored flipped rank_lined rank_straight file_lined file_straight straight_is

pub bishop_is : (occ a : ℕ) → a < 64 → bit_or (found flipped rising occ a) (found flipped falling occ a) ≡ set_of (reaches diagonal (free occ) a)
bishop_is = two_lines diagonal rising falling flipped flipped rising_lined rising_straight falling_lined falling_straight diagonal_is

pub queen_is : (occ a : ℕ) → bit_or (set_of (reaches straight (free occ) a)) (set_of (reaches diagonal (free occ) a)) ≡ set_of (reaches aligned (free occ) a)
queen_is occ a =
    or_set_of (reaches straight (free occ) a) (reaches diagonal (free occ) a)
    ∙ up_to_cong 64 _ (reaches aligned (free occ) a) (λ k l. or_and (straight a k) (diagonal a k) (clear (free occ) a k))
