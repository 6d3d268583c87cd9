-- One king: tests at all squares that ask for it are tests at its square.
use mathlib.Core.Path.{◌≡◌, refl, sym, ap, ap₂, ◌∙◌, subst}
use mathlib.Core.Bool.{Bool, true, false, not}
use mathlib.Core.List.{List}
use Prim.Native.Nat.{ℕ, ◌<◌, ◌^◌, ◌-◌}
use native.Mathlib.Nat.{lt_of_le_of_lt, mod-eq_of_lt}
use native.Mathlib.Omega.{arith}
use lib.Dec.{eqb}
use lib.Bits.{bit_and, and_le_l}
use borrow.Author.Tests.{eqb-true, eq-eqb, lt-ltb}
use Rattle.squares.specs.Tests.{◌and◌, ◌or◌}
use Rattle.squares.specs.Squares.{has, set_of, size, some_square, united}
use Rattle.squares.specs.Members.{lowest_of, first_of}
use Rattle.geometry.specs.declared.Color.{Color}
use Rattle.geometry.specs.declared.Color.TheVariants.{White, Black}
use Rattle.geometry.specs.Colors.{opp}
use Rattle.geometry.specs.Lines.{between, straight, diagonal, free, clear}
use Rattle.geometry.specs.Steps.{reaches}
use Rattle.laws.specs.declared.Piece.TheVariants.{Pawn, Knight, Bishop, Rook, Queen, King}
use Rattle.laws.specs.Men.{Man, empty, man, Men, is_of, is_kind, same_man}
use Rattle.laws.specs.Attacks.{attacks, attacks_from, attacked, attackers_of, checks, slides, alone, pinned, checkers_of, pins_of}
use Rattle.laws.specs.Souls.{number}
use Rattle.laws.specs.Acceptance.{kings_ok, quiet}
use Rattle.laws.specs.Boards.{kind_set, color_set, men_at, Clean}
use Rattle.men.specs.inner.Standing.{men_of}
use Rattle.attacks.specs.inner.Meeting.{met_of}
use Rattle.pins.specs.inner.Kings.{TheKing, snipers_of}
use Rattle.squares.proofs.Testing.{both, left, right, bool_ext, agree, agree_eq, and_true}
use Rattle.squares.proofs.Digits.{has_and, has_zero}
use Rattle.squares.proofs.Comprehension.{is_up_to, up_to_lt, up_to_cong, has_set_of, has_not}
use Rattle.squares.proofs.Every.{all_of, any_of, any_at, any_cong, not_all}
use Rattle.squares.proofs.Counting.{count_empty}
use Rattle.squares.proofs.Singles.{one_at}
use Rattle.squares.proofs.LeastMember.{Least}
use Rattle.squares.proofs.Members.{least_of}
use Rattle.geometry.proofs.Turned.{straight_sym, diagonal_sym}
use Rattle.laws.proofs.Cases.{every, every_man, by_cases, by_men, by_colors}
use Rattle.laws.proofs.ManSets.{has_kind, kind_lt}
use Rattle.men.proofs.Having.{has_men_of, men_of_lt, size_men_of}
use Rattle.attacks.proofs.Meets.{own, met_at, met_lt}

-- 2 passed: each colour has one king
one_king : (m : Men) → kings_ok m ≡ true → (c : Color) → number m c King ≡ 1
one_king m ok White = eqb-true (number m White King) 1 (left _ _ ok)
one_king m ok Black = eqb-true (number m Black King) 1 (right _ _ ok)

some_king : (s : ℕ) → size s ≡ 1 → 0 < s
some_king s e = go s refl
  where
    go : (x : ℕ) → s ≡ x → 0 < s
    go x q = positive s (λ z. clash (sym e ∙ ap (λ (y : ℕ). size y) z ∙ count_empty 64 (has 0) (λ k l. has_zero k)))
      where
        clash : ◌≡◌ {A = ℕ} 1 0 → ⊥
        clash h = omega arith

        positive : (y : ℕ) → (y ≡ 0 → ⊥) → 0 < y
        positive y f = omega arith

pub the_king : (m : Men) (c : Color) (q : ℕ) → kings_ok m ≡ true → q ≡ lowest_of (men_of m c King) → TheKing m c q
the_king m c q ok l = record { here = low.0; only = λ a h. sym (has_men_of m c King a h) ∙ one_at (men_of m c King) q (men_of_lt m c King) one low.1.member a }
  where
    one : size (men_of m c King) ≡ 1
    one = size_men_of m c King ∙ one_king m ok c

    low : (q < 64) × Least (men_of m c King) q
    low = (least_of (men_of_lt m c King) l).some (some_king (men_of m c King) one)

-- `to_square` gives its square
pub first_king : (m : Men) (c : Color) → kings_ok m ≡ true → TheKing m c (first_of (men_of m c King))
unfolding first_of
first_king m c ok = subst (λ (q : ℕ). TheKing m c q) (sym (mod-eq_of_lt the.here)) the
  where
    the : TheKing m c (lowest_of (men_of m c King))
    the = the_king m c (lowest_of (men_of m c King)) ok refl

at_one : (q : ℕ) (f : ℕ → Bool) → q < 64 → some_square (λ a. eqb a q and f a) ≡ f q
at_one q f h = bool_ext (some_square (λ a. eqb a q and f a)) (f q) to (λ e. any_of 64 (λ a. eqb a q and f a) q h (both (eq-eqb q q refl) e))
  where
    to : some_square (λ a. eqb a q and f a) ≡ true → f q ≡ true
    to e = let w = any_at 64 (λ a. eqb a q and f a) e in subst (λ (j : ℕ). f j ≡ true) (eqb-true w.0 q (left _ _ w.2)) (right _ _ w.2)

pub any_king : (m : Men) (c : Color) (q : ℕ) (f : ℕ → Bool) → TheKing m c q → some_square (λ a. same_man (m a) (man c King) and f a) ≡ f q
any_king m c q f k =
    any_cong 64 (λ a. same_man (m a) (man c King) and f a) (λ a. eqb a q and f a) (λ a l. ap (λ (t : Bool). t and f a) (k.only a l)) ∙ at_one q f k.here

-- 6: the other side's king is attacked
pub quiet_is : (m : Men) (c : Color) (q : ℕ) → TheKing m (opp c) q → attacked m c q ≡ not (quiet m c)
quiet_is m c q k = sym (not_all 64 (λ a. same_man (m a) (man (opp c) King) and attacked m c a) ∙ any_king m (opp c) q (attacked m c) k)

-- checkers
abbrev king_law : Color → Man → Bool → Bool
king_law d x t = agree ((is_of d x and not (same_man x (man d King))) and t) ((is_of d x and t) and not (is_kind King x))

king_law_lem : (d : Color) (x : Man) (t : Bool) → ((is_of d x and not (same_man x (man d King))) and t) ≡ ((is_of d x and t) and not (is_kind King x))
unfolding ◌and◌
king_law_lem d x t =
    agree_eq ((is_of d x and not (same_man x (man d King))) and t) ((is_of d x and t) and not (is_kind King x))
    (by_cases 1 (king_law d x) (by_men (λ y. every 1 (king_law d y)) (by_colors (λ e. every_man (λ y. every 1 (king_law e y))) refl d) x) t)

pub checkers_is : (pieces colors : List ℕ) (c : Color) (q : ℕ) → Clean pieces colors → TheKing (men_at pieces colors) c q
    → bit_and (attackers_of (men_at pieces colors) (opp c) q) ((2 ^ 64 - 1) - kind_set pieces King) ≡ checkers_of (men_at pieces colors) c
unfolding attackers_of ◌and◌
checkers_is pieces colors c q ok k = is_up_to 64 _ (checks m c) (lt_of_le_of_lt (and_le_l (set_of by) _) (up_to_lt 64 by)) at
  where
    m : Men
    m = men_at pieces colors

    by : ℕ → Bool
    by a = attacks_from m (opp c) q a

    at : (a : ℕ) → a < 64 → has (bit_and (set_of by) ((2 ^ 64 - 1) - kind_set pieces King)) a ≡ checks m c a
    at a l =
        has_and (set_of by) ((2 ^ 64 - 1) - kind_set pieces King) a
        ∙ ap₂ ◌and◌ (has_set_of by a l)
        (has_not 64 (kind_set pieces King) a (kind_lt pieces colors ok King) ∙ ap₂ (λ (t u : Bool). t and not u) (lt-ltb a 64 l) (has_kind pieces colors ok King a l))
        ∙ sym (king_law_lem (opp c) (m a) (attacks m (m a) a q))
        ∙ ap (λ (t : Bool). (is_of (opp c) (m a) and not (same_man (m a) (man (opp c) King))) and t) (sym (any_king m c q (attacks m (m a) a) k))

-- pins: the lines that the men move along, met with the kinds
pub slide_law : (c : Color) (x : Man) (a q : ℕ) → (is_of c x and own x false false (diagonal a q) (straight a q) false) ≡ (is_of c x and slides x a q)
slide_law c empty a q = refl
slide_law c (man d Pawn) a q = refl
slide_law c (man d Knight) a q = refl
slide_law c (man d Bishop) a q = refl
slide_law c (man d Rook) a q = refl
slide_law c (man d Queen) a q = refl
slide_law c (man d King) a q = refl

-- on a board with no man every line is clear
open_line : (a q : ℕ) → clear (free 0) q a ≡ true
unfolding clear ◌or◌
open_line a q = all_of 64 (λ k. not (between q a k) or free 0 k) (λ k l. ap (λ (t : Bool). not (between q a k) or not t) (has_zero k) ∙ or_true (not (between q a k)))
  where
    or_true : (t : Bool) → (t or true) ≡ true
    or_true true = refl
    or_true false = refl

pub snipers_is : (pieces colors : List ℕ) (c : Color) (q : ℕ) → Clean pieces colors → q < 64
    → met_of pieces (color_set colors c) 0 0 (set_of (reaches diagonal (free 0) q)) (set_of (reaches straight (free 0) q)) 0 ≡ snipers_of (men_at pieces colors) c q
unfolding snipers_of
snipers_is pieces colors c q ok h = is_up_to 64 _ (λ a. is_of c (m a) and slides (m a) a q) (met_lt pieces colors ok c _ _ _ _ _) at
  where
    m : Men
    m = men_at pieces colors

    at : (a : ℕ) → a < 64 → has (met_of pieces (color_set colors c) 0 0 (set_of (reaches diagonal (free 0) q)) (set_of (reaches straight (free 0) q)) 0) a ≡ (is_of c (m a) and slides (m a) a q)
    at a l = met_at pieces colors ok c _ _ _ _ _ a l ∙ (λ i. is_of c (m a) and own (m a) (has_zero a i) (has_zero a i) (d i) (s i) (has_zero a i)) ∙ slide_law c (m a) a q
      where
        d : has (set_of (reaches diagonal (free 0) q)) a ≡ diagonal a q
        d = has_set_of (reaches diagonal (free 0) q) a l ∙ ap₂ ◌and◌ (diagonal_sym q a h l) (open_line a q) ∙ and_true (diagonal a q)

        s : has (set_of (reaches straight (free 0) q)) a ≡ straight a q
        s = has_set_of (reaches straight (free 0) q) a l ∙ ap₂ ◌and◌ (straight_sym q a h l) (open_line a q) ∙ and_true (straight a q)

pub pins_is : (m : Men) (c : Color) (q : ℕ) → TheKing m c q → set_of (united (λ a. alone m a q) (snipers_of m (opp c) q)) ≡ pins_of m c
unfolding united snipers_of
pins_is m c q k = up_to_cong 64 (united (λ a. alone m a q) (snipers_of m (opp c) q)) (pinned m c) at
  where
    by : ℕ → Bool
    by a = is_of (opp c) (m a) and slides (m a) a q

    at : (j : ℕ) → j < 64 → some_square (λ a. has (set_of by) a and alone m a q j) ≡ pinned m c j
    at j l =
        any_cong 64 (λ a. has (set_of by) a and alone m a q j) (λ a. by a and alone m a q j) (λ a la. ap (λ (t : Bool). t and alone m a q j) (has_set_of by a la))
        ∙ sym (any_king m c q (λ r. some_square (λ a. is_of (opp c) (m a) and slides (m a) a r and alone m a r j)) k)
