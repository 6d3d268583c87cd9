-- The kinds met with the squares that they attack from are the attackers.
use mathlib.Core.Path.{◌≡◌, refl, ap, ap₂, ◌∙◌}
use mathlib.Core.Bool.{Bool, true, false, not, not-not}
use mathlib.Core.List.{List}
use Prim.Native.Nat.{ℕ, ◌<◌, ◌^◌}
use native.Mathlib.Nat.{lt_of_le_of_lt}
use lib.Bits.{and_le_l}
use Rattle.squares.specs.Tests.{◌and◌, ◌or◌}
use Rattle.squares.specs.Squares.{has, set_of}
use Rattle.geometry.specs.declared.Color.{Color}
use Rattle.geometry.specs.Colors.{opp}
use Rattle.geometry.specs.Lines.{between, straight, diagonal, free, clear}
use Rattle.geometry.specs.Steps.{knight_step, king_step, pawn_takes, reaches}
use Rattle.laws.specs.declared.Piece.{Piece}
use Rattle.laws.specs.declared.Piece.TheVariants.{Pawn, Knight, Bishop, Rook, Queen, King}
use Rattle.laws.specs.Men.{Man, empty, man, Men, is_of, is_kind, is_empty, bare}
use Rattle.laws.specs.Attacks.{attacks, attacks_from, attackers_of, union_of}
use Rattle.laws.specs.Boards.{kind_set, color_set, men_at, Clean}
use Rattle.attacks.specs.inner.Meeting.{met_of}
use Rattle.squares.proofs.Testing.{agree, agree_eq}
use Rattle.squares.proofs.Digits.{has_and, has_or}
use Rattle.squares.proofs.Comprehension.{is_up_to, has_set_of}
use Rattle.squares.proofs.Every.{all_cong}
use Rattle.geometry.proofs.Between.{between_sym}
use Rattle.geometry.proofs.Turned.{knight_sym, king_sym, straight_sym, diagonal_sym, pawn_turned}
use Rattle.laws.proofs.Cases.{every, by_cases, by_men}
use Rattle.laws.proofs.ManSets.{has_kind, has_colour, colour_lt}
use Rattle.laws.proofs.Mans.{opp_opp, same_colour}

-- one square: the test of the man's own kind, of the tests p n d s k of the kinds
abbrev pub own : Man → (p n d s k : Bool) → Bool
own empty p n d s k = false
own (man c Pawn) p n d s k = p
own (man c Knight) p n d s k = n
own (man c Bishop) p n d s k = d
own (man c Rook) p n d s k = s
own (man c Queen) p n d s k = s or d
own (man c King) p n d s k = k

abbrev meet_by : Man → (p n d s k : Bool) → Bool
meet_by x p n d s k =
    (is_kind Pawn x and p) or (is_kind Knight x and n) or ((is_kind Bishop x or is_kind Queen x) and d) or ((is_kind Rook x or is_kind Queen x) and s) or (is_kind King x and k)

abbrev meet_law : Man → (p n d s k : Bool) → Bool
meet_law x p n d s k = agree (meet_by x p n d s k) (own x p n d s k)

meet_law_lem : (x : Man) (p n d s k : Bool) → meet_by x p n d s k ≡ own x p n d s k
unfolding ◌and◌ ◌or◌
meet_law_lem x p n d s k = agree_eq (meet_by x p n d s k) (own x p n d s k) (by_cases 5 (meet_law x) (by_men (λ y. every 5 (meet_law y)) refl x) p n d s k)

shared : (s d t : Bool) → ((s and t) or (d and t)) ≡ ((s or d) and t)
unfolding ◌and◌ ◌or◌
shared true true true = refl
shared true true false = refl
shared true false true = refl
shared true false false = refl
shared false d t = refl

own_kind : (m : Men) (c : Color) (k : Piece) (a b : ℕ)
    → own (man c k) (pawn_takes c a b) (knight_step a b) (reaches diagonal (bare m) a b) (reaches straight (bare m) a b) (king_step a b) ≡ attacks m (man c k) a b
own_kind m c Pawn a b = refl
own_kind m c Knight a b = refl
own_kind m c Bishop a b = refl
own_kind m c Rook a b = refl
own_kind m c Queen a b = shared (straight a b) (diagonal a b) (clear (bare m) a b)
own_kind m c King a b = refl

pub own_law : (m : Men) (c : Color) (x : Man) (a b : ℕ)
    → (is_of c x and own x (pawn_takes c a b) (knight_step a b) (reaches diagonal (bare m) a b) (reaches straight (bare m) a b) (king_step a b))
    ≡ (is_of c x and attacks m x a b)
unfolding ◌and◌
own_law m c empty a b = refl
own_law m c (man d k) a b = go (is_of c (man d k)) refl
  where
    go : (t : Bool) → is_of c (man d k) ≡ t
        → (t and own (man d k) (pawn_takes c a b) (knight_step a b) (reaches diagonal (bare m) a b) (reaches straight (bare m) a b) (king_step a b)) ≡ (t and attacks m (man d k) a b)
    go true e =
        ap (λ (z : Color). own (man d k) (pawn_takes z a b) (knight_step a b) (reaches diagonal (bare m) a b) (reaches straight (bare m) a b) (king_step a b)) (same_colour c d e)
        ∙ own_kind m d k a b
    go false e = refl

-- no man between, tested from the other end on the union
pub clear_union : (m : Men) (a b : ℕ) → clear (free (union_of m)) b a ≡ clear (bare m) a b
unfolding clear
clear_union m a b =
    all_cong 64 (λ k. not (between b a k) or free (union_of m) k) (λ k. not (between a b k) or bare m k)
    (λ k l. ap₂ (λ (t u : Bool). not t or u) (between_sym b a k) (ap not (has_set_of (λ j. not (is_empty (m j))) k l) ∙ not-not (is_empty (m k))))

module _ (pieces colors : List ℕ) (ok : Clean pieces colors) where
  abbrev m : Men
  m = men_at pieces colors

  -- a member of the set that `met` makes
  pub met_at : (c : Color) (P N D S K a : ℕ) → a < 64
      → has (met_of pieces (color_set colors c) P N D S K) a ≡ (is_of c (m a) and own (m a) (has P a) (has N a) (has D a) (has S a) (has K a))
  unfolding met_of
  met_at c P N D S K a l =
      simp (has_and, has_or) tests ∙ ap (λ (t : Bool). is_of c (m a) and t) (meet_law_lem (m a) (has P a) (has N a) (has D a) (has S a) (has K a))
    where
      tests : (has (color_set colors c) a
          and ((has (kind_set pieces Pawn) a and has P a) or (has (kind_set pieces Knight) a and has N a) or ((has (kind_set pieces Bishop) a or has (kind_set pieces Queen) a) and has D a)
          or ((has (kind_set pieces Rook) a or has (kind_set pieces Queen) a) and has S a) or (has (kind_set pieces King) a and has K a)))
          ≡ (is_of c (m a) and meet_by (m a) (has P a) (has N a) (has D a) (has S a) (has K a))
      tests = λ i. has_colour pieces colors ok c a l i
          and ((kind Pawn i and has P a) or (kind Knight i and has N a) or ((kind Bishop i or kind Queen i) and has D a)
          or ((kind Rook i or kind Queen i) and has S a) or (kind King i and has K a))
        where
          kind : (k : Piece) → has (kind_set pieces k) a ≡ is_kind k (m a)
          kind k = has_kind pieces colors ok k a l

  pub met_lt : (c : Color) (P N D S K : ℕ) → met_of pieces (color_set colors c) P N D S K < 2 ^ 64
  unfolding met_of
  met_lt c P N D S K = lt_of_le_of_lt (and_le_l (color_set colors c) _) (colour_lt pieces colors ok c)

  pub met_is : (c : Color) (b : ℕ) → b < 64
      → met_of pieces (color_set colors c) (set_of (pawn_takes (opp c) b)) (set_of (knight_step b)) (set_of (reaches diagonal (free (union_of m)) b)) (set_of (reaches straight (free (union_of m)) b)) (set_of (king_step b))
      ≡ attackers_of m c b
  unfolding attackers_of
  met_is c b h = is_up_to 64 _ (attacks_from m c b) (met_lt c _ _ _ _ _) at
    where
      at : (a : ℕ) → a < 64
          → has (met_of pieces (color_set colors c) (set_of (pawn_takes (opp c) b)) (set_of (knight_step b)) (set_of (reaches diagonal (free (union_of m)) b)) (set_of (reaches straight (free (union_of m)) b)) (set_of (king_step b))) a
          ≡ attacks_from m c b a
      at a l = met_at c _ _ _ _ _ a l ∙ (λ i. is_of c (m a) and own (m a) (p i) (n i) (d i) (s i) (k i)) ∙ own_law m c (m a) a b
        where
          p : has (set_of (pawn_takes (opp c) b)) a ≡ pawn_takes c a b
          p = has_set_of (pawn_takes (opp c) b) a l ∙ pawn_turned (opp c) b a h l ∙ ap (λ (z : Color). pawn_takes z a b) (opp_opp c)

          n : has (set_of (knight_step b)) a ≡ knight_step a b
          n = has_set_of (knight_step b) a l ∙ knight_sym b a h l

          d : has (set_of (reaches diagonal (free (union_of m)) b)) a ≡ reaches diagonal (bare m) a b
          d = has_set_of (reaches diagonal (free (union_of m)) b) a l ∙ ap₂ ◌and◌ (diagonal_sym b a h l) (clear_union m a b)

          s : has (set_of (reaches straight (free (union_of m)) b)) a ≡ reaches straight (bare m) a b
          s = has_set_of (reaches straight (free (union_of m)) b) a l ∙ ap₂ ◌and◌ (straight_sym b a h l) (clear_union m a b)

          k : has (set_of (king_step b)) a ≡ king_step a b
          k = has_set_of (king_step b) a l ∙ king_sym b a h l
