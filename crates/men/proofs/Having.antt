-- What the sets of the arrays have, by the men.
use mathlib.Core.Path.{◌≡◌, refl, sym, ap, ap₂, ◌∙◌}
use mathlib.Core.Logic.{⊎_elim}
use mathlib.Core.Bool.{Bool, true, false, not, cond, not-not}
use mathlib.Core.List.{List}
use Prim.Native.Nat.{ℕ, ◌<◌, ◌≤◌, ◌^◌, ◌+◌, ◌*◌}
use native.Mathlib.Nat.{add-zero}
use lib.Dec.{eqb, leb}
use lib.Bits.{bit_and, bit_or, bit_xor, and_lt, or_lt, xor_lt}
use lib.ListN.{get_or}
use Rattle.squares.specs.Tests.{◌and◌, ◌or◌}
use Rattle.squares.specs.Squares.{has, set_of, size}
use Rattle.geometry.specs.declared.Color.{Color}
use Rattle.geometry.specs.declared.Color.TheVariants.{White, Black}
use Rattle.laws.specs.declared.Piece.{Piece}
use Rattle.laws.specs.declared.Piece.TheVariants.{Pawn, Knight, Bishop, Rook, Queen}
use Rattle.laws.specs.Men.{Man, empty, man, Men, kind_number, man_number, is_of, is_kind, is_empty, same_man}
use Rattle.laws.specs.Souls.{number}
use Rattle.laws.specs.Attacks.{union_of}
use Rattle.laws.specs.Boards.{men_ok, man_by, kind_by, kind_set, color_set, kinds_at, colors_at, men_at, Clean}
use Rattle.men.specs.inner.Standing.{strange, men_of}
use Rattle.squares.proofs.Testing.{order, agree, agree_eq}
use Rattle.squares.proofs.Digits.{differs, has_and, has_or, has_xor, has_above}
use Rattle.squares.proofs.Comprehension.{is_up_to, up_to_lt, has_set_of}
use Rattle.squares.proofs.Every.{all_cong, none_test}
use Rattle.squares.proofs.Counting.{count_cong}
use Rattle.laws.proofs.Cases.{by_cases, by_colors, by_kinds, by_men, every_kind, every_man}
use Rattle.laws.proofs.Cleaning.{Bounded, ok_by}
use Rattle.laws.proofs.ManSets.{shown_at, has_kind, has_colour, kind_lt, colour_lt, men_on}

-- the word of `unclear`, from the two sets by colour and the six by kind
abbrev pub word : (w b p n l r q k : ℕ) → ℕ
word w b p n l r q k =
    bit_or
    (bit_or
    (bit_or (bit_or (bit_or (bit_or (bit_and p n) (bit_and (bit_or p n) l)) (bit_and (bit_or (bit_or p n) l) r)) (bit_and (bit_or (bit_or (bit_or p n) l) r) q))
    (bit_and (bit_or (bit_or (bit_or (bit_or p n) l) r) q) k))
    (bit_and w b))
    (bit_xor (bit_or (bit_or (bit_or (bit_or (bit_or p n) l) r) q) k) (bit_or w b))

abbrev word_by : (w b p n l r q k : Bool) → Bool
word_by w b p n l r q k =
    (((((p and n) or ((p or n) and l)) or (((p or n) or l) and r)) or ((((p or n) or l) or r) and q)) or (((((p or n) or l) or r) or q) and k)
    or (w and b))
    or differs (((((p or n) or l) or r) or q) or k) (w or b)

word_has : (w b p n l r q k a : ℕ) → has (word w b p n l r q k) a ≡ word_by (has w a) (has b a) (has p a) (has n a) (has l a) (has r a) (has q a) (has k a)
word_has w b p n l r q k a = simp (has_or, has_and, has_xor)

abbrev word_law : (w b p n l r q k : Bool) → Bool
word_law w b p n l r q k = agree (word_by w b p n l r q k) (not (ok_by w b p n l r q k))

word_law_lem : (w b p n l r q k : Bool) → word_law w b p n l r q k ≡ true
unfolding ◌and◌ ◌or◌
word_law_lem = by_cases 8 word_law refl

word_lt : (w b p n l r q k : ℕ) → w < 2 ^ 64 → b < 2 ^ 64 → p < 2 ^ 64 → n < 2 ^ 64 → l < 2 ^ 64 → r < 2 ^ 64 → q < 2 ^ 64 → k < 2 ^ 64 → word w b p n l r q k < 2 ^ 64
word_lt w b p n l r q k hw hb hp hn hl hr hq hk =
    let two = or_lt 64 p n hp hn in
    let three = or_lt 64 (bit_or p n) l two hl in
    let four = or_lt 64 (bit_or (bit_or p n) l) r three hr in
    let five = or_lt 64 (bit_or (bit_or (bit_or p n) l) r) q four hq in
    or_lt 64 _ _
    (or_lt 64 _ _ (or_lt 64 _ _ (or_lt 64 _ _ (or_lt 64 _ _ (or_lt 64 _ _ (and_lt 64 p n hp hn) (and_lt 64 _ l two hl)) (and_lt 64 _ r three hr)) (and_lt 64 _ q four hq)) (and_lt 64 _ k five hk)) (and_lt 64 w b hw hb))
    (xor_lt 64 _ _ (or_lt 64 _ k five hk) (or_lt 64 w b hw hb))

pub unclear_is : (pieces colors : List ℕ) → Bounded pieces → Bounded colors
    → word (get_or colors 0 0) (get_or colors 1 0) (get_or pieces 0 0) (get_or pieces 1 0) (get_or pieces 2 0) (get_or pieces 3 0) (get_or pieces 4 0) (get_or pieces 5 0) ≡ set_of (strange pieces colors)
unfolding strange
unclear_is pieces colors p c =
    is_up_to 64 _ (strange pieces colors) (word_lt _ _ _ _ _ _ _ _ (c 0) (c 1) (p 0) (p 1) (p 2) (p 3) (p 4) (p 5))
    (λ a l. word_has (get_or colors 0 0) (get_or colors 1 0) (get_or pieces 0 0) (get_or pieces 1 0) (get_or pieces 2 0) (get_or pieces 3 0) (get_or pieces 4 0) (get_or pieces 5 0) a
    ∙ agree_eq _ _ (word_law_lem (has (get_or colors 0 0) a) (has (get_or colors 1 0) a) (has (get_or pieces 0 0) a) (has (get_or pieces 1 0) a) (has (get_or pieces 2 0) a) (has (get_or pieces 3 0) a) (has (get_or pieces 4 0) a) (has (get_or pieces 5 0) a)))

abbrev same_law : Color → Piece → Man → Bool
same_law c k x = agree (is_kind k x and is_of c x) (same_man x (man c k))

same_law_lem : (c : Color) (k : Piece) (x : Man) → (is_kind k x and is_of c x) ≡ same_man x (man c k)
unfolding ◌and◌
same_law_lem c k x =
    agree_eq (is_kind k x and is_of c x) (same_man x (man c k))
    (by_men (same_law c k) (by_kinds (λ j. every_man (same_law c j)) (by_colors (λ d. every_kind (λ j. every_man (same_law d j))) refl c) k) x)

occupied_law : (x : Man) → (is_of White x or is_of Black x) ≡ not (is_empty x)
unfolding ◌or◌
occupied_law empty = refl
occupied_law (man White k) = refl
occupied_law (man Black k) = refl

pub has_men_of : (m : Men) (c : Color) (k : Piece) (a : ℕ) → a < 64 → has (men_of m c k) a ≡ same_man (m a) (man c k)
unfolding men_of
has_men_of m c k a h = has_set_of (λ j. same_man (m j) (man c k)) a h

pub men_of_lt : (m : Men) (c : Color) (k : Piece) → men_of m c k < 2 ^ 64
unfolding men_of
men_of_lt m c k = up_to_lt 64 (λ a. same_man (m a) (man c k))

pub size_men_of : (m : Men) (c : Color) (k : Piece) → size (men_of m c k) ≡ number m c k
size_men_of m c k = count_cong 64 (has (men_of m c k)) (λ a. same_man (m a) (man c k)) (has_men_of m c k)

-- beyond the 64 squares a set has no member, and no man stands there
pub stands_at : (pieces colors : List ℕ) (c : Color) (k : Piece) (a : ℕ) → has (men_of (men_at pieces colors) c k) a ≡ same_man (men_at pieces colors a) (man c k)
unfolding ◌and◌
stands_at pieces colors c k a = ⊎_elim (has_men_of (men_at pieces colors) c k a) beyond (order a 64)
  where
    beyond : 64 ≤ a → has (men_of (men_at pieces colors) c k) a ≡ same_man (men_at pieces colors a) (man c k)
    beyond h =
        has_above a (men_of_lt (men_at pieces colors) c k) h
        ∙ sym (ap (λ (x : Man). same_man x (man c k)) (men_on pieces colors a h) ∙ none c k)
      where
        none : (c : Color) (k : Piece) → same_man empty (man c k) ≡ false
        none c k = agree_eq _ _ (by_kinds (λ j. agree (same_man empty (man c j)) false) (by_colors (λ d. every_kind (λ j. agree (same_man empty (man d j)) false)) refl c) k)

module _ (pieces colors : List ℕ) (ok : Clean pieces colors) where
  pub men_of_is : (c : Color) (k : Piece) → bit_and (kind_set pieces k) (color_set colors c) ≡ men_of (men_at pieces colors) c k
  unfolding men_of
  men_of_is c k =
      is_up_to 64 (bit_and (kind_set pieces k) (color_set colors c)) (λ a. same_man (men_at pieces colors a) (man c k))
      (and_lt 64 (kind_set pieces k) (color_set colors c) (kind_lt pieces colors ok k) (colour_lt pieces colors ok c))
      (λ a l. has_and (kind_set pieces k) (color_set colors c) a ∙ ap₂ ◌and◌ (has_kind pieces colors ok k a l) (has_colour pieces colors ok c a l) ∙ same_law_lem c k (men_at pieces colors a))

  pub occupied_at : (a : ℕ) → a < 64 → has (bit_or (color_set colors White) (color_set colors Black)) a ≡ not (is_empty (men_at pieces colors a))
  occupied_at a l =
      has_or (color_set colors White) (color_set colors Black) a ∙ ap₂ ◌or◌ (has_colour pieces colors ok White a l) (has_colour pieces colors ok Black a l)
      ∙ occupied_law (men_at pieces colors a)

  pub union_is : bit_or (color_set colors White) (color_set colors Black) ≡ union_of (men_at pieces colors)
  union_is =
      is_up_to 64 (bit_or (color_set colors White) (color_set colors Black)) (λ a. not (is_empty (men_at pieces colors a)))
      (or_lt 64 (color_set colors White) (color_set colors Black) (colour_lt pieces colors ok White) (colour_lt pieces colors ok Black)) occupied_at

-- the kind that the sets show on a square
abbrev pub shown_kind : List ℕ → ℕ → Piece
shown_kind pieces a = kind_by (has (kind_set pieces Pawn) a) (has (kind_set pieces Knight) a) (has (kind_set pieces Bishop) a) (has (kind_set pieces Rook) a) (has (kind_set pieces Queen) a)

-- a square is empty where the union has it not
pub empty_at : (pieces colors : List ℕ) (a : ℕ) → not (has (union_of (men_at pieces colors)) a) ≡ is_empty (men_at pieces colors a)
empty_at pieces colors a = ⊎_elim on beyond (order a 64)
  where
    on : a < 64 → not (has (union_of (men_at pieces colors)) a) ≡ is_empty (men_at pieces colors a)
    on h = ap not (has_set_of (λ j. not (is_empty (men_at pieces colors j))) a h) ∙ not-not (is_empty (men_at pieces colors a))

    beyond : 64 ≤ a → not (has (union_of (men_at pieces colors)) a) ≡ is_empty (men_at pieces colors a)
    beyond h = ap not (has_above a (up_to_lt 64 (λ j. not (is_empty (men_at pieces colors j)))) h) ∙ sym (ap (λ (x : Man). is_empty x) (men_on pieces colors a h))

-- the number of the man that the sets show
number_of : (w b : Bool) (k : Piece) → cond w (kind_number k * 2) (cond b (kind_number k * 2 + 1) 0) ≡ man_number (man_by w b k)
number_of true b k = sym (add-zero (kind_number k * 2))
number_of false true k = refl
number_of false false k = refl

pub man_at_is : (pieces colors : List ℕ) (a : ℕ) → Bounded colors
    → cond (has (color_set colors White) a) (kind_number (shown_kind pieces a) * 2) (cond (has (color_set colors Black) a) (kind_number (shown_kind pieces a) * 2 + 1) 0)
    ≡ man_number (men_at pieces colors a)
man_at_is pieces colors a h = number_of (has (color_set colors White) a) (has (color_set colors Black) a) (shown_kind pieces a) ∙ ap (λ (x : Man). man_number x) (⊎_elim on beyond (order a 64))
  where
    on : a < 64 → man_by (has (color_set colors White) a) (has (color_set colors Black) a) (shown_kind pieces a) ≡ men_at pieces colors a
    on l = sym (shown_at pieces colors a l)

    beyond : 64 ≤ a → man_by (has (color_set colors White) a) (has (color_set colors Black) a) (shown_kind pieces a) ≡ men_at pieces colors a
    beyond l = ap₂ (λ (w b : Bool). man_by w b (shown_kind pieces a)) (has_above a (h 0) l) (has_above a (h 1) l) ∙ sym (men_on pieces colors a l)

pub bad_men_is : (pieces colors : List ℕ) → not (eqb (set_of (strange pieces colors)) 0) ≡ not (men_ok pieces colors)
unfolding men_ok strange
bad_men_is pieces colors =
    ap not (none_test (strange pieces colors)
    ∙ all_cong 64 (λ a. not (strange pieces colors a)) (λ a. eqb (kinds_at pieces a) (colors_at colors a) and leb (kinds_at pieces a) 1)
    (λ a l. not-not (eqb (kinds_at pieces a) (colors_at colors a) and leb (kinds_at pieces a) 1)))
