-- The Rust's statements that look for checkers and pins, read in the words of the men.
use mathlib.Core.Path.{◌≡◌, refl, sym, ap, ap₂, ◌∙◌}
use mathlib.Core.Bool.{Bool, true, false, not, cond}
use mathlib.Core.List.{List, [], ◌∷◌, ◌++◌}
use Prim.Native.Nat.{ℕ, zero, suc, ◌<◌}
use native.Mathlib.Nat.{lt_of_le_of_lt}
use lib.Dec.{eqb}
use lib.Bits.{bit_and, bit_or, bit_xor, and_le_l, xor_zero_l, xor_zero_r}
use Rattle.squares.specs.Tests.{◌and◌, ◌or◌}
use Rattle.squares.specs.Squares.{has, set_of, only, size}
use Rattle.squares.specs.Members.{list_to, members, first_of, for_each}
use Rattle.geometry.specs.declared.Color.{Color}
use Rattle.geometry.specs.Colors.{opp}
use Rattle.geometry.specs.Lines.{straight, diagonal, between_of}
use Rattle.geometry.specs.Steps.{knight_step, pawn_takes}
use Rattle.laws.specs.declared.Piece.{Piece}
use Rattle.laws.specs.declared.Piece.TheVariants.{Pawn, Knight, Bishop, Rook, Queen, King}
use Rattle.laws.specs.declared.ChessRetraction.{ChessRetraction}
use Rattle.laws.specs.declared.Board.{Board}
use Rattle.laws.specs.Men.{Man, man, Men, is_of, is_kind, same_man}
use Rattle.laws.specs.Attacks.{slides}
use Rattle.laws.specs.Positions.{Pos}
use Rattle.laws.specs.Boards.{kind_set, color_set, kind_sets, color_sets, Clean, men_at, board_of}
use Rattle.men.specs.inner.Standing.{men_of}
use Rattle.pins.specs.inner.Kings.{snipers_of}
use Rattle.geometry.specs.Chess.{knight_moves, pawn_attacks}
use Rattle.incremental.specs.Found.{side_men, found_stored, checkers_xor, king_square, asks_knights, knights_found, asks_pawns, pawns_found, bishop_rays, rook_rays, sliding_attackers, slider_found, sliders_found, rust_found}
use Rattle.squares.proofs.Testing.{agree, agree_eq}
use Rattle.squares.proofs.Digits.{has_and, has_or}
use Rattle.squares.proofs.Comprehension.{is_up_to, has_set_of, and_set_of}
use Rattle.squares.proofs.Members.{first_lt}
use Rattle.geometry.proofs.Turned.{straight_sym, diagonal_sym}
use Rattle.laws.proofs.Cases.{every, by_cases, by_men}
use Rattle.laws.proofs.ManSets.{OnBoard, men_shown, of_kind, of_colour, colours_lt}
use Rattle.attacks.proofs.Meets.{own}
use Rattle.men.proofs.Having.{men_of_is}
use Rattle.pins.proofs.OneKing.{slide_law}
use Rattle.incremental.proofs.Searched.{xor_from, knights_at, pawns_at, slider_check, slider_pin, near_at, checkers_at, pins_at}

-- a loop over two lists
each_append : {A : Type 0} (f : A → ℕ → A) (x : A) (l r : List ℕ) → for_each f x (l ++ r) ≡ for_each f (for_each f x l) r
unfolding for_each
each_append f x [] r = refl
each_append f x (k ∷ l) r = each_append f (f x k) l r

-- the loop over the attackers S, on a board b with x and y found
module _ (b : Board) (S q x y : ℕ) where
  abbrev among : ℕ → ℕ
  among a = bit_and (between_of a q) b.combined

  abbrev check : ℕ → ℕ
  check a = cond (has S a and eqb (among a) 0) (only a) 0

  abbrev pin : ℕ → ℕ
  pin a = cond (has S a and not (eqb (among a) 0) and eqb (size (among a)) 1) (among a) 0

  -- one square
  turn : (u v : ℕ) (a : ℕ) (t : Bool)
      → for_each (slider_found q) (found_stored b u v) (cond t (a ∷ []) [])
      ≡ found_stored b (bit_xor u (cond (t and eqb (among a) 0) (only a) 0)) (bit_xor v (cond (t and not (eqb (among a) 0) and eqb (size (among a)) 1) (among a) 0))
  unfolding for_each slider_found found_stored ◌and◌
  turn u v a false = ap₂ (found_stored b) (sym (xor_zero_r u)) (sym (xor_zero_r v))
  turn u v a true = go (eqb (among a) 0) (eqb (size (among a)) 1)
    where
      go : (s t : Bool) → cond s (found_stored b (bit_xor u (only a)) v) (cond t (found_stored b u (bit_xor v (among a))) (found_stored b u v))
          ≡ found_stored b (bit_xor u (cond s (only a) 0)) (bit_xor v (cond (not s and t) (among a) 0))
      go true t = ap (found_stored b (bit_xor u (only a))) (sym (xor_zero_r v))
      go false true = ap (λ (z : ℕ). found_stored b z (bit_xor v (among a))) (sym (xor_zero_r u))
      go false false = ap₂ (found_stored b) (sym (xor_zero_r u)) (sym (xor_zero_r v))

  loop : (n : ℕ) → for_each (slider_found q) (found_stored b x y) (list_to n (has S)) ≡ found_stored b (xor_from x n check) (xor_from y n pin)
  unfolding for_each list_to xor_from
  loop zero = refl
  loop (suc n) =
      each_append (slider_found q) (found_stored b x y) (list_to n (has S)) (cond (has S n) (n ∷ []) [])
      ∙ ap (λ (z : Board). for_each (slider_found q) z (cond (has S n) (n ∷ []) [])) (loop n)
      ∙ turn (xor_from x n check) (xor_from y n pin) n (has S n)

-- the sets of the men m
module _ (m : Men) (on : OnBoard m) where
  shown : men_at (kind_sets m) (color_sets m) ≡ m
  shown = men_shown m on

  clean : Clean (kind_sets m) (color_sets m)
  clean = record { kinds = ap kind_sets (sym shown); colours = ap color_sets (sym shown) }

  men_in : (k : Piece) (c : Color) → bit_and (kind_set (kind_sets m) k) (color_set (color_sets m) c) ≡ men_of m c k
  men_in k c = men_of_is (kind_sets m) (color_sets m) clean c k ∙ ap (λ (n : Men). men_of n c k) shown

  near_in : (f : ℕ → Bool) (k : Piece) (c : Color) → bit_and (set_of f) (bit_and (kind_set (kind_sets m) k) (color_set (color_sets m) c)) ≡ set_of (λ a. f a and same_man (m a) (man c k))
  unfolding men_of
  near_in f k c = ap (bit_and (set_of f)) (men_in k c) ∙ and_set_of f (λ a. same_man (m a) (man c k))

-- sliders: the rays met with the kinds
abbrev ray_law : Man → (d s : Bool) → Bool
ray_law x d s = agree ((d and (is_kind Bishop x or is_kind Queen x)) or (s and (is_kind Rook x or is_kind Queen x))) (own x false false d s false)

ray_law_lem : (x : Man) (d s : Bool) → ((d and (is_kind Bishop x or is_kind Queen x)) or (s and (is_kind Rook x or is_kind Queen x))) ≡ own x false false d s false
unfolding ◌and◌ ◌or◌
ray_law_lem x d s = agree_eq _ _ (by_cases 2 (ray_law x) (by_men (λ y. every 2 (ray_law y)) refl x) d s)

module _ (m : Men) (d : Color) (q : ℕ) (here : q < 64) where
  abbrev kinds : Piece → ℕ
  kinds k = kind_set (kind_sets m) k

  attackers_is : bit_and (color_set (color_sets m) d) (bit_or (bit_and (bishop_rays q) (bit_or (kinds Bishop) (kinds Queen))) (bit_and (rook_rays q) (bit_or (kinds Rook) (kinds Queen)))) ≡ snipers_of m d q
  unfolding snipers_of
  attackers_is = is_up_to 64 _ (λ a. is_of d (m a) and slides (m a) a q) (lt_of_le_of_lt (and_le_l (color_set (color_sets m) d) _) (colours_lt m d)) at
    where
      part : (f : ℕ → ℕ → Bool) (k : Piece) (a : ℕ) → a < 64 → f q a ≡ f a q → has (bit_and (set_of (f q)) (bit_or (kinds k) (kinds Queen))) a ≡ (f a q and (is_kind k (m a) or is_kind Queen (m a)))
      part f k a l e =
          has_and (set_of (f q)) (bit_or (kinds k) (kinds Queen)) a
          ∙ ap₂ ◌and◌ (has_set_of (f q) a l ∙ e) (has_or (kinds k) (kinds Queen) a ∙ ap₂ ◌or◌ (of_kind m a l k) (of_kind m a l Queen))

      at : (a : ℕ) → a < 64
          → has (bit_and (color_set (color_sets m) d) (bit_or (bit_and (bishop_rays q) (bit_or (kinds Bishop) (kinds Queen))) (bit_and (rook_rays q) (bit_or (kinds Rook) (kinds Queen))))) a
          ≡ (is_of d (m a) and slides (m a) a q)
      at a l =
          has_and (color_set (color_sets m) d) _ a
          ∙ ap₂ ◌and◌ (of_colour m a l d)
          (has_or (bit_and (bishop_rays q) (bit_or (kinds Bishop) (kinds Queen))) _ a
          ∙ ap₂ ◌or◌ (part diagonal Bishop a l (diagonal_sym q a here l)) (part straight Rook a l (straight_sym q a here l)) ∙ ray_law_lem (m a) (diagonal a q) (straight a q))
          ∙ slide_law d (m a) a q

-- the statements, on the board of the position e with nothing found yet
module _ (e : Pos) (on : OnBoard e.men) (k : Piece) (r : ChessRetraction) where
  abbrev m : Men
  m = e.men

  abbrev c : Color
  c = e.turn

  knights_is : (q : ℕ) → knights_found (found_stored (board_of e) 0 0) k r (opp c) q ≡ found_stored (board_of e) (cond (asks_knights k r) (set_of (knights_at m c q)) 0) 0
  unfolding knights_found found_stored
  knights_is q = go (asks_knights k r)
    where
      go : (t : Bool) → cond t (checkers_xor (found_stored (board_of e) 0 0) (bit_and (knight_moves q) (side_men (board_of e) Knight (opp c)))) (found_stored (board_of e) 0 0)
          ≡ found_stored (board_of e) (cond t (set_of (knights_at m c q)) 0) 0
      go true = ap (λ (z : ℕ). found_stored (board_of e) z 0) (xor_zero_l _ ∙ near_in m on (knight_step q) Knight (opp c))
      go false = refl

  pawns_is : (u q : ℕ) → pawns_found (found_stored (board_of e) u 0) k r c (opp c) q ≡ found_stored (board_of e) (bit_xor u (cond (asks_pawns k r) (set_of (pawns_at m c q)) 0)) 0
  unfolding pawns_found found_stored
  pawns_is u q = go (asks_pawns k r)
    where
      go : (t : Bool) → cond t (checkers_xor (found_stored (board_of e) u 0) (bit_and (pawn_attacks c q) (side_men (board_of e) Pawn (opp c)))) (found_stored (board_of e) u 0)
          ≡ found_stored (board_of e) (bit_xor u (cond t (set_of (pawns_at m c q)) 0)) 0
      go true = ap (λ (z : ℕ). found_stored (board_of e) (bit_xor u z) 0) (near_in m on (pawn_takes c q) Pawn (opp c))
      go false = ap (λ (z : ℕ). found_stored (board_of e) z 0) (sym (xor_zero_r u))

  sliders_is : (u q : ℕ) → q < 64 → sliders_found (found_stored (board_of e) u 0) (opp c) q ≡ found_stored (board_of e) (xor_from u 64 (slider_check m c q)) (xor_from 0 64 (slider_pin m c q))
  unfolding sliders_found sliding_attackers found_stored members
  sliders_is u q l =
      ap (λ (s : ℕ). for_each (slider_found q) (found_stored (board_of e) u 0) (list_to 64 (has s))) (attackers_is m (opp c) q l)
      ∙ loop (board_of e) (snipers_of m (opp c) q) q u 0 64

  king_is : king_square (found_stored (board_of e) 0 0) c ≡ first_of (men_of m c King)
  unfolding found_stored
  king_is = ap first_of (men_in m on King c)

  pub found_is : rust_found (found_stored (board_of e) 0 0) k r c (opp c)
      ≡ found_stored (board_of e) (checkers_at m c (asks_knights k r) (asks_pawns k r) (first_of (men_of m c King))) (pins_at m c (first_of (men_of m c King)))
  unfolding rust_found checkers_at near_at pins_at
  found_is =
      ap (λ (q : ℕ). sliders_found (pawns_found (knights_found (found_stored (board_of e) 0 0) k r (opp c) q) k r c (opp c) q) (opp c) q) king_is
      ∙ ap (λ (b : Board). sliders_found (pawns_found b k r c (opp c) king) (opp c) king) (knights_is king)
      ∙ ap (λ (b : Board). sliders_found b (opp c) king) (pawns_is _ king)
      ∙ sliders_is _ king (first_lt (men_of m c King))
    where
      king : ℕ
      king = first_of (men_of m c King)
