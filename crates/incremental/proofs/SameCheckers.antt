-- The checkers that the Rust finds are the Laws'.
use mathlib.Core.Path.{◌≡◌, refl, sym, ap, ap₂, ◌∙◌, subst}
use mathlib.Core.Bool.{Bool, true, false, not, cond, true≢false, not-not}
use Prim.Native.Nat.{ℕ, ◌<◌, ◌^◌}
use lib.Dec.{eqb}
use lib.Bits.{bit_xor, xor_lt}
use lib.Pow.{pow_pos}
use borrow.Author.Tests.{eqb-true, eq-eqb}
use Rattle.squares.specs.Tests.{◌and◌, ◌or◌}
use Rattle.squares.specs.Squares.{has, set_of, only, some_square}
use Rattle.geometry.specs.declared.Color.{Color}
use Rattle.geometry.specs.declared.Color.TheVariants.{White, Black}
use Rattle.geometry.specs.Colors.{opp}
use Rattle.geometry.specs.Lines.{between, straight, diagonal, clear, free}
use Rattle.geometry.specs.Steps.{knight_step, king_step, pawn_takes}
use Rattle.laws.specs.declared.Piece.{Piece}
use Rattle.laws.specs.declared.Piece.TheVariants.{Pawn, Knight, Rook, King}
use Rattle.laws.specs.declared.ChessRetraction.{ChessRetraction}
use Rattle.laws.specs.Men.{Man, man, Men, numbered, is_of, is_empty, is_kind, same_man, bare}
use Rattle.laws.specs.Attacks.{union_of, attacks, attacked, attacks_from, checks, slides, checkers_of}
use Rattle.laws.specs.Positions.{Pos, retractor}
use Rattle.laws.specs.Acceptance.{quiet, accepted}
use Rattle.laws.specs.declared.Way.{Way}
use Rattle.laws.specs.Unmaking.{way_back, unmade}
use Rattle.pins.specs.inner.Kings.{TheKing, snipers_of}
use Rattle.incremental.specs.Moved.{is_piece, is_passant_uncapture}
use Rattle.incremental.specs.Found.{asks_knights, asks_pawns}
use Rattle.incremental.proofs.Searched.{xor_from, knights_at, pawns_at, mid, slider_check, near_at, checkers_at}
use Rattle.squares.proofs.Testing.{both, left, right, failed, bool_ext, agree, agree_eq}
use Rattle.squares.proofs.Digits.{differs, has_xor, has_zero}
use Rattle.squares.proofs.Comprehension.{is_up_to, has_set_of, up_to_lt}
use Rattle.squares.proofs.Every.{all_at, all_cong, any_of, any_at, any_cong}
use Rattle.geometry.proofs.Turned.{knight_sym, pawn_turned}
use Rattle.tables.proofs.Paths.{clear_is}
use Rattle.laws.proofs.Cases.{implies, given, every, every_man, by_cases, by_colors, by_men}
use Rattle.laws.proofs.Mans.{opp_opp, same, same_self, own_colour, is_passant}
use Rattle.laws.proofs.Facts.{accepts}
use Rattle.laws.proofs.Retracting.{mover, can_retract, back}
use Rattle.attacks.proofs.Meets.{own, own_law}
use Rattle.pins.proofs.OneKing.{any_king, slide_law}
use Rattle.incremental.proofs.Stood.{stood, other, no_king, unnumbered, not_king, no_rook, no_man}
use Rattle.incremental.proofs.Xor.{xor_fits, has_xor_from}

-- sliders: a member of the sum is a sniper with a clear path
module _ (m : Men) (c : Color) (q : ℕ) where
  check_lt : (a : ℕ) → slider_check m c q a < 2 ^ 64
  check_lt a = go (has (snipers_of m (opp c) q) a and eqb (mid m q a) 0)
    where
      go : (t : Bool) → cond t (only a) 0 < 2 ^ 64
      go true = up_to_lt 64 (λ j. eqb j a)
      go false = pow_pos 64

  has_check : (a k : ℕ) → k < 64 → has (slider_check m c q a) k ≡ ((has (snipers_of m (opp c) q) a and eqb (mid m q a) 0) and eqb k a)
  unfolding ◌and◌
  has_check a k l = go (has (snipers_of m (opp c) q) a and eqb (mid m q a) 0)
    where
      go : (t : Bool) → has (cond t (only a) 0) k ≡ (t and eqb k a)
      go true = has_set_of (λ j. eqb j a) k l
      go false = has_zero k

  at_own : (f : ℕ → Bool) (k : ℕ) → k < 64 → some_square (λ a. f a and eqb k a) ≡ f k
  at_own f k l = bool_ext (some_square (λ a. f a and eqb k a)) (f k) to (λ e. any_of 64 (λ a. f a and eqb k a) k l (both e (eq-eqb k k refl)))
    where
      to : some_square (λ a. f a and eqb k a) ≡ true → f k ≡ true
      to e = let w = any_at 64 (λ a. f a and eqb k a) e in subst (λ (j : ℕ). f j ≡ true) (sym (eqb-true k w.0 (right _ _ w.2))) (left _ _ w.2)

  pub has_slider : (x k : ℕ) → k < 64 → has (xor_from x 64 (slider_check m c q)) k ≡ differs (has x k) (has (snipers_of m (opp c) q) k and eqb (mid m q k) 0)
  has_slider x k l =
      has_xor_from x 64 (slider_check m c q) k (λ a b ha hb p r. sym (of a p) ∙ of b r)
      ∙ ap (differs (has x k))
      (any_cong 64 (λ a. has (slider_check m c q a) k) (λ a. (has (snipers_of m (opp c) q) a and eqb (mid m q a) 0) and eqb k a) (λ a la. has_check a k l)
      ∙ at_own (λ a. has (snipers_of m (opp c) q) a and eqb (mid m q a) 0) k l)
    where
      of : (a : ℕ) → has (slider_check m c q a) k ≡ true → k ≡ a
      of a p = eqb-true k a (right _ _ (sym (has_check a k l) ∙ p))

  clear_mid : (a : ℕ) → eqb (mid m q a) 0 ≡ clear (bare m) a q
  unfolding clear
  clear_mid a =
      clear_is (union_of m) a q
      ∙ all_cong 64 (λ k. not (between a q k) or free (union_of m) k) (λ k. not (between a q k) or bare m k)
      (λ k l. ap (λ (t : Bool). not (between a q k) or t) (ap not (has_set_of (λ j. not (is_empty (m j))) k l) ∙ not-not (is_empty (m k))))

-- one square, by the man x that stands there: the tests n p d s k of the kinds, l that the path is clear, and what the Rust asks
abbrev rust_check : Color → Man → (ask_n ask_p n p d s l : Bool) → Bool
rust_check c x ask_n ask_p n p d s l =
    differs (differs (cond ask_n (n and same_man x (man (opp c) Knight)) false) (cond ask_p (p and same_man x (man (opp c) Pawn)) false))
    ((is_of (opp c) x and own x false false d s false) and l)

abbrev true_check : Color → Man → (n p d s l k : Bool) → Bool
true_check c x n p d s l k = is_of (opp c) x and not (same_man x (man (opp c) King)) and own x p n (d and l) (s and l) k

-- nothing is asked only where nothing is to be found
abbrev spared : Color → Man → (ask_n ask_p n p : Bool) → Bool
spared c x ask_n ask_p n p = (not (same_man x (man (opp c) Knight)) or ask_n or not n) and (not (same_man x (man (opp c) Pawn)) or ask_p or not p)

abbrev check_law : Color → Man → (ask_n ask_p n p d s l k : Bool) → Bool
check_law c x ask_n ask_p n p d s l k = implies (spared c x ask_n ask_p n p) (agree (rust_check c x ask_n ask_p n p d s l) (true_check c x n p d s l k))

check_law_lem : (c : Color) (x : Man) (ask_n ask_p n p d s l k : Bool) → check_law c x ask_n ask_p n p d s l k ≡ true
unfolding ◌and◌ ◌or◌
check_law_lem c x = by_cases 8 (check_law c x) (by_men (λ y. every 8 (check_law c y)) (by_colors (λ e. every_man (λ y. every 8 (check_law e y))) refl c) x)

-- what is not asked is not there: the side to move did not attack the retractor's king before
or_not : (a b n : Bool) → (a ≡ true → b ≡ false → n ≡ true → ⊥) → (not a or b or not n) ≡ true
unfolding ◌or◌
or_not true true n h = refl
or_not true false true h = absurd (h refl refl refl)
or_not true false false h = refl
or_not false b n h = refl

neither : (a b : Bool) → (a or b) ≡ false → (a ≡ false) × (b ≡ false)
unfolding ◌or◌
neither true b e = absurd (true≢false e)
neither false b e = (refl, e)

calm : (m : Men) (d : Color) (k : Piece) (a q : ℕ) → quiet m d ≡ true → a < 64 → q < 64 → m q ≡ man (opp d) King → m a ≡ man d k → attacks m (man d k) a q ≡ true → ⊥
calm m d k a q h la lq eq ea at =
    failed (same_man (m q) (man (opp d) King) and attacked m d q) (all_at 64 (λ j. not (same_man (m j) (man (opp d) King) and attacked m d j)) h q lq)
    (both (same_self (m q) (man (opp d) King) eq)
    (any_of 64 (attacks_from m d q) a la
    (both (ap (is_of d) ea ∙ own_colour d k) (ap (λ (x : Man). attacks m x a q) ea ∙ at))))

-- k is the kind on the source
module _ (p : Pos) (r : ChessRetraction) (ok : accepted p ≡ true) (can : can_retract p r ≡ true) (k : Piece) (on_source : p.men r.source ≡ man (retractor p) k)
    (by_passant : is_passant_uncapture k r ≡ is_passant (way_back (retractor p) p r)) (q : ℕ) (the : TheKing (unmade p r).men (retractor p) q) where
  abbrev c : Color
  c = retractor p

  abbrev m : Men
  m = (unmade p r).men

  abbrev w : Way
  w = way_back c p r

  of_turn : opp c ≡ p.turn
  of_turn = opp_opp p.turn

  king_stood : is_kind King (p.men r.source) ≡ false → p.men q ≡ man c King
  king_stood e =
      stood w c r.target r.source (mover p r) (numbered (opp c) r.uncaptured) (man c King) p.men q
      (not_king r.unpromotion c (p.men r.source) e) (no_king c r.uncaptured) (λ h. other' c) (no_rook c) (no_man c King)
      (same (m q) (man c King) (the.only q the.here ∙ eq-eqb q q refl))
    where
      other' : (c : Color) → same_man (man (opp c) Pawn) (man c King) ≡ false
      other' White = refl
      other' Black = refl

  -- a man of the kind k that the retraction did not bring
  man_stood : (k : Piece) (a : ℕ) → same_man (numbered (opp c) r.uncaptured) (man (opp c) k) ≡ false → (is_passant w ≡ true → same_man (man (opp c) Pawn) (man (opp c) k) ≡ false)
      → m a ≡ man (opp c) k → p.men a ≡ man (opp c) k
  man_stood k a hy hp e =
      stood w c r.target r.source (mover p r) (numbered (opp c) r.uncaptured) (man (opp c) k) p.men a
      (other c (mover p r) k (back p r can).mine) hy hp (other c (man c Rook) k (own_colour c Rook)) (no_man (opp c) k) e

  unharmed : (k : Piece) (a : ℕ) → a < 64 → is_kind King (p.men r.source) ≡ false → p.men a ≡ man (opp c) k → attacks p.men (man (opp c) k) a q ≡ true → ⊥
  unharmed k a la ek ea at =
      calm p.men (opp c) k a q (subst (λ (d : Color). quiet p.men d ≡ true) (sym of_turn) (accepts p ok).calm) la the.here
      (king_stood ek ∙ ap (λ (d : Color). man d King) (sym (opp_opp c))) ea at

  no_king_there : is_piece King k ≡ false → is_kind King (p.men r.source) ≡ false
  no_king_there e = ap (is_kind King) on_source ∙ e

  spares : (a : ℕ) → a < 64 → spared c (m a) (asks_knights k r) (asks_pawns k r) (knight_step a q) (pawn_takes (opp c) a q) ≡ true
  unfolding asks_knights asks_pawns
  spares a la = both (or_not _ _ _ knights) (or_not _ _ _ pawns)
    where
      knights : same_man (m a) (man (opp c) Knight) ≡ true → asks_knights k r ≡ false → knight_step a q ≡ true → ⊥
      knights e f at =
          let n = neither (is_piece King k) (eqb r.uncaptured 2) f in
          unharmed Knight a la (no_king_there n.0) (man_stood Knight a (unnumbered (opp c) r.uncaptured Knight refl n.1) (λ h. unlike (opp c)) (same _ _ e)) at
        where
          unlike : (c : Color) → same_man (man c Pawn) (man c Knight) ≡ false
          unlike White = refl
          unlike Black = refl

      pawns : same_man (m a) (man (opp c) Pawn) ≡ true → asks_pawns k r ≡ false → pawn_takes (opp c) a q ≡ true → ⊥
      pawns e f at =
          let n = neither (is_piece King k or eqb r.uncaptured 1) (is_passant_uncapture k r) f in
          let l = neither (is_piece King k) (eqb r.uncaptured 1) n.0 in
          unharmed Pawn a la (no_king_there l.0) (man_stood Pawn a (unnumbered (opp c) r.uncaptured Pawn refl l.1) (λ h. absurd (true≢false (sym h ∙ sym by_passant ∙ n.1))) (same _ _ e)) at

  -- one square
  asked : (b : Bool) (f : ℕ → Bool) (a : ℕ) (t : Bool) → a < 64 → f a ≡ t → has (cond b (set_of f) 0) a ≡ cond b t false
  asked true f a t l e = has_set_of f a l ∙ e
  asked false f a t l e = has_zero a

  rust_at : (a : ℕ) → a < 64
      → has (checkers_at m c (asks_knights k r) (asks_pawns k r) q) a
      ≡ rust_check c (m a) (asks_knights k r) (asks_pawns k r) (knight_step a q) (pawn_takes (opp c) a q) (diagonal a q) (straight a q) (clear (bare m) a q)
  unfolding checkers_at near_at snipers_of
  rust_at a l =
      has_slider m c q (bit_xor N P) a l
      ∙ ap₂ differs (has_xor N P a ∙ ap₂ differs (asked (asks_knights k r) (knights_at m c q) a _ l kn) (asked (asks_pawns k r) (pawns_at m c q) a _ l pw)) sl
    where
      N : ℕ
      N = cond (asks_knights k r) (set_of (knights_at m c q)) 0

      P : ℕ
      P = cond (asks_pawns k r) (set_of (pawns_at m c q)) 0

      kn : knights_at m c q a ≡ (knight_step a q and same_man (m a) (man (opp c) Knight))
      kn = ap (λ (t : Bool). t and same_man (m a) (man (opp c) Knight)) (knight_sym q a the.here l)

      pw : pawns_at m c q a ≡ (pawn_takes (opp c) a q and same_man (m a) (man (opp c) Pawn))
      pw = ap (λ (t : Bool). t and same_man (m a) (man (opp c) Pawn)) (pawn_turned c q a the.here l)

      sl : (has (snipers_of m (opp c) q) a and eqb (mid m q a) 0) ≡ ((is_of (opp c) (m a) and own (m a) false false (diagonal a q) (straight a q) false) and clear (bare m) a q)
      sl = ap₂ ◌and◌ (has_set_of (λ j. is_of (opp c) (m j) and slides (m j) j q) a l ∙ sym (slide_law (opp c) (m a) a q)) (clear_mid m c q a)

  within : (i k t u : Bool) → (i and t) ≡ (i and u) → ((i and k) and t) ≡ ((i and k) and u)
  unfolding ◌and◌
  within true true t u e = e
  within true false t u e = refl
  within false k t u e = refl

  laws_at : (a : ℕ) → a < 64
      → true_check c (m a) (knight_step a q) (pawn_takes (opp c) a q) (diagonal a q) (straight a q) (clear (bare m) a q) (king_step a q) ≡ checks m c a
  laws_at a l =
      within (is_of (opp c) (m a)) (not (same_man (m a) (man (opp c) King))) _ _ (own_law m (opp c) (m a) a q)
      ∙ ap (λ (t : Bool). (is_of (opp c) (m a) and not (same_man (m a) (man (opp c) King))) and t) (sym (any_king m c q (attacks m (m a) a) the))

  pub checkers_same : checkers_at m c (asks_knights k r) (asks_pawns k r) q ≡ checkers_of (unmade p r).men (retractor p)
  unfolding checkers_at near_at
  checkers_same = is_up_to 64 (checkers_at m c (asks_knights k r) (asks_pawns k r) q) (checks m c) fits at
    where
      none_lt : (b : Bool) (f : ℕ → Bool) → cond b (set_of f) 0 < 2 ^ 64
      none_lt true f = up_to_lt 64 f
      none_lt false f = pow_pos 64

      fits : checkers_at m c (asks_knights k r) (asks_pawns k r) q < 2 ^ 64
      fits = xor_fits _ 64 (slider_check m c q) (xor_lt 64 _ _ (none_lt (asks_knights k r) (knights_at m c q)) (none_lt (asks_pawns k r) (pawns_at m c q))) (check_lt m c q)

      at : (a : ℕ) → a < 64 → has (checkers_at m c (asks_knights k r) (asks_pawns k r) q) a ≡ checks m c a
      at a l = rust_at a l ∙ agree_eq _ _ (given (spared c (m a) (asks_knights k r) (asks_pawns k r) (knight_step a q) (pawn_takes (opp c) a q)) _ (check_law_lem c (m a) (asks_knights k r) (asks_pawns k r) (knight_step a q) (pawn_takes (opp c) a q) (diagonal a q) (straight a q) (clear (bare m) a q) (king_step a q)) (spares a l)) ∙ laws_at a l
