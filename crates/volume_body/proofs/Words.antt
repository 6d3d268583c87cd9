-- 18 in words: bytes are a body exactly when the tests pass.
use mathlib.Core.Path.{◌≡◌, refl, sym, ◌∙◌, ap, ap₂, subst}
use mathlib.Core.Bool.{true}
use mathlib.Core.List.{List}
use mathlib.Core.Logic.{⊎_elim}
use Prim.Native.Nat.{ℕ, ◌+◌, ◌*◌, ◌/◌, ◌%◌, ◌≤◌, ◌<◌}
use native.Mathlib.Omega.{arith}
use lib.Dec.{eqb}
use lib.ListN.{length, get_or}
use lib.Seq.{ext_get_or}
use borrow.Author.Tests.{eqb-true, leb-true, eq-eqb, le-leb, lt-ltb, ne_eqb}
use Rattle.squares.specs.Tests.{◌and◌, ◌or◌}
use Rattle.squares.specs.Squares.{all_to}
use Rattle.laws.specs.declared.EnPassantFlag.{EnPassantFlag}
use Rattle.laws.specs.declared.EnPassantFlag.TheVariants.{Any, Some, None}
use Rattle.laws.specs.declared.Edition.{Edition}
use Rattle.laws.specs.declared.Position.{Position}
use Rattle.laws.specs.Men.{Man, Men, man_number}
use Rattle.laws.specs.Boards.{men_in}
use Rattle.men_field.specs.inner.Letters.{man_by_number}
use Rattle.position.specs.inner.Edits.{color_by}
use Rattle.position_text.specs.Form.{StateFits}
use Rattle.position_text.specs.inner.Reading.{side_of, flag_of}
use Rattle.volume_body.specs.Layout.{square_at, number_at, pair_at, head_byte, state_byte, body_of, Embodies}
use Rattle.volume_body.specs.Words.{half_ok, body_ok}
use Rattle.volume_body.specs.inner.Reading.{half_of, half_at, men_by, read_of}
use Rattle.squares.proofs.Testing.{both, left, right, order}
use Rattle.squares.proofs.Every.{all_at, all_of}
use Rattle.laws.proofs.Cases.{by_men, implies, given}
use Rattle.laws.proofs.ManSets.{men_shown}
use Rattle.position_text.proofs.Inverse.{read_clean, read_square}
use Rattle.volume_body.proofs.Writing.{body_length}
use Rattle.volume_body.proofs.Inverse.{square_lt, place_square, pair_high, pair_low, men_at, head_at, state_at, men_by_on, embodies_length, side_lt, color_lt}

-- a man's number comes back, and so do a head and a state
number_back : (n : ℕ) → n < 16 → half_ok n ≡ true → man_number (man_by_number n) ≡ n
unfolding half_ok man_by_number all_to ◌and◌ ◌or◌
number_back n h m = eqb-true _ _ (given (half_ok n) _ (all_at 16 (λ k. implies (half_ok k) (eqb (man_number (man_by_number k)) k)) refl n h) m)

head_back : (h : ℕ) → h < 32 → head_byte (color_by h) (side_of (h / 2 % 4)) (side_of (h / 8 % 4)) ≡ h
unfolding all_to ◌and◌
head_back h l = eqb-true _ _ (all_at 32 (λ k. eqb (head_byte (color_by k) (side_of (k / 2 % 4)) (side_of (k / 8 % 4))) k) refl h l)

state_back : (n : ℕ) → n < 66 → state_byte (flag_of n) ≡ n
unfolding all_to ◌and◌
state_back n l = eqb-true _ _ (all_at 66 (λ k. eqb (state_byte (flag_of k)) k) refl n l)

-- the number of the man that is read at a place
number_is : (t : List ℕ) (p n : ℕ) → p < 64 → half_at t p ≡ n → n < 16 → half_ok n ≡ true → number_at (men_by t) p ≡ n
unfolding men_by
number_is t p n h e l m = rw (lt-ltb (square_at p) 64 (square_lt p h), place_square p h, e) (number_back n l m)

-- the halves at two places
half_high : (t : List ℕ) (j : ℕ) → half_at t (2 * j) ≡ get_or t j 0 / 16
unfolding half_of
half_high t j =
    let a : 2 * j / 2 ≡ j = omega arith in
    rw (eq-eqb (2 * j % 2) 0 (omega arith), a)

half_low : (t : List ℕ) (j : ℕ) → half_at t (2 * j + 1) ≡ get_or t j 0 % 16
unfolding half_of
half_low t j =
    let a : (2 * j + 1) / 2 ≡ j = omega arith in
    rw (ne_eqb ((2 * j + 1) % 2) 0 (λ e. omega arith), a)

-- the body that is written of the men m and what was read beside them
abbrev again : Men → List ℕ → List ℕ
again m t = body_of m (color_by (get_or t 32 0)) (side_of (get_or t 32 0 / 2 % 4)) (side_of (get_or t 32 0 / 8 % 4)) (flag_of (get_or t 33 0))

module _ (t : List ℕ) (bytes : (i : ℕ) → get_or t i 0 < 256) (ok : body_ok t ≡ true) where
  sized : length t ≡ 34
  unfolding body_ok
  sized = eqb-true _ _ (left _ _ (left _ _ (left _ _ ok)))

  men_ok_lem : (j : ℕ) → j < 32 → (half_ok (get_or t j 0 / 16) and half_ok (get_or t j 0 % 16)) ≡ true
  unfolding body_ok
  men_ok_lem j h = all_at 32 (λ i. half_ok (get_or t i 0 / 16) and half_ok (get_or t i 0 % 16)) (right _ _ (left _ _ (left _ _ ok))) j h

  head_low : get_or t 32 0 < 32
  unfolding body_ok
  head_low = let h = right _ _ (left _ _ ok) in omega (arith, leb-true)

  state_low : get_or t 33 0 < 66
  unfolding body_ok
  state_low = let h = right _ _ ok in omega (arith, leb-true)

  pair_is : (j : ℕ) → j < 32 → pair_at (men_by t) j ≡ get_or t j 0
  unfolding pair_at
  pair_is j h =
      let a = number_is t (2 * j) (get_or t j 0 / 16) (omega arith) (half_high t j) (omega (arith, bytes j)) (left _ _ (men_ok_lem j h)) in
      let b = number_is t (2 * j + 1) (get_or t j 0 % 16) (omega arith) (half_low t j) (omega arith) (right _ _ (men_ok_lem j h)) in
      ap₂ (λ (x y : ℕ). 16 * x + y) a b ∙ omega arith

  same_byte : (i : ℕ) → i < 34 → get_or (again (men_by t) t) i 0 ≡ get_or t i 0
  same_byte i h = ⊎_elim men (λ k. ⊎_elim (λ l. head (omega arith)) (λ l. state (omega arith)) (order i 33)) (order i 32)
    where
      men : i < 32 → get_or (again (men_by t) t) i 0 ≡ get_or t i 0
      men l = men_at (men_by t) _ _ _ _ i l ∙ pair_is i l

      head : 32 ≡ i → get_or (again (men_by t) t) i 0 ≡ get_or t i 0
      head e = subst (λ (j : ℕ). get_or (again (men_by t) t) j 0 ≡ get_or t j 0) e (head_at (men_by t) _ _ _ _ ∙ head_back (get_or t 32 0) head_low)

      state : 33 ≡ i → get_or (again (men_by t) t) i 0 ≡ get_or t i 0
      state e = subst (λ (j : ℕ). get_or (again (men_by t) t) j 0 ≡ get_or t j 0) e (state_at (men_by t) _ _ _ _ ∙ state_back (get_or t 33 0) state_low)

  same_bytes : again (men_by t) t ≡ t
  same_bytes =
      let l : length (again (men_by t) t) ≡ 34 = body_length (men_by t) _ _ _ _ in
      ext_get_or 0 (again (men_by t) t) t (l ∙ sym sized) (λ i h. same_byte i (omega arith))

  -- tests that pass: the bytes are the body of what they are read as
  pub words_board : (v : Edition) → Embodies v (read_of v t).position t
  words_board v =
      record {
        edition = refl;
        clean = read_clean (men_by t) (men_by_on t);
        square = read_square (get_or t 33 0);
        bytes = ap (λ (m : Men). again m t) (men_shown (men_by t) (men_by_on t)) ∙ same_bytes;
      }

man_ok : (x : Man) → half_ok (man_number x) ≡ true
unfolding half_ok ◌and◌ ◌or◌
man_ok x = by_men (λ y. half_ok (man_number y)) refl x

state_small : (e : EnPassantFlag) → StateFits e → state_byte e ≤ 65
state_small Any h = omega arith
state_small (Some s) h = omega arith
state_small None h = omega arith

-- the body of a position: the tests pass
pub board_words : (v : Edition) (t : List ℕ) (p : Position) → Embodies v p t → body_ok t ≡ true
unfolding body_ok
board_words v t p e =
    let m = men_in p in
    let h : get_or t 32 0 ≡ head_byte p.turn p.white p.black = at 32 ∙ head_at m p.turn p.white p.black p.passant in
    let s : get_or t 33 0 ≡ state_byte p.passant = at 33 ∙ state_at m p.turn p.white p.black p.passant in
    both (both (both (eq-eqb _ _ (embodies_length v t p e)) (all_of 32 (λ j. half_ok (get_or t j 0 / 16) and half_ok (get_or t j 0 % 16)) men))
    (le-leb (get_or t 32 0) 31 (omega (arith, color_lt p.turn, side_lt p.white, side_lt p.black))))
    (le-leb (get_or t 33 0) 65 (omega (arith, state_small p.passant e.square)))
  where
    at : (i : ℕ) → get_or t i 0 ≡ get_or (body_of (men_in p) p.turn p.white p.black p.passant) i 0
    at i = ap (λ (l : List ℕ). get_or l i 0) (sym e.bytes)

    men : (j : ℕ) → j < 32 → (half_ok (get_or t j 0 / 16) and half_ok (get_or t j 0 % 16)) ≡ true
    men j k =
        let m = men_in p in
        let q = at j ∙ men_at m p.turn p.white p.black p.passant j k in
        both (ap (λ (b : ℕ). half_ok (b / 16)) q ∙ ap half_ok (pair_high m j) ∙ man_ok (m (square_at (2 * j))))
        (ap (λ (b : ℕ). half_ok (b % 16)) q ∙ ap half_ok (pair_low m j) ∙ man_ok (m (square_at (2 * j + 1))))
