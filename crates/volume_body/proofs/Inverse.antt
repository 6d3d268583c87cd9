-- The reader and the writer of bodies invert each other, and no body is read two ways.
use mathlib.Core.Path.{◌≡◌, refl, sym, ◌∙◌, ap, subst, fun_ext}
use mathlib.Core.Bool.{Bool, true, false, cond}
use mathlib.Core.List.{List, [], ◌∷◌, ◌++◌}
use mathlib.Core.Logic.{⊎_elim}
use Prim.Native.Nat.{ℕ, zero, suc, ◌+◌, ◌*◌, ◌/◌, ◌%◌, ◌≤◌, ◌<◌}
use native.Mathlib.Omega.{arith}
use lib.Dec.{eqb, ltb}
use lib.ListN.{length, get_or, get_or-append}
use lib.Seq.{get_or_at, get_or-append-add}
use borrow.Author.Tests.{ltb-true, ltb-false, le-ltb, eqb-true, eqb-false}
use Rattle.squares.specs.Tests.{◌and◌}
use Rattle.geometry.specs.declared.Color.{Color}
use Rattle.geometry.specs.declared.Color.TheVariants.{White, Black}
use Rattle.laws.specs.declared.CastleRights.{CastleRights}
use Rattle.laws.specs.declared.CastleRights.TheVariants.{NoRights, KingSide, QueenSide, Both}
use Rattle.laws.specs.declared.EnPassantFlag.{EnPassantFlag}
use Rattle.laws.specs.declared.EnPassantFlag.TheVariants.{Any, Some, None}
use Rattle.laws.specs.declared.Edition.{Edition}
use Rattle.laws.specs.declared.Position.{Position}
use Rattle.laws.specs.Men.{Man, empty, Men, man_number, color_place}
use Rattle.laws.specs.Positions.{terms_of}
use Rattle.laws.specs.Boards.{men_in, Clean, kind_sets, color_sets}
use Rattle.men_field.specs.inner.Letters.{place_of, man_by_number, men_by_numbers}
use Rattle.position.specs.inner.Edits.{color_by}
use Rattle.position_text.specs.declared.Form.{Form}
use Rattle.position_text.specs.declared.Form.TheVariants.{InForm, OutOfForm}
use Rattle.position_text.specs.declared.Raw.{Raw}
use Rattle.position_text.specs.Form.{StateFits}
use Rattle.position_text.specs.inner.Copies.{SameAs}
use Rattle.position_text.specs.inner.Reading.{side_of, flag_of, no_raw}
use Rattle.volume_body.specs.Layout.{square_at, number_at, pair_at, men_bytes, side_number, head_byte, state_byte, body_of, bodied, Embodies, AnswersBy, Answers}
use Rattle.volume_body.specs.inner.Reading.{half_of, half_at, NumbersOf, men_by, read_of}
use Rattle.squares.proofs.Testing.{order}
use Rattle.laws.proofs.Cases.{by_men}
use Rattle.laws.proofs.ManSets.{OnBoard, men_on}
use Rattle.men_field.proofs.Belonging.{man_back}
use Rattle.position_text.proofs.Bytes.{same_true, same_false}
use Rattle.position_text.proofs.Inverse.{read_clean, read_square}
use Rattle.position_text.proofs.Walks.{flag_back}
use Rattle.volume_body.proofs.Writing.{pairs_length, body_length}

-- squares and places in the order of a text are turned into each other by one formula
pub place_lt : (k : ℕ) → k < 64 → place_of k < 64
unfolding place_of
place_lt k h = omega arith

pub square_lt : (p : ℕ) → p < 64 → square_at p < 64
unfolding square_at
square_lt p h = omega arith

pub square_place : (k : ℕ) → k < 64 → square_at (place_of k) ≡ k
unfolding square_at place_of
square_place k h = omega arith

pub place_square : (p : ℕ) → p < 64 → place_of (square_at p) ≡ p
unfolding square_at place_of
place_square p h = omega arith

number_lt : (x : Man) → man_number x < 14
unfolding ◌and◌
number_lt x = ltb-true _ _ (by_men (λ y. ltb (man_number y) 14) refl x)

-- the bytes of a body
pairs_at : (m : Men) (n j : ℕ) → j < n → get_or (men_bytes m n) j 0 ≡ pair_at m j
unfolding men_bytes
pairs_at m zero j h = absurd (omega arith)
pairs_at m (suc n) j h = ⊎_elim (λ k. before k (pairs_at m n j k)) last (order j n)
  where
    before : j < n → get_or (men_bytes m n) j 0 ≡ pair_at m j → get_or (men_bytes m n ++ (pair_at m n ∷ [])) j 0 ≡ pair_at m j
    before k e = get_or-append (men_bytes m n) (pair_at m n ∷ []) 0 j (omega (arith, pairs_length m n)) ∙ e

    last : n ≤ j → get_or (men_bytes m n ++ (pair_at m n ∷ [])) j 0 ≡ pair_at m j
    last k =
        let e : n ≡ j = omega arith in
        get_or_at (men_bytes m n) (pair_at m n) [] 0 j (pairs_length m n ∙ e) ∙ ap (pair_at m) e

module _ (m : Men) (c : Color) (w b : CastleRights) (e : EnPassantFlag) where
  pub men_at : (j : ℕ) → j < 32 → get_or (body_of m c w b e) j 0 ≡ pair_at m j
  unfolding body_of
  men_at j h = get_or-append (men_bytes m 32) (head_byte c w b ∷ state_byte e ∷ []) 0 j (omega (arith, pairs_length m 32)) ∙ pairs_at m 32 j h

  pub head_at : get_or (body_of m c w b e) 32 0 ≡ head_byte c w b
  unfolding body_of
  head_at = get_or_at (men_bytes m 32) (head_byte c w b) (state_byte e ∷ []) 0 32 (pairs_length m 32)

  pub state_at : get_or (body_of m c w b e) 33 0 ≡ state_byte e
  unfolding body_of
  state_at =
      let z : 33 ≡ length (men_bytes m 32) + 1 = omega (arith, pairs_length m 32) in
      ap (λ (i : ℕ). get_or (men_bytes m 32 ++ (head_byte c w b ∷ state_byte e ∷ [])) i 0) z
      ∙ get_or-append-add (men_bytes m 32) (head_byte c w b ∷ state_byte e ∷ []) 1 0

-- the halves of a pair
pub pair_high : (m : Men) (j : ℕ) → pair_at m j / 16 ≡ number_at m (2 * j)
unfolding pair_at
pair_high m j = omega (arith, number_lt (m (square_at (2 * j + 1))))

pub pair_low : (m : Men) (j : ℕ) → pair_at m j % 16 ≡ number_at m (2 * j + 1)
unfolding pair_at
pair_low m j = omega (arith, number_lt (m (square_at (2 * j + 1))))

half_back : (m : Men) (p : ℕ) → half_of (pair_at m (p / 2)) p ≡ number_at m p
unfolding half_of
half_back m p = go (eqb (p % 2) 0) refl
  where
    go : (x : Bool) → eqb (p % 2) 0 ≡ x → cond x (pair_at m (p / 2) / 16) (pair_at m (p / 2) % 16) ≡ number_at m p
    go true e =
        let z = eqb-true (p % 2) 0 e in
        let q : 2 * (p / 2) ≡ p = omega arith in
        pair_high m (p / 2) ∙ ap (number_at m) q
    go false e =
        let z = eqb-false (p % 2) 0 e in
        let q : 2 * (p / 2) + 1 ≡ p = omega arith in
        pair_low m (p / 2) ∙ ap (number_at m) q

-- the men come back
men_back : (m : Men) (c : Color) (w b : CastleRights) (e : EnPassantFlag) → OnBoard m → men_by (body_of m c w b e) ≡ m
unfolding men_by
men_back m c w b e on = fun_ext λ k. go k (ltb k 64) refl
  where
    there : (k : ℕ) → k < 64 → half_at (body_of m c w b e) (place_of k) ≡ man_number (m k)
    there k h =
        let l = place_lt k h in
        ap (λ (x : ℕ). half_of x (place_of k)) (men_at m c w b e (place_of k / 2) (omega arith))
        ∙ half_back m (place_of k)
        ∙ ap (λ (i : ℕ). man_number (m i)) (square_place k h)

    go : (k : ℕ) (t : Bool) → ltb k 64 ≡ t → cond t (man_by_number (half_at (body_of m c w b e) (place_of k))) empty ≡ m k
    go k true q = ap man_by_number (there k (ltb-true k 64 q)) ∙ man_back (m k)
    go k false q = sym (on k (ltb-false k 64 q))

-- the turn and the rights come back
pub side_lt : (s : CastleRights) → side_number s ≤ 3
side_lt NoRights = omega arith
side_lt KingSide = omega arith
side_lt QueenSide = omega arith
side_lt Both = omega arith

side_back : (s : CastleRights) → side_of (side_number s) ≡ s
side_back NoRights = refl
side_back KingSide = refl
side_back QueenSide = refl
side_back Both = refl

pub color_lt : (c : Color) → color_place c ≤ 1
color_lt White = omega arith
color_lt Black = omega arith

color_back : (c : Color) → color_by (color_place c) ≡ c
color_back White = refl
color_back Black = refl

module _ (c : Color) (w b : CastleRights) where
  turn_back : color_by (head_byte c w b) ≡ c
  turn_back =
      let q : head_byte c w b % 2 ≡ color_place c % 2 = omega (arith, color_lt c) in
      ap (λ (n : ℕ). cond (eqb n 0) White Black) q ∙ color_back c

  white_back : side_of (head_byte c w b / 2 % 4) ≡ w
  white_back =
      let q : head_byte c w b / 2 % 4 ≡ side_number w = omega (arith, color_lt c, side_lt w, side_lt b) in
      ap side_of q ∙ side_back w

  black_back : side_of (head_byte c w b / 8 % 4) ≡ b
  black_back =
      let q : head_byte c w b / 8 % 4 ≡ side_number b = omega (arith, color_lt c, side_lt w, side_lt b) in
      ap side_of q ∙ side_back b

state_back : (e : EnPassantFlag) → StateFits e → flag_of (state_byte e) ≡ e
state_back Any h = flag_back Any h
state_back None h = flag_back None h
state_back (Some s) h = flag_back (Some s) h

abbrev read_as : Edition → List ℕ → Position
read_as v t = (read_of v t).position

-- the body of a position is read as that position
pub read_body : (v : Edition) (p : Position) → p.terms ≡ terms_of v → Clean p.pieces p.colors → StateFits p.passant → (read_of v (bodied p)).position ≡ p
read_body v p e c h =
    let m = men_in p in
    let k = men_back m p.turn p.white p.black p.passant (men_on p.pieces p.colors) in
    let x = head_at m p.turn p.white p.black p.passant in
    λ i. record {
      pieces = (ap kind_sets k ∙ sym c.kinds) i;
      colors = (ap color_sets k ∙ sym c.colours) i;
      turn = (ap color_by x ∙ turn_back p.turn p.white p.black) i;
      white = (ap (λ (n : ℕ). side_of (n / 2 % 4)) x ∙ white_back p.turn p.white p.black) i;
      black = (ap (λ (n : ℕ). side_of (n / 8 % 4)) x ∙ black_back p.turn p.white p.black) i;
      passant = (ap flag_of (state_at m p.turn p.white p.black p.passant) ∙ state_back p.passant h) i;
      terms = sym e i;
    }

-- what bytes are the body of is what they are read as
pub embodies_read : (v : Edition) (t : List ℕ) (p : Position) → Embodies v p t → p ≡ (read_of v t).position
embodies_read v t p s = sym (read_body v p s.edition s.clean s.square) ∙ ap (read_as v) s.bytes

-- no body says two things
pub embodies_one : (v : Edition) (t : List ℕ) (p q : Position) → Embodies v p t → Embodies v q t → p ≡ q
embodies_one v t p q a b = embodies_read v t p a ∙ sym (embodies_read v t q b)

-- a body has 34 bytes
pub embodies_length : (v : Edition) (t : List ℕ) (p : Position) → Embodies v p t → length t ≡ 34
embodies_length v t p s = sym (ap length s.bytes) ∙ body_length (men_in p) p.turn p.white p.black p.passant

-- whatever is read stands on the board
pub men_by_on : (t : List ℕ) → OnBoard (men_by t)
unfolding men_by
men_by_on t k h = rw (le-ltb k 64 h)

-- the 64 numbers are the men
pub numbers_men : (t l : List ℕ) → NumbersOf t l → men_by_numbers l ≡ men_by t
unfolding men_by_numbers men_by
numbers_men t l n = fun_ext λ k. go k (ltb k 64) refl
  where
    go : (k : ℕ) (x : Bool) → ltb k 64 ≡ x → cond x (man_by_number (get_or l (place_of k) 0)) empty ≡ cond x (man_by_number (half_at t (place_of k))) empty
    go k true e = ap man_by_number (n (place_of k) (place_lt k (ltb-true k 64 e)))
    go k false e = refl

-- what the reader answers: r is what was read, l its body, b whether that is t
module _ (v : Edition) (t : List ℕ) (r : Raw) (l : List ℕ) (b : Bool) (e : r ≡ read_of v t) (p : l ≡ bodied r.position) (h : SameAs l t b) where
  pub in_form_lem : b ≡ true → Answers v t r
  in_form_lem q =
      let s : Embodies v r.position t =
      record {
        edition = ap (λ (x : Raw). x.position.terms) e;
        clean = subst (λ (x : Raw). Clean x.position.pieces x.position.colors) (sym e) (read_clean (men_by t) (men_by_on t));
        square = subst (λ (x : Raw). StateFits x.position.passant) (sym e) (read_square (get_or t 33 0));
        bytes = sym p ∙ same_true l t b q h;
      } in
      subst (λ (z : Form). AnswersBy v t r.position z) (sym (ap (λ (x : Raw). x.form) e)) s

  pub out_of_form : b ≡ false → (g : Position) → Embodies v g t → ⊥
  out_of_form q g s =
      let z : r.position ≡ g = ap (λ (x : Raw). x.position) e ∙ sym (embodies_read v t g s) in
      same_false l t b q h (p ∙ ap bodied z ∙ s.bytes)

pub no_answer : (v : Edition) (t : List ℕ) (r : Raw) → r ≡ no_raw → ((g : Position) → Embodies v g t → ⊥) → Answers v t r
no_answer v t r e n = subst (λ (x : Raw). Answers v t x) (sym e) (refl, n)

-- bytes of another length are no body
pub no_length : (v : Edition) (t : List ℕ) → (length t ≡ 34 → ⊥) → (g : Position) → Embodies v g t → ⊥
no_length v t f g s = f (embodies_length v t g s)

-- any two answers that the contract allows are the same
pub one_answer : (v : Edition) (t : List ℕ) (a b : Raw) → Answers v t a → Answers v t b → a ≡ b
one_answer v t a b p q =
    let z = go a.form b.form p q in λ i. record { form = z.1 i; position = z.0 i }
  where
    go : (x y : Form) → AnswersBy v t a.position x → AnswersBy v t b.position y → (a.position ≡ b.position) × (x ≡ y)
    go InForm InForm f g = (embodies_one v t a.position b.position f g, refl)
    go InForm OutOfForm f g = absurd (g.1 a.position f)
    go OutOfForm InForm f g = absurd (f.1 b.position g)
    go OutOfForm OutOfForm f g = (f.0 ∙ sym g.0, refl)
