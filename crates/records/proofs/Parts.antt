-- A record by its parts: what the four fields and the two counters say.
use mathlib.Core.Path.{◌≡◌, refl, sym, ◌∙◌, ap, ap₂}
use mathlib.Core.List.{List, ◌∷◌, ◌++◌, append_assoc}
use Prim.Native.Nat.{ℕ}
use Rattle.laws.specs.declared.EnPassantFlag.{EnPassantFlag}
use Rattle.laws.specs.declared.EnPassantFlag.TheVariants.{Any, Some, None}
use Rattle.laws.specs.declared.Edition.{Edition}
use Rattle.laws.specs.declared.Position.{Position}
use Rattle.position_text.specs.Form.{printed, StateFits, Says as FourSays}
use Rattle.position_text.proofs.Inverse.{says_one}
use Rattle.rows.specs.Rows.{decimal_of}
use Rattle.record_fields.specs.Passed.{passed_state, StateNamed}
use Rattle.record_fields.specs.inner.Pawns.{pawn_state}
use Rattle.record_fields.proofs.Decimals.{dec_same}
use Rattle.record_fields.proofs.Splits.{Free, free_decimal, cut_one}
use Rattle.record_fields.proofs.Pawns.{pawn_back, passed_low}
use Rattle.records.specs.Form.{Says}
use Rattle.records.specs.inner.Answering.{with_state, passed_fields}

-- the square passed over is one of the board
passed_fits : (e : EnPassantFlag) → StateFits (passed_state e)
passed_fits Any = tt
passed_fits None = tt
passed_fits (Some s) = passed_low s

-- the four fields that a record's position prints
pub four_said : (ed : Edition) (f : Position) (h n : ℕ) (t a : List ℕ) → Says ed f h n t → printed (passed_fields f) ≡ a → FourSays ed (passed_fields f) a
four_said ed f h n t a s e = record { edition = s.edition; clean = s.clean; square = passed_fits f.passant; text = e }

-- a text cut at its last two spaces
module _ (ed : Edition) (t a m b : List ℕ) (cut : t ≡ (a ++ (32 ∷ m)) ++ (32 ∷ b)) where
  pub said_parts : Free m → Free b → (f : Position) (h n : ℕ) → Says ed f h n t → (printed (passed_fields f) ≡ a) × (decimal_of h ≡ m) × (decimal_of n ≡ b)
  said_parts fm fb f h n s =
      let e : (printed (passed_fields f) ++ (32 ∷ decimal_of h)) ++ (32 ∷ decimal_of n) ≡ (a ++ (32 ∷ m)) ++ (32 ∷ b) =
      append_assoc (printed (passed_fields f)) (32 ∷ decimal_of h) (32 ∷ decimal_of n) ∙ s.text ∙ cut in
      let x = cut_one (printed (passed_fields f) ++ (32 ∷ decimal_of h)) (decimal_of n) (a ++ (32 ∷ m)) b (free_decimal n) fb e in
      let y = cut_one (printed (passed_fields f)) (decimal_of h) a m (free_decimal h) fm x.0 in
      (y.0, y.1, x.1)

  pub parts_said : (f : Position) (h n : ℕ) → StateNamed f.passant → FourSays ed (passed_fields f) a → decimal_of h ≡ m → decimal_of n ≡ b → Says ed f h n t
  parts_said f h n k s d e = record {
    edition = s.edition;
    clean = s.clean;
    state = k;
    text = sym (append_assoc (printed (passed_fields f)) (32 ∷ decimal_of h) (32 ∷ decimal_of n))
        ∙ ap₂ (λ (x y : List ℕ). (x ++ (32 ∷ y)) ++ (32 ∷ decimal_of n)) s.text d
        ∙ ap (λ (x : List ℕ). (a ++ (32 ∷ m)) ++ (32 ∷ x)) e ∙ sym cut;
  }

-- positions whose squares passed over are the same
same_passed : (f g : Position) → StateNamed f.passant → StateNamed g.passant → passed_fields f ≡ passed_fields g → f ≡ g
same_passed f g k l e =
    let st : f.passant ≡ g.passant = sym (pawn_back f.passant k) ∙ ap (λ (x : Position). pawn_state x.passant) e ∙ pawn_back g.passant l in
    λ i. with_state (e i) (st i)

-- no text says two things
pub says_same : (ed : Edition) (t : List ℕ) (f g : Position) (h n k l : ℕ) → Says ed f h n t → Says ed g k l t → (f ≡ g) × (h ≡ k) × (n ≡ l)
says_same ed t f g h n k l s u =
    let c : t ≡ (printed (passed_fields g) ++ (32 ∷ decimal_of k)) ++ (32 ∷ decimal_of l) =
    sym (append_assoc (printed (passed_fields g)) (32 ∷ decimal_of k) (32 ∷ decimal_of l) ∙ u.text) in
    let p = said_parts ed t (printed (passed_fields g)) (decimal_of k) (decimal_of l) c (free_decimal k) (free_decimal l) f h n s in
    let q = says_one ed (printed (passed_fields g)) (passed_fields f) (passed_fields g) (four_said ed f h n t _ s p.0) (four_said ed g k l t _ u refl) in
    (same_passed f g s.state u.state q, dec_same h k p.1, dec_same n l p.2)
