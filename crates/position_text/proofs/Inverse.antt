-- The reader and the printer invert each other, and no text is read two ways.
use mathlib.Core.Path.{◌≡◌, refl, sym, ◌∙◌, ap, ap₂, subst}
use mathlib.Core.Bool.{Bool, true, false, cond}
use mathlib.Core.List.{List}
use Prim.Native.Nat.{ℕ, ◌%◌, ◌≤◌}
use native.Mathlib.Omega.{arith}
use lib.Dec.{eqb}
use lib.ListN.{length}
use Rattle.laws.specs.declared.EnPassantFlag.TheVariants.{Any, Some, None}
use Rattle.laws.specs.declared.Edition.{Edition}
use Rattle.laws.specs.Men.{Men}
use Rattle.laws.specs.Positions.{terms_of}
use Rattle.laws.specs.Boards.{men_in, Clean, men_ok, kind_sets, color_sets}
use Rattle.men_field.specs.inner.Letters.{men_by_numbers}
use Rattle.position_text.specs.declared.Scan.{Scan}
use Rattle.position_text.specs.declared.Form.{Form}
use Rattle.position_text.specs.declared.Form.TheVariants.{InForm, OutOfForm}
use Rattle.position_text.specs.declared.Raw.{Raw}
use Rattle.position_text.specs.Form.{StateFits, printed, Says, AnswersBy, Answers}
use Rattle.laws.specs.declared.Position.{Position}
use Rattle.position_text.specs.inner.Copies.{SameAs}
use Rattle.position_text.specs.inner.Reading.{start_of, run_of, flag_of, raw_of, no_raw}
use Rattle.laws.proofs.ManSets.{men_shown, men_on, men_ok_lem}
use Rattle.men_field.proofs.Belonging.{men_of_on}
use Rattle.position_text.proofs.Tails.{print_short}
use Rattle.position_text.proofs.Bytes.{same_true, same_false}
use Rattle.position_text.proofs.Walks.{men_back, turn_back, rights_back, flag_back, read_text}
use Rattle.laws.proofs.ManSets as sets

abbrev read_as : Edition → List ℕ → Position
read_as v t = (raw_of v (run_of start_of t)).position

-- the walk over the text of some fields reads those fields
read_print : (v : Edition) (f : Position) → f.terms ≡ terms_of v → Clean f.pieces f.colors → StateFits f.passant → read_as v (printed f) ≡ f
read_print v f e c h =
    let m = men_in f in
    let r = rights_back f.white f.black in
    let b = men_back (men_in f) (men_on f.pieces f.colors) in
    ap (λ (s : Scan). (raw_of v s).position) (read_text m f.turn f.white f.black f.passant h)
    ∙ (λ i. record {
      pieces = (ap kind_sets b ∙ sym c.kinds) i;
      colors = (ap color_sets b ∙ sym c.colours) i;
      turn = turn_back f.turn i;
      white = r.0 i;
      black = r.1 i;
      passant = flag_back f.passant h i;
      terms = sym e i;
    })

-- no text says two things
pub says_one : (v : Edition) (t : List ℕ) (f g : Position) → Says v f t → Says v g t → f ≡ g
says_one v t f g p q =
    sym (read_print v f p.edition p.clean p.square) ∙ ap (read_as v) (p.text ∙ sym q.text) ∙ read_print v g q.edition q.clean q.square

-- whatever is read is clean, and names a square of the board
pub read_clean : (m : Men) → sets.OnBoard m → Clean (kind_sets m) (color_sets m)
read_clean m on = record { kinds = ap kind_sets (sym (men_shown m on)); colours = ap color_sets (sym (men_shown m on)) }

pub read_square : (n : ℕ) → StateFits (flag_of n)
read_square n = go (eqb n 64) (eqb n 65)
  where
    go : (x y : Bool) → StateFits (cond x None (cond y Any (Some (n % 64))))
    go true y = tt
    go false true = tt
    go false false = omega arith

-- what the reader answers: r is what the walk read, l its text, b whether that is t
module _ (v : Edition) (t : List ℕ) (r : Raw) (l : List ℕ) (b : Bool) (e : r ≡ raw_of v (run_of start_of t)) (p : l ≡ printed r.position) (h : SameAs l t b) where
  pub in_form_lem : b ≡ true → Answers v t r
  in_form_lem q =
      let s : Says v r.position t =
      record {
        edition = ap (λ (x : Raw). x.position.terms) e;
        clean = subst (λ (x : Raw). Clean x.position.pieces x.position.colors) (sym e) (read_clean (men_by_numbers (run_of start_of t).men) (men_of_on (run_of start_of t).men));
        square = subst (λ (x : Raw). StateFits x.position.passant) (sym e) (read_square (run_of start_of t).square);
        text = sym p ∙ same_true l t b q h;
      } in
      subst (λ (z : Form). AnswersBy v t r.position z) (sym (ap (λ (x : Raw). x.form) e)) s

  pub out_of_form : b ≡ false → (g : Position) → Says v g t → ⊥
  out_of_form q g s =
      let z : r.position ≡ g = ap (λ (x : Raw). x.position) e ∙ ap (read_as v) (sym s.text) ∙ read_print v g s.edition s.clean s.square in
      same_false l t b q h (p ∙ ap printed z ∙ s.text)

pub no_answer : (v : Edition) (t : List ℕ) (r : Raw) → r ≡ no_raw → ((g : Position) → Says v g t → ⊥) → Answers v t r
no_answer v t r e n = subst (λ (x : Raw). Answers v t x) (sym e) (refl, n)

-- any two answers that the contract allows are the same
pub one_answer : (v : Edition) (t : List ℕ) (a b : Raw) → Answers v t a → Answers v t b → a ≡ b
one_answer v t a b p q =
    let z = go a.form b.form p q in λ i. record { form = z.1 i; position = z.0 i }
  where
    go : (x y : Form) → AnswersBy v t a.position x → AnswersBy v t b.position y → (a.position ≡ b.position) × (x ≡ y)
    go InForm InForm f g = (says_one v t a.position b.position f g, refl)
    go InForm OutOfForm f g = absurd (g.1 a.position f)
    go OutOfForm InForm f g = absurd (f.1 b.position g)
    go OutOfForm OutOfForm f g = (f.0 ∙ sym g.0, refl)

abbrev in_form : Position → Raw
in_form f = record { form = InForm; position = f }

-- read after print gives the fields back
pub read_printed : (v : Edition) (f : Position) → f.terms ≡ terms_of v → Clean f.pieces f.colors → StateFits f.passant → (r : Raw) → Answers v (printed f) r → r ≡ in_form f
read_printed v f e c h r a = one_answer v (printed f) r (in_form f) a (record { edition = e; clean = c; square = h; text = refl })

-- print after read gives the bytes
pub printed_read : (v : Edition) (t : List ℕ) (r : Raw) → Answers v t r → r.form ≡ InForm → printed r.position ≡ t
printed_read v t r a e = (subst (λ (z : Form). AnswersBy v t r.position z) e a).text

-- "At most 81 bytes"
pub says_short : (v : Edition) (t : List ℕ) (f : Position) → Says v f t → length t ≤ 81
says_short v t f s = subst (λ (x : List ℕ). length x ≤ 81) s.text (print_short (men_in f) f.turn f.white f.black f.passant)

-- a text in form never meets refusal 1
pub says_men_ok : (v : Edition) (t : List ℕ) (f : Position) → Says v f t → men_ok f.pieces f.colors ≡ true
says_men_ok v t f s =
    ap₂ men_ok s.clean.kinds s.clean.colours ∙ men_ok_lem (men_in f)
