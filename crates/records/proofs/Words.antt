-- A text says a position and two counters exactly when it has the form in the request's words.
use mathlib.Core.Path.{◌≡◌, refl, sym, ◌∙◌, ap, subst}
use mathlib.Core.Logic.{◌↔◌}
use mathlib.Core.List.{List, ◌∷◌, ◌++◌, append_assoc}
use Prim.Native.Nat.{ℕ}
use Rattle.laws.specs.declared.Edition.{Edition}
use Rattle.laws.specs.declared.Position.{Position}
use Rattle.position_text.specs.Form.{printed, Says as FourSays}
use Rattle.position_text.proofs.Words.{says_formed as four_formed, says_state, formed_says as four_says, formed_state}
use Rattle.rows.specs.Rows.{decimal_of}
use Rattle.record_fields.specs.Passed.{PassedOver}
use Rattle.record_fields.specs.inner.Pawns.{pawn_state}
use Rattle.record_fields.proofs.Counters.{words_number, number_words}
use Rattle.record_fields.proofs.Pawns.{pawn_known, over_named, named_over}
use Rattle.records.specs.declared.Why.{Why}
use Rattle.records.specs.declared.Record.{Record}
use Rattle.records.specs.Form.{Says}
use Rattle.records.specs.Grammar.{Formed}
use Rattle.records.specs.Entries.{outcome_number, Reads}
use Rattle.records.specs.inner.Answering.{with_state, passed_fields}
use Rattle.records.proofs.Parts.{four_said, parts_said}
use Rattle.records.proofs.RoundTrip.{text_exactly}
use Rattle.std.specs.Prelude.{Result}

-- what says a position and counters has the form
pub says_formed : (ed : Edition) (t : List ℕ) (f : Position) (h n : ℕ) → Says ed f h n t → Formed t
says_formed ed t f h n s =
    let a = printed (passed_fields f) in
    let u = four_said ed f h n t a s refl in
    record {
      fields = a;
      four = four_formed ed a (passed_fields f) u;
      passed = subst PassedOver (sym (says_state ed a (passed_fields f) u)) (over_named f.passant s.state);
      half = decimal_of h;
      full = decimal_of n;
      first = number_words h;
      second = number_words n;
      text = s.text;
    }

-- a position and counters that a text says
pub record Said (ed : Edition) (t : List ℕ) : Type 0 where
  pub position : Position
  pub half : ℕ
  pub full : ℕ
  pub says : Says ed position half full t

-- what has the form says a position and counters
pub formed_says : (ed : Edition) (t : List ℕ) → Formed t → Said ed t
formed_says ed t w =
    let f = (four_says w.fields w.four ed).0 in
    let s = (four_says w.fields w.four ed).1 in
    let o : PassedOver f.passant = subst PassedOver (sym (formed_state w.fields w.four ed)) w.passed in
    let k = pawn_known f.passant (named_over f.passant o) in
    let g : Position = with_state f (pawn_state f.passant) in
    let z : passed_fields g ≡ f = ap (with_state f) k.1 in
    let x = words_number w.half w.first in
    let y = words_number w.full w.second in
    let c : t ≡ (w.fields ++ (32 ∷ w.half)) ++ (32 ∷ w.full) = sym w.text ∙ sym (append_assoc w.fields (32 ∷ w.half) (32 ∷ w.full)) in
    record {
      position = g;
      half = x.value;
      full = y.value;
      says = parts_said ed t w.fields w.half w.full c g x.value y.value k.0 (subst (λ (p : Position). FourSays ed p w.fields) (sym z) s) x.digits y.digits;
    }

-- the reader's 14, in the request's words: exactly where the text has not the form
pub formed_exactly : (ed : Edition) (t : List ℕ) (r : Result Record Why) → Reads ed t r → (outcome_number r ≡ 14) ↔ (Formed t → ⊥)
formed_exactly ed t r a = (
  (λ e w. let d = formed_says ed t w in (text_exactly ed t r a).0 e d.position d.half d.full d.says),
  (λ z. (text_exactly ed t r a).1 (λ f h n s. z (says_formed ed t f h n s))),
)
