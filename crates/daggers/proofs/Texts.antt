-- The board of a text, and the strict list on it, through the contracts of `read` and `strict_into`.
use mathlib.Core.Path.{◌≡◌, refl, sym, ap, ap₂, ◌∙◌, subst}
use mathlib.Core.Bool.{true, not}
use mathlib.Core.List.{List}
use Prim.Native.Nat.{ℕ, ◌+◌, ◌*◌}
use Prim.Native.String.{String}
use native.Mathlib.Omega.{arith}
use borrow.Author.Tests.{eq-eqb}
use Rattle.squares.specs.Squares.{flag, all_to}
use Rattle.laws.specs.declared.ChessRetraction.{ChessRetraction}
use Rattle.laws.specs.declared.Edition.TheVariants.{A}
use Rattle.laws.specs.Acceptance.{accepted}
use Rattle.laws.specs.Strictness.{strict}
use Rattle.laws.specs.StrictLists.{retraction_at, In}
use Rattle.board.specs.declared.RetractableBoard.{RetractableBoard}
use Rattle.board.specs.declared.Boarded.{Boarded}
use Rattle.board.specs.Gate.{pos_on, gate_of, boarded_by}
use Rattle.strict.specs.Demand.{IsStrictList}
use Rattle.laws.specs.declared.Position.{Position}
use Rattle.position_text.specs.Form.{printed, Says}
use Rattle.position_text.specs.inner.Reading.{start_of, run_of, raw_of}
use Rattle.board.specs.Answers.{worked_of}
use Rattle.text.specs.Entries.{Reads}
use Rattle.daggers.specs.Names.{bytes}
use Rattle.daggers.specs.Table.{OnText, StrictOf}
use Rattle.squares.proofs.Testing.{both, failed}
use Rattle.squares.proofs.Every.{all_at}
use Rattle.squares.proofs.Comprehension.{flag_lt}
use Rattle.laws.proofs.StrictMembers.{placed_place, strict_in}
use Rattle.board.proofs.Passing.{gate_judged, gate_by}
use Rattle.position_text.proofs.Inverse.{in_form_lem, says_men_ok}
use Rattle.text.proofs.RoundTrip.{read_said}
use Rattle.strict.proofs.Told.{strict_past}
use Rattle.refusal.specs.Refusals.{Verdict, nothing_refused}

-- what the reader's walk reads, and the board of it
abbrev pub fields_in : String → Position
fields_in t = (raw_of A (run_of start_of (bytes t))).position

abbrev pub board_in : String → RetractableBoard
board_in t = worked_of (fields_in t)

-- a text that the printer gives back, of an accepted position
module _ (t : String) (prints : printed (fields_in t) ≡ bytes t) (lawful : accepted (pos_on (board_in t)) ≡ true) where
  pub says : Says A (fields_in t) (bytes t)
  says = in_form_lem A (bytes t) (raw_of A (run_of start_of (bytes t))) (bytes t) true refl (sym prints) refl refl

  pub gate : gate_of (board_in t) ≡ nothing_refused
  gate =
      gate_by (board_in t)
      (both (both (says_men_ok A (bytes t) (fields_in t) says) lawful)
      (both (both (eq-eqb (board_in t).combined _ refl) (eq-eqb (board_in t).checkers _ refl)) (eq-eqb (board_in t).pinned _ refl)))

  read_is : (b : Boarded) → Reads A (bytes t) b → b ≡ record { verdict = nothing_refused; board = board_in t }
  read_is b h =
      read_said A (bytes t) b (fields_in t) h says
      ∙ ap (λ (v : Verdict). boarded_by v (board_in t)) (gate_judged (board_in t) gate)

  pub on_text : (P : RetractableBoard → Type 0) → P (board_in t) → OnText t P
  unfolding OnText
  on_text P h b r = subst (λ (x : Boarded). (x.verdict ≡ nothing_refused) × P x.board) (sym (read_is b r)) (refl, h)

  strict_of : (P : List ChessRetraction → Type 0) → ((l : List ChessRetraction) → IsStrictList (board_in t) l → P l) → StrictOf t P
  strict_of P g = on_text _ λ s after a x. g x.moves (x.exact gate)

  pub is_strict_lem : (r : ChessRetraction) → strict (pos_on (board_in t)) r ≡ true → StrictOf t (λ l. In r l)
  is_strict_lem r e = strict_of _ λ l z. (z.members r).1 ((strict_past (board_in t) gate r).0 e)

  -- from s to e there are twelve retractions, by the uncaptured man and the mark
  pub not_strict_lem : (s e : ℕ) → all_to 12 (λ j. not (strict (pos_on (board_in t)) (retraction_at (s * 768 + (e * 12 + j))))) ≡ true
      → StrictOf t (λ l. (r : ChessRetraction) → r.source ≡ s → r.target ≡ e → In r l → ⊥)
  not_strict_lem s e none = strict_of _ λ l z r p q a. never r p q ((strict_past (board_in t) gate r).1 ((z.members r).0 a))
    where
      never : (r : ChessRetraction) → r.source ≡ s → r.target ≡ e → strict (pos_on (board_in t)) r ≡ true → ⊥
      never r p q h =
          let j = r.uncaptured * 2 + flag r.unpromotion in
          let i = strict_in (pos_on (board_in t)) r h in
          failed _ (all_at 12 (λ j. not (strict (pos_on (board_in t)) (retraction_at (s * 768 + (e * 12 + j))))) none j (omega (arith, i.uncaptured_in, flag_lt r.unpromotion)))
          (ap (strict (pos_on (board_in t))) (ap₂ (λ (x y : ℕ). retraction_at (x * 768 + (y * 12 + j))) (sym p) (sym q) ∙ placed_place r i) ∙ h)
