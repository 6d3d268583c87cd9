-- The screen shows the whole list of a board, each retraction by its number, and then the end; `strict` is said exactly of what has a past.
use mathlib.Core.Path.{◌≡◌, refl, sym, ap, ap₂, ◌∙◌, subst}
use mathlib.Core.Logic.{◌↔◌}
use mathlib.Core.Bool.{Bool, true, false, false≢true}
use mathlib.Core.List.{List, [], ◌∷◌, map}
use Prim.Native.Nat.{ℕ}
use lib.Dec.{eqb}
use lib.ListN.{length, take, drop}
use lib.Seq.{take-append_seam}
use borrow.Author.Tests.{eqb-true, eq-eqb}
use Rattle.squares.specs.Tests.{◌or◌}
use Rattle.laws.specs.declared.ChessRetraction.{ChessRetraction}
use Rattle.laws.specs.Retractions.{packed, unpacked, InRange}
use Rattle.laws.specs.Strictness.{strict}
use Rattle.laws.specs.StrictLists.{In, here, there}
use Rattle.board.specs.declared.RetractableBoard.{RetractableBoard}
use Rattle.board.specs.Gate.{pos_on, gate_of}
use Rattle.retraction_gen.specs.declared.RetractionGen.{RetractionGen}
use Rattle.retraction_gen.specs.declared.Stepped.{Stepped}
use Rattle.retraction_gen.specs.Making.{list_tests, cursor_on, Makes}
use Rattle.retraction_gen.specs.Sequence.{sequence_on, Yields}
use Rattle.strict.specs.Demand.{Past, IsStrictList}
use Rattle.rows.specs.Rows.{is_in}
use Rattle.reply.specs.Replies.{Shows}
use Rattle.laws.proofs.Packing.{unpacked_packed}
use Rattle.laws.proofs.StrictMembers.{strict_in}
use Rattle.retraction_gen.proofs.Stepping.{next_one, steps_one}
use Rattle.retraction_gen.proofs.Whole.{whole_sequence}
use Rattle.strict.proofs.Told.{strict_past}
use Rattle.reply.proofs.Spoken.{shows_one}
use Rattle.stepping.proofs.Pressing.{still_ended}
use Rattle.screen.specs.declared.Screen.{Screen}
use Rattle.screen.specs.declared.Pressed.{Pressed}
use Rattle.screen.specs.Screens.{end_text, press_text, screen_after, Shown, ShowsAll, shown_of}
use Rattle.refusal.specs.Refusals.{nothing_refused}
use Rattle.std.specs.Prelude.{None, Option, Some, Ok}

-- any two answers agree
pub shown_one : {s : Screen} {slots o x y : List ℕ} {r q : Pressed} → Shown s slots r o x → Shown s slots q o y → (r ≡ q) × (x ≡ y)
shown_one {s} {slots} {o} {x} {y} {r} {q} a b =
    let e = steps_one s.cursor a.next b.next a.steps b.steps in
    let n : a.next.next ≡ b.next.next = ap (λ (p : Stepped). p.next) e in
    let c = shows_one (ap (press_text s slots) n) a.shown.shows b.shown.shows in
    let f : r.next ≡ q.next = a.shown.yielded ∙ n ∙ sym b.shown.yielded in
    let g : r.screen ≡ q.screen =
    a.shown.moved ∙ ap (λ (p : Stepped). screen_after s slots p.next p.cursor) e ∙ sym b.shown.moved in
    (λ i. record { screen = g i; next = f i; size = c.0 i }, c.1)

-- the slots of a list hold a retraction's number exactly when the list holds it
module _ (r : ChessRetraction) (h : InRange r) where
  in_slots : (l : List ChessRetraction) → In r l → is_in (packed r) (map packed l) ≡ true
  unfolding is_in ◌or◌
  in_slots l (here {l = k}) = rw (eq-eqb (packed r) (packed r) refl)
  in_slots l (there {y = q} {l = k} z) = by (eqb (packed q) (packed r)) (in_slots k z)
    where
      by : (t : Bool) → is_in (packed r) (map packed k) ≡ true → (t or is_in (packed r) (map packed k)) ≡ true
      by true e = refl
      by false e = e

  from_slots : (l : List ChessRetraction) → ((q : ChessRetraction) → In q l → InRange q) → is_in (packed r) (map packed l) ≡ true → In r l
  unfolding is_in ◌or◌
  from_slots [] f e = absurd (false≢true e)
  from_slots (q ∷ l) f e = by (eqb (packed q) (packed r)) refl (λ k. from_slots l (λ x z. f x (there z)) k) e
    where
      by : (t : Bool) → eqb (packed q) (packed r) ≡ t → (is_in (packed r) (map packed l) ≡ true → In r l) → (t or is_in (packed r) (map packed l)) ≡ true
          → In r (q ∷ l)
      by true d g e =
          let same : q ≡ r = sym (unpacked_packed q (f q here)) ∙ ap unpacked (eqb-true (packed q) (packed r) d) ∙ unpacked_packed r h in
          subst (λ (x : ChessRetraction). In r (x ∷ l)) (sym same) here
      by false d g e = there (g e)

-- `strict` is said of a retraction exactly when it has a past
pub strict_said : (b : RetractableBoard) (moves : List ChessRetraction) → gate_of b ≡ nothing_refused → IsStrictList b moves → (r : ChessRetraction) → InRange r
    → (is_in (packed r) (map packed moves) ≡ true) ↔ Past b r
strict_said b moves g k r h = (
  (λ e. (k.members r).0 (from_slots r h moves (λ q z. strict_in (pos_on b) q ((strict_past b g q).1 ((k.members q).0 z))) e)),
  (λ p. in_slots r h moves ((k.members r).1 p)),
)

-- what a press shows stands in the first bytes
shown_bytes : {t o out : List ℕ} {n : ℕ} → Shows t n o out → take n out ≡ t
shown_bytes {t} {o} {out} {n} k = ap₂ take k.size k.holds ∙ take-append_seam t (drop (length t) o)

-- presses of a screen whose cursor yields a list
shows_list : (s : Screen) (slots : List ℕ) (ts : List (List ℕ)) (l : List ChessRetraction) → Yields s.cursor l → ShowsAll s slots ts
    → ts ≡ shown_of s.board slots (length ts) s.listed s.strict l
unfolding ShowsAll shown_of Yields
shows_list s slots [] l y k = refl
shows_list s slots (t ∷ ts) [] y (r, o, out, p, e, k) =
    let d : p.next.next ≡ None = next_one p.next.next None (p.steps.answer ∙ y) in
    let m : r.screen ≡ screen_after s slots None p.next.cursor = p.shown.moved ∙ ap (λ (a : Option ChessRetraction). screen_after s slots a p.next.cursor) d in
    let f : t ≡ end_text s.listed s.strict (length slots) = sym e ∙ shown_bytes p.shown.shows ∙ ap (press_text s slots) d in
    ap₂ (λ (x : List ℕ) (xs : List (List ℕ)). x ∷ xs) f
    (shows_list (screen_after s slots None p.next.cursor) slots ts [] (still_ended s.cursor p.next.cursor y p.steps.cursor).0
    (subst (λ (x : Screen). ShowsAll x slots ts) m k))
shows_list s slots (t ∷ ts) (q ∷ l) y (r, o, out, p, e, k) =
    let d : p.next.next ≡ Some q = next_one p.next.next (Some q) (p.steps.answer ∙ y.0) in
    let m : r.screen ≡ screen_after s slots (Some q) p.next.cursor = p.shown.moved ∙ ap (λ (a : Option ChessRetraction). screen_after s slots a p.next.cursor) d in
    let f : t ≡ press_text s slots (Some q) = sym e ∙ shown_bytes p.shown.shows ∙ ap (press_text s slots) d in
    ap₂ (λ (x : List ℕ) (xs : List (List ℕ)). x ∷ xs) f
    (shows_list (screen_after s slots (Some q) p.next.cursor) slots ts l (subst (λ (g : RetractionGen). Yields g l) (sym p.steps.cursor) y.1)
    (subst (λ (x : Screen). ShowsAll x slots ts) m k))

-- from `new_legal`, whatever it answers: n presses show the board's sequence, numbered from 1, and then the end
pub whole_shown : (b : RetractableBoard) (g : RetractionGen) → Makes (list_tests b) (cursor_on b) (Ok g) → (slots : List ℕ) (ts : List (List ℕ))
    → ShowsAll (record { board = b; cursor = g; listed = 0; strict = 0 }) slots ts → ts ≡ shown_of b slots (length ts) 0 0 (sequence_on b)
whole_shown b g made slots ts k =
    shows_list (record { board = b; cursor = g; listed = 0; strict = 0 }) slots ts (sequence_on b) (whole_sequence b g made) k
