-- What the buffer shows: the edition's name, and what is written of a board's record.
use mathlib.Core.Path.{◌≡◌, refl, sym, ◌∙◌, ap, subst}
use mathlib.Core.Bool.{Bool, true, false, cond}
use mathlib.Core.List.{List, [], ◌∷◌, ◌++◌}
use Prim.Native.Nat.{ℕ, ◌≤◌, ◌<◌}
use native.Mathlib.Omega.{arith}
use lib.ListN.{length, length-append}
use borrow.Author.Tests.{le-leb}
use Rattle.laws.specs.declared.Edition.{Edition}
use Rattle.refusal.specs.Said.{first_failing, Said, says, number_said, told, behind}
use Rattle.refusal.proofs.Writing.{no_value, no_room, tells_count}
use Rattle.board.specs.declared.RetractableBoard.{RetractableBoard}
use Rattle.board.specs.Gate.{position_on}
use Rattle.output.specs.Appending.{Adds}
use Rattle.output.proofs.Adding.{adds_then}
use Rattle.rows.proofs.Decimals.{number_short}
use Rattle.record_fields.specs.Passed.{is_known}
use Rattle.records.specs.declared.Why.{Why}
use Rattle.records.specs.declared.Unwritten.{Unwritten}
use Rattle.records.specs.Entries.{why_number, record_on, written_says, WritesRecord}
use Rattle.records.proofs.Writing.{record_length}
use Rattle.records.proofs.Saying.{writes_known}
use Rattle.records.proofs.Giving.{some_why}
use Rattle.reply.specs.Replies.{newline, refused_text, Shows}
use Rattle.reply.proofs.Shown.{shown, written_added}
use Rattle.record_reply.specs.Answers.{edition_text, state_number, record_text}
use Rattle.std.specs.Prelude.{Err, Ok, Result}
use Rattle.records.specs.declared.Unwritten.TheVariants.{Room, Refused}

pub edition_shown : (v w : Edition) → v ≡ w → (o out : List ℕ) (n : ℕ) → length o ≡ 196608 → Adds o 0 (edition_text w) n out → Shows (edition_text v) n o out
edition_shown v w e o out n l a = subst (λ (u : Edition). Shows (edition_text u) n o out) (sym e) (shown o out (edition_text w) n a (omega arith))

-- what the writer told of a board and its counters, and what then went into the buffer
module _ (b : RetractableBoard) (h k : ℕ) (hs : h < 65536) (ks : k < 65536) (o o₁ : List ℕ) (l : length o ≡ 196608) (r : Result ℕ Unwritten)
    (w : WritesRecord [] b.passant (record_on b h k) o (written_says r) o₁) where
  abbrev line : List ℕ
  line = record_on b h k

  short : length line ≤ 123
  short = omega (arith, record_length (position_on b) h k, number_short h (omega arith), number_short k (omega arith))

  -- by whether the state is known, there being room
  abbrev said_of : Bool → Said
  said_of y = cond y (told (length line ∷ [])) (says 16 [])

  said_so : (q : Result ℕ Unwritten) → r ≡ q → written_says q ≡ said_of (is_known b.passant)
  unfolding behind first_failing
  said_so q e = sym (ap written_says e) ∙ w.answer ∙ rw (le-leb (length line) (length o) (omega (arith, short)))

  pub record_shown : (m : ℕ) → r ≡ Ok m → (n : ℕ) (o₂ : List ℕ) → Adds o₁ m newline n o₂ → Shows (record_text (state_number b) b h k) n o o₂
  record_shown m e n o₂ a =
      let v = writes_known m o₁ (subst (λ (q : Result ℕ Unwritten). WritesRecord [] b.passant line o (written_says q) o₁) e w) in
      let c = length-append line newline in
      let two = adds_then o o₁ o₂ line newline 0 m n (omega (arith, short)) (written_added (tells_count v.1 m refl)) a in
      rw v.0 (shown o o₂ (line ++ newline) n two (omega (arith, short)))

  pub never_roomless : (m : ℕ) → r ≡ Err (Room m) → ⊥
  never_roomless m e = go (is_known b.passant) (said_so (Err (Room m)) e)
    where
      go : (y : Bool) → says 13 (m ∷ []) ≡ said_of y → ⊥
      go true d = no_room (sym d)
      go false d = no_value d

  pub record_unknown : (why : Why) → r ≡ Err (Refused why) → (x : ℕ) → x ≡ why_number why → {n : ℕ} {out : List ℕ} → Shows (refused_text x) n o₁ out
      → Shows (record_text (state_number b) b h k) n o out
  record_unknown why e x i {n} {out} s = go (is_known b.passant) refl (said_so (Err (Refused why)) e)
    where
      same : o₁ ≡ o
      same = w.holds ∙ rw (e, some_why why)

      go : (y : Bool) → is_known b.passant ≡ y → says (why_number why) [] ≡ said_of y → Shows (record_text (state_number b) b h k) n o out
      go true f d = no_value (sym d)
      go false f d =
          let j : x ≡ 16 = i ∙ ap number_said d in
          rw f (subst (λ (z : ℕ). Shows (refused_text z) n o out) j (subst (λ (z : List ℕ). Shows (refused_text x) n z out) same s))
