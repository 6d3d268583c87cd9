-- The longer volume, part by part.
use Rattle.std.specs.Prelude.{◌≡◌, Ok, Err, List, ◌++◌, ℕ, ◌+◌, ◌*◌, ◌≤◌, ◌<◌, length, take, drop}
use Rattle.laws.specs.declared.Position.{Position}
use Rattle.refusal.specs.declared.Refusal.{Refusal}
use Rattle.accept.specs.Verdicts.{judged_of}
use Rattle.volume_body.specs.Layout.{bodied}
use Rattle.volume_contents.specs.declared.Flaw.{Flaw}
use Rattle.volume_contents.specs.declared.Why.TheVariants.{Contents, Board, Room}
use Rattle.volume_contents.specs.Refusing.{Written}
use Rattle.volume_contents.specs.Layout.{head_of, row_of}
use Rattle.volume_contents.specs.Contents.{row_at, number_before}
use Rattle.volume_contents.specs.inner.Walks.{edition_of}
use Rattle.volume_make.specs.inner.Filling.{joined}
use Rattle.volume_add.specs.Adding.{number_tested}
use Rattle.refusal.specs.Refusals.{nothing_refused}

-- the row i of a volume of n problems that becomes one longer
abbrev pub carried : List ℕ → ℕ → ℕ → List ℕ
carried v n i = row_of (row_at v i).number (edition_of (row_at v i).edition) (14 + 8 * n + 34 * i)

abbrev pub longer : List ℕ → ℕ → ℕ → Position → List ℕ
longer v n k p = head_of (n + 1) ++ joined (carried v n) n ++ row_of k p.terms.edition (14 + 42 * n) ++ take (34 * n) (drop (6 + 8 * n) v) ++ bodied p

pub data AddsTo (v : List ℕ) (n k : ℕ) (p : Position) (o : List ℕ) (r : Written) (x : List ℕ) : Type 0 where
  misnumbered : (w : Flaw) → number_tested (number_before v n) k ≡ Err w → r ≡ Err (Contents w (n + 1)) → x ≡ o → AddsTo v n k p o r x
  unjudged : (w : Refusal) → number_tested (number_before v n) k ≡ Ok tt → judged_of p ≡ Err w → r ≡ Err (Board w (n + 1)) → x ≡ o → AddsTo v n k p o r x
  narrow : number_tested (number_before v n) k ≡ Ok tt → judged_of p ≡ nothing_refused → length o < 48 + 42 * n → r ≡ Err (Room (48 + 42 * n)) → x ≡ o → AddsTo v n k p o r x
  added : number_tested (number_before v n) k ≡ Ok tt → judged_of p ≡ nothing_refused → 48 + 42 * n ≤ length o → r ≡ Ok (48 + 42 * n)
      → x ≡ longer v n k p ++ drop (48 + 42 * n) o → AddsTo v n k p o r x
