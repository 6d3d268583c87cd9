-- Any two answers that the contract allows are the same.
use mathlib.Core.Path.{◌≡◌}
use mathlib.Core.Bool.{Bool, true, false}
use mathlib.Core.List.{List, ◌++◌}
use Prim.Native.Nat.{ℕ, ◌+◌}
use lib.Dec.{ltb}
use lib.ListN.{length, drop}
use borrow.Author.Tests.{lt-ltb, le-ltb}
use Rattle.laws.specs.declared.Position.{Position}
use Rattle.accept.specs.Verdicts.{judged_of}
use Rattle.volume_contents.specs.declared.Why.{Why}
use Rattle.volume_contents.specs.declared.Why.TheVariants.{Contents, Board, Room}
use Rattle.volume_contents.specs.Refusing.{Written}
use Rattle.std.specs.Prelude.{Ok, Err}
use Rattle.volume_contents.specs.Contents.{Tested, number_before}
use Rattle.volume_make.proofs.Unique.{Answer, Is, is_one}
use Rattle.volume_read.specs.Reading.{Judged, Whole}
use Rattle.volume_read.proofs.Unique.{judged_one, judged_whole, whole_one}
use Rattle.volume_add.specs.Adding.{number_tested, with, Adds, spoilt, misnumbered, unjudged, narrow, added}
use Rattle.refusal.specs.Refusals.{Verdict}

-- a volume is refused, or has boards
data Parts (v : List ℕ) : Type 0 where
  bad : (why : Why) → Judged false v why → Parts v
  good : (n : ℕ) (ps : List Position) → Whole false v n ps → Parts v

-- how is the number, what is the verdict on the board, is there too little room
abbrev answer_by : ℕ → List ℕ → List ℕ → Tested → Verdict → Bool → Answer
answer_by n o l (Err w) j b = (Err (Contents w (n + 1)), o)
answer_by n o l (Ok _) (Err w) b = (Err (Board w (n + 1)), o)
answer_by n o l (Ok _) (Ok _) true = (Err (Room (length l)), o)
answer_by n o l (Ok _) (Ok _) false = (Ok (length l), l ++ drop (length l) o)

module _ (v : List ℕ) (k : ℕ) (p : Position) (o : List ℕ) where
  added_answer : ℕ → List Position → Answer
  added_answer n ps = answer_by n o (with v ps k p) (number_tested (number_before v n) k) (judged_of p) (ltb (length o) (length (with v ps k p)))

  abbrev answer : Parts v → Answer
  answer (bad why j) = (Err why, o)
  answer (good n ps w) = added_answer n ps

  parts : (r : Written) (x : List ℕ) → Adds v k p o r x → (q : Parts v) × Is r x (answer q)
  unfolding added_answer
  parts r x (spoilt why j e d) = (bad why j, (e, d))
  parts r x (misnumbered n ps f w t e d) = (good n ps w, rw t (e, d))
  parts r x (unjudged n ps f w t j e d) = (good n ps w, rw (t, j) (e, d))
  parts r x (narrow n ps w t j h e d) = (good n ps w, rw (t, j, lt-ltb _ _ h) (e, d))
  parts r x (added n ps w t j h e d) = (good n ps w, rw (t, j, le-ltb _ _ h) (e, d))

  parts_one : (a b : Parts v) → answer a ≡ answer b
  parts_one (bad u a) (bad w b) = let e = judged_one false v u w a b in λ i. (Err (e i), o)
  parts_one (bad u a) (good n ps w) = absurd (judged_whole false v u n ps a w)
  parts_one (good n ps w) (bad u a) = absurd (judged_whole false v u n ps a w)
  parts_one (good n ps a) (good m qs b) = let e = whole_one false v n m ps qs a b in λ i. added_answer (e.0 i) (e.1 i)

  pub adds_one : (r s : Written) (x y : List ℕ) → Adds v k p o r x → Adds v k p o s y → (r ≡ s) × (x ≡ y)
  adds_one r s x y a b =
      let c = parts r x a in
      let d = parts s y b in
      is_one r s x y (answer c.0) (answer d.0) c.1 d.1 (parts_one c.0 d.0)
