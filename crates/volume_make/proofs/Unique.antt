-- Any two answers that the contract allows are the same.
use mathlib.Core.Path.{◌≡◌, sym, ◌∙◌, ap}
use mathlib.Core.Bool.{Bool, true, false}
use mathlib.Core.List.{List, ◌++◌}
use Prim.Native.Nat.{ℕ, ◌+◌}
use lib.Dec.{ltb}
use lib.ListN.{length, drop}
use borrow.Author.Tests.{lt-ltb, le-ltb}
use Rattle.laws.specs.declared.Position.{Position}
use Rattle.volume_contents.specs.declared.Flaw.TheVariants.{Many}
use Rattle.volume_contents.specs.declared.Why.TheVariants.{Line, Contents, Board, Room}
use Rattle.volume_contents.specs.Refusing.{Written}
use Rattle.std.specs.Prelude.{Ok, Err}
use Rattle.volume_lines.specs.Register.{Lines, Stops, first_refused}
use Rattle.volume_lines.proofs.Breaks.{lines_one, stops_lines}
use Rattle.volume_lines.proofs.Unique.{stops_one}
use Rattle.volume_make.specs.Volumes.{bound}
use Rattle.volume_make.specs.Making.{Makes, unlined, many, refuses, room, written}
use Rattle.refusal.specs.Refusals.{Verdict}

-- an answer, and what the slice then holds
abbrev pub Answer : Type 0
Answer = Written × List ℕ

abbrev pub Is : Written → List ℕ → Answer → Type 0
Is r x a = (r ≡ a.0) × (x ≡ a.1)

pub is_one : (r s : Written) (x y : List ℕ) (a b : Answer) → Is r x a → Is s y b → a ≡ b → (r ≡ s) × (x ≡ y)
is_one r s x y a b p q e = (p.0 ∙ ap (λ (z : Answer). z.0) e ∙ sym q.0, p.1 ∙ ap (λ (z : Answer). z.1) e ∙ sym q.1)

-- bytes stop at a line, or are all lines
data Parts (t : List ℕ) : Type 0 where
  stop : (k : ℕ) → Stops t k → Parts t
  all : (ps : List Position) → Lines ps t → Parts t

-- are there too many lines, what is the verdict on them, is there too little room
abbrev answer_by : List Position → List ℕ → Bool → Verdict → Bool → Answer
answer_by ps o true v b = (Err (Contents Many 65536), o)
answer_by ps o false (Err w) b = (Err (Board w (first_refused ps).line), o)
answer_by ps o false (Ok _) true = (Err (Room (length (bound ps))), o)
answer_by ps o false (Ok _) false = (Ok (length (bound ps)), bound ps ++ drop (length (bound ps)) o)

lines_answer : List Position → List ℕ → Answer
lines_answer ps o = answer_by ps o (ltb 65535 (length ps)) (first_refused ps).verdict (ltb (length o) (length (bound ps)))

abbrev answer : (t o : List ℕ) → Parts t → Answer
answer t o (stop k s) = (Err (Line (k + 1)), o)
answer t o (all ps l) = lines_answer ps o

parts : (t o : List ℕ) (r : Written) (x : List ℕ) → Makes t o r x → (p : Parts t) × Is r x (answer t o p)
unfolding lines_answer
parts t o r x (unlined k s e d) = (stop k s, (e, d))
parts t o r x (many ps l n e d) = (all ps l, rw (lt-ltb _ _ n) (e, d))
parts t o r x (refuses ps l n w v e d) = (all ps l, rw (le-ltb _ _ n, v) (e, d))
parts t o r x (room ps l n v h e d) = (all ps l, rw (le-ltb _ _ n, v, lt-ltb _ _ h) (e, d))
parts t o r x (written ps l n v h e d) = (all ps l, rw (le-ltb _ _ n, v, le-ltb _ _ h) (e, d))

parts_one : (t o : List ℕ) (p q : Parts t) → answer t o p ≡ answer t o q
parts_one t o (stop j a) (stop k b) = let e = stops_one t j k a b in λ i. (Err (Line (e i + 1)), o)
parts_one t o (stop k a) (all ps l) = absurd (stops_lines t k ps a l)
parts_one t o (all ps l) (stop k a) = absurd (stops_lines t k ps a l)
parts_one t o (all ps l) (all qs m) = ap (λ (z : List Position). lines_answer z o) (lines_one t ps qs l m)

pub makes_one : (t o : List ℕ) (r s : Written) (x y : List ℕ) → Makes t o r x → Makes t o s y → (r ≡ s) × (x ≡ y)
makes_one t o r s x y a b =
    let p = parts t o r x a in
    let q = parts t o s y b in
    is_one r s x y (answer t o p.0) (answer t o q.0) p.1 q.1 (parts_one t o p.0 q.0)
