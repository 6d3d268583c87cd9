-- Any two answers that the contract allows are the same.
use mathlib.Core.Path.{◌≡◌, refl, sym, ◌∙◌, ap, ap₂, subst}
use mathlib.Core.Bool.{Bool, true, false}
use mathlib.Core.List.{List, [], ◌∷◌, ◌++◌}
use mathlib.Core.Logic.{⊎_elim}
use Prim.Native.Nat.{ℕ, suc, ◌+◌, ◌≤◌, ◌<◌}
use native.Mathlib.Omega.{arith}
use lib.Dec.{ltb}
use lib.ListN.{length, drop}
use borrow.Author.Tests.{lt-ltb, le-ltb}
use Rattle.squares.proofs.Testing.{order}
use Rattle.laws.specs.declared.Position.{Position}
use Rattle.refusal.specs.declared.Refusal.{Refusal}
use Rattle.refusal.proofs.Saying.{never}
use Rattle.accept.specs.Verdicts.{judged_of}
use Rattle.volume_contents.specs.declared.Why.{Why}
use Rattle.volume_contents.specs.declared.Why.TheVariants.{Contents, Board as board, Room}
use Rattle.volume_contents.specs.Refusing.{Written}
use Rattle.volume_contents.proofs.Answered.{count_same, why_same}
use Rattle.std.specs.Prelude.{Option, Some, None, Result, Ok, Err}
use Rattle.volume_contents.specs.Contents.{row_at, Table}
use Rattle.volume_contents.proofs.Sound.{one_row}
use Rattle.volume_contents.proofs.Unique.{spoilt_one, sound_spoilt, table_one}
use Rattle.volume_lines.specs.Register.{lines_of}
use Rattle.volume_make.proofs.Unique.{Answer, Is, is_one}
use Rattle.volume_read.specs.Reading.{Passes, Fails, bodiless, unjudged, Reads, Boards, Judged, by_table, by_row, Whole, Checks, FindsIn, Finds, spoilt, sound, Unmakes, refuses, narrow, lined}
use Rattle.volume_read.proofs.Boards.{has_one, boards_one}
use Rattle.refusal.specs.Refusals.{Verdict}
use Rattle.std.specs.Prelude.{Err}

refusal_one : (j : Verdict) (w u : Refusal) → j ≡ Err w → j ≡ Err u → w ≡ u
refusal_one j w u a b = cc

-- a row passes, or fails for one reason
module _ (v : List ℕ) (n i : ℕ) where
  passes_fails : (p : Position) (why : Why) → Passes v n i p → Fails v n i why → ⊥
  passes_fails p why a (bodiless f) = f p a.0
  passes_fails p why a (unjudged q w b e) = never w (sym e ∙ ap judged_of (has_one v n i q p b a.0) ∙ a.1)

  fails_one : (a b : Why) → Fails v n i a → Fails v n i b → a ≡ b
  fails_one a b (bodiless f) (bodiless g) = refl
  fails_one a b (bodiless f) (unjudged q u y e) = absurd (f q y)
  fails_one a b (unjudged p w x d) (bodiless g) = absurd (g p x)
  fails_one a b (unjudged p w x d) (unjudged q u y e) =
      ap (λ (z : Refusal). board z (i + 1)) (refusal_one (judged_of q) w u (sym (ap judged_of (has_one v n i p q x y)) ∙ d) e)

  reads_one : (a b : Result Position Why) → Reads v n i a → Reads v n i b → a ≡ b
  reads_one (Ok p) (Ok q) x y = let e = has_one v n i p q x.0 y.0 in λ k. Ok (e k)
  reads_one (Ok p) (Err w) x y = absurd (passes_fails p w x y)
  reads_one (Err w) (Ok q) x y = absurd (passes_fails q w y x)
  reads_one (Err w) (Err u) x y = let e = fails_one w u x y in λ k. Err (e k)

-- no row fails before boards end
behind : (v : List ℕ) (n i j : ℕ) (ps : List Position) (why : Why) → Boards v n i ps → Fails v n j why → i ≤ j → i + length ps ≤ j
behind v n i j [] why b f h = omega arith
behind v n i j (p ∷ ps) why b f h =
    ⊎_elim (λ g. omega (arith, behind v n (suc i) j ps why b.1 f g))
    (λ g. let e : j ≡ i = omega arith in absurd (passes_fails v n i p why b.0 (subst (λ (k : ℕ). Fails v n k why) e f))) (order i j)

firsts_one : (v : List ℕ) (n : ℕ) (ps qs : List Position) (a b : Why) → Boards v n 0 ps → Boards v n 0 qs → Fails v n (length ps) a → Fails v n (length qs) b → a ≡ b
firsts_one v n ps qs a b x y f g =
    let e : length ps ≡ length qs = omega (arith, behind v n 0 (length qs) ps b x g (omega arith), behind v n 0 (length ps) qs a y f (omega arith)) in
    fails_one v n (length qs) a b (subst (λ (k : ℕ). Fails v n k a) e f) g

module _ (back : Bool) (v : List ℕ) where
  pub judged_one : (a b : Why) → Judged back v a → Judged back v b → a ≡ b
  judged_one a b (by_table w j x) (by_table u k y) = let e = spoilt_one back v j k w u x y in ap₂ Contents e.1 e.0
  judged_one a b (by_table w j x) (by_row m qs _ u c h g) = absurd (sound_spoilt back v m j w u x)
  judged_one a b (by_row n ps _ t x h f) (by_table u k y) = absurd (sound_spoilt back v n k u t y)
  judged_one a b (by_row n ps _ t x h f) (by_row m qs _ u y l g) =
      let e = table_one back v n m t u in
      firsts_one v m ps qs a b (subst (λ (k : ℕ). Boards v k 0 ps) e x) y (subst (λ (k : ℕ). Fails v k (length ps) a) e f) g

  pub whole_one : (n m : ℕ) (ps qs : List Position) → Whole back v n ps → Whole back v m qs → (n ≡ m) × (ps ≡ qs)
  whole_one n m ps qs a b =
      let e = table_one back v n m a.table b.table in
      (e, boards_one v m 0 ps qs (subst (λ (k : ℕ). Boards v k 0 ps) e a.boards) b.boards (a.count ∙ e ∙ sym b.count))

  pub judged_whole : (why : Why) (n : ℕ) (ps : List Position) → Judged back v why → Whole back v n ps → ⊥
  judged_whole why n ps (by_table w k x) a = sound_spoilt back v n k w a.table x
  judged_whole why n ps (by_row m qs _ t x h f) a =
      let e = table_one back v m n t a.table in
      omega (arith, behind v n 0 (length qs) ps why a.boards (subst (λ (k : ℕ). Fails v k (length qs) why) e f) (omega arith), a.count)

pub checks_one : (v : List ℕ) (r s : Result ℕ Why) → Checks v r → Checks v s → r ≡ s
checks_one v (Ok n) (Ok m) a b = count_same (whole_one false v n m a.0 b.0 a.1 b.1).0
checks_one v (Ok n) (Err u) a b = absurd (judged_whole false v u n a.0 b a.1)
checks_one v (Err w) (Ok m) a b = absurd (judged_whole false v w m b.0 a b.1)
checks_one v (Err w) (Err u) a b = why_same (judged_one false v w u a b)

-- a number has a row that is read, or none
abbrev sought_of : Result Position Why → Result (Option Position) Why
sought_of (Ok p) = Ok (Some p)
sought_of (Err why) = Err why

module _ (v : List ℕ) (n k : ℕ) where
  data Looked (r : Result (Option Position) Why) : Type 0 where
    seen : (i : ℕ) → i < n → (row_at v i).number ≡ k → (j : Result Position Why) → Reads v n i j → r ≡ sought_of j → Looked r
    unseen : ((i : ℕ) → i < n → (row_at v i).number ≡ k → ⊥) → r ≡ Ok None → Looked r

  looked : (r : Result (Option Position) Why) → FindsIn v n k r → Looked r
  looked (Ok (Some p)) a = seen a.0 a.1 a.2 (Ok p) a.3 refl
  looked (Ok None) a = unseen a refl
  looked (Err why) a = seen a.0 a.1 a.2 (Err why) a.3 refl

  looked_one : Table false v n → (s r : Result (Option Position) Why) → Looked s → Looked r → s ≡ r
  looked_one t s r (seen i h x j a d) (seen l g y m b e) =
      let z = one_row false v n t l i g h (y ∙ sym x) in
      d ∙ ap sought_of (reads_one v n i j m a (subst (λ (f : ℕ). Reads v n f m) z b)) ∙ sym e
  looked_one t s r (seen i h x _ _ _) (unseen f _) = absurd (f i h x)
  looked_one t s r (unseen f _) (seen i h x _ _ _) = absurd (f i h x)
  looked_one t s r (unseen _ d) (unseen _ e) = d ∙ sym e

pub finds_one : (v : List ℕ) (k : ℕ) (r s : Result (Option Position) Why) → Finds v k r → Finds v k s → r ≡ s
finds_one v k r s (spoilt w i a d) (spoilt u j b e) = let z = spoilt_one false v i j w u a b in d ∙ (λ x. Err (Contents (z.1 x) (z.0 x))) ∙ sym e
finds_one v k r s (spoilt w i a d) (sound m u b) = absurd (sound_spoilt false v m i w u a)
finds_one v k r s (sound n t a) (spoilt u j b e) = absurd (sound_spoilt false v n j u t b)
finds_one v k r s (sound n t a) (sound m u b) =
    let e = table_one false v n m t u in
    looked_one v m k u r s (looked v m k r (subst (λ (l : ℕ). FindsIn v l k r) e a)) (looked v m k s b)

-- a volume is refused, or has its lines
data Parts (v : List ℕ) : Type 0 where
  bad : (why : Why) → Judged true v why → Parts v
  good : (n : ℕ) (ps : List Position) → Whole true v n ps → Parts v

abbrev answer_by : List Position → List ℕ → Bool → Answer
answer_by ps o true = (Err (Room (length (lines_of ps))), o)
answer_by ps o false = (Ok (length (lines_of ps)), lines_of ps ++ drop (length (lines_of ps)) o)

lines_answer : List Position → List ℕ → Answer
lines_answer ps o = answer_by ps o (ltb (length o) (length (lines_of ps)))

abbrev answer : (v o : List ℕ) → Parts v → Answer
answer v o (bad why j) = (Err why, o)
answer v o (good n ps w) = lines_answer ps o

parts : (v o : List ℕ) (r : Written) (x : List ℕ) → Unmakes v o r x → (p : Parts v) × Is r x (answer v o p)
unfolding lines_answer
parts v o r x (refuses why j e d) = (bad why j, (e, d))
parts v o r x (narrow n ps w h e d) = (good n ps w, rw (lt-ltb _ _ h) (e, d))
parts v o r x (lined n ps w h e d) = (good n ps w, rw (le-ltb _ _ h) (e, d))

parts_one : (v o : List ℕ) (p q : Parts v) → answer v o p ≡ answer v o q
parts_one v o (bad w a) (bad u b) = let e = judged_one true v w u a b in λ i. (Err (e i), o)
parts_one v o (bad w a) (good n ps b) = absurd (judged_whole true v w n ps a b)
parts_one v o (good n ps b) (bad w a) = absurd (judged_whole true v w n ps a b)
parts_one v o (good n ps a) (good m qs b) = ap (λ (z : List Position). lines_answer z o) (whole_one true v n m ps qs a b).1

pub unmakes_one : (v o : List ℕ) (r s : Written) (x y : List ℕ) → Unmakes v o r x → Unmakes v o s y → (r ≡ s) × (x ≡ y)
unmakes_one v o r s x y a b =
    let p = parts v o r x a in
    let q = parts v o s y b in
    is_one r s x y (answer v o p.0) (answer v o q.0) p.1 q.1 (parts_one v o p.0 q.0)
