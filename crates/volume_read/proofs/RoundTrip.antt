-- "Lines to volume and back must give the same bytes; so must a volume made from old lines, to lines and back, the unknown sign included", over any answers
-- that the contracts allow.
use mathlib.Core.Path.{◌≡◌, refl, sym, ◌∙◌, ap, ap₂, subst}
use mathlib.Core.Bool.{true}
use mathlib.Core.List.{List, [], ◌∷◌, ◌++◌}
use Prim.Native.Nat.{ℕ, suc, ◌+◌, ◌≤◌, ◌<◌}
use native.Mathlib.Omega.{arith}
use lib.ListN.{length, take, drop}
use lib.Seq.{take_at}
use Rattle.laws.specs.declared.Edition.TheVariants.{A}
use Rattle.laws.specs.declared.Position.{Position}
use Rattle.laws.specs.declared.Terms.{Terms}
use Rattle.laws.specs.Positions.{terms_of}
use Rattle.refusal.specs.declared.Refusal.{Refusal}
use Rattle.accept.specs.Verdicts.{judged_of}
use Rattle.std.specs.Prelude.{Ok}
use Rattle.volume_contents.specs.Refusing.{Written}
use Rattle.volume_contents.proofs.Answered.{count_same}
use Rattle.volume_contents.specs.Contents.{row_at, Table}
use Rattle.volume_contents.proofs.Sound.{plain_row}
use Rattle.volume_lines.specs.declared.Named.{Named}
use Rattle.volume_lines.specs.Register.{Told, AllTold, lines_of, note_by, note_of, noted_of, unrefused, first_refused}
use Rattle.volume_make.specs.Volumes.{volume_of, numbered_from, bound}
use Rattle.volume_make.specs.Making.{Makes, unlined, many, refuses, room, written}
use Rattle.volume_make.proofs.Sizes.{numbered_length}
use Rattle.volume_make.proofs.Unique.{makes_one}
use Rattle.volume_read.specs.Problems.{problems_from}
use Rattle.volume_read.specs.Reading.{Boards, Whole, Unmakes, refuses as unread, narrow, lined}
use Rattle.volume_read.proofs.Boards.{edition_one}
use Rattle.volume_read.proofs.Bytes.{Bytes, volume_of_lem}
use Rattle.volume_read.proofs.Made.{AllRight, boards_of, made_whole}
use Rattle.volume_read.proofs.Unique.{unmakes_one}
use Rattle.refusal.specs.Refusals.{Verdict, nothing_refused}
use Rattle.std.specs.Prelude.{Ok, Err}

never : (r : Refusal) → Err r ≡ nothing_refused → ⊥
never r e = let z : ◌≡◌ {A = ℕ} 0 1 = cc in omega arith

abbrev AllPass : List Position → Type 0
AllPass [] = Unit {0}
AllPass (p ∷ ps) = (judged_of p ≡ nothing_refused) × AllPass ps

-- no board is refused exactly when all pass
both_pass : (v w : Verdict) (l k : ℕ) → (note_by v l k w).verdict ≡ nothing_refused → (v ≡ nothing_refused) × (w ≡ nothing_refused)
both_pass (Ok _) (Ok _) l k e = (refl, refl)
both_pass (Ok _) (Err r) l k e = absurd (never r e)
both_pass (Err r) w l k e = absurd (never r e)

noted_pass : (ps : List Position) (n : Named) (k : ℕ) → (noted_of n k ps).verdict ≡ nothing_refused → (n.verdict ≡ nothing_refused) × AllPass ps
unfolding noted_of
noted_pass [] n k e = (e, tt)
noted_pass (p ∷ ps) n k e =
    let i = noted_pass ps (note_of n (k + 1) (judged_of p)) (k + 1) e in
    let b = both_pass n.verdict (judged_of p) n.line (k + 1) i.0 in
    (b.0, (b.1, i.1))

pass_noted : (ps : List Position) (n : Named) (k : ℕ) → n.verdict ≡ nothing_refused → AllPass ps → (noted_of n k ps).verdict ≡ nothing_refused
unfolding noted_of
pass_noted [] n k e a = e
pass_noted (p ∷ ps) n k e a =
    pass_noted ps (note_of n (k + 1) (judged_of p)) (k + 1) (ap₂ (λ (v w : Verdict). (note_by v n.line (k + 1) w).verdict) e a.0) a.1

-- old lines are problems numbered from 1 in edition A
edition_a : (p : Position) → Told p → p.terms.edition ≡ A
edition_a p t = ap (λ (x : Terms). x.edition) t.edition

right_from : (i : ℕ) (ps : List Position) → i + length ps < 65536 → AllTold ps → AllPass ps → AllRight true i i (numbered_from (i + 1) ps)
unfolding numbered_from
right_from i [] h t a = tt
right_from i (p ∷ ps) h t a =
    let e = edition_a p t.0 in
    let z : suc i ≡ i + 1 = omega arith in (
      record {
        above = omega arith;
        few = omega arith;
        body = record { edition = t.0.edition ∙ ap terms_of (sym e); clean = t.0.clean; square = t.0.square; bytes = refl };
        passes = a.0;
        plain = λ b. (refl, e);
      },
      subst (λ (k : ℕ). AllRight true (suc i) k (numbered_from (k + 1) ps)) z (right_from (suc i) ps (omega arith) t.1 a.1),
    )

boards_back : (k : ℕ) (ps : List Position) → boards_of (numbered_from k ps) ≡ ps
unfolding numbered_from boards_of
boards_back k [] = refl
boards_back k (p ∷ ps) = ap (λ (z : List Position). p ∷ z) (boards_back (k + 1) ps)

-- what old lines become is a volume that goes back
pub bound_whole : (ps : List Position) → length ps < 65536 → AllTold ps → (first_refused ps).verdict ≡ nothing_refused → Whole true (bound ps) (length ps) ps
bound_whole ps h t e =
    let n = numbered_length 1 ps in
    let w = made_whole true (numbered_from 1 ps) (omega (arith, n)) (right_from 0 ps (omega arith) t (noted_pass ps unrefused 0 e).1) in
    subst (λ (x : List Position). Whole true (bound ps) (length ps) x) (boards_back 1 ps) (subst (λ (k : ℕ). Whole true (bound ps) k (boards_of (numbered_from 1 ps))) n w)

-- a volume that goes back to lines is the volume of these lines
module _ (v : List ℕ) (n : ℕ) (t : Table true v n) where
  told_from : (i : ℕ) (ps : List Position) → i + length ps ≤ n → Boards v n i ps → AllTold ps × AllPass ps
  told_from i [] h b = (tt, tt)
  told_from i (p ∷ ps) h b =
      let r = plain_row true n i _ (row_at v i) (t.rows i (omega arith)) refl in
      let e : p.terms.edition ≡ A = edition_one p.terms.edition A (b.0.0.edition ∙ r.1) in
      let s : Told p =
      record { edition = b.0.0.body.edition ∙ ap terms_of e; clean = b.0.0.body.clean; square = b.0.0.body.square; text = refl } in
      let next = told_from (suc i) ps (omega arith) b.1 in
      ((s, next.0), (b.0.1, next.1))

  numbered_so : (i : ℕ) (ps : List Position) → i + length ps ≤ n → problems_from v i ps ≡ numbered_from (i + 1) ps
  unfolding problems_from numbered_from
  numbered_so i [] h = refl
  numbered_so i (p ∷ ps) h =
      let r = plain_row true n i _ (row_at v i) (t.rows i (omega arith)) refl in
      let z : suc i + 1 ≡ i + 1 + 1 = omega arith in
      (λ k. record { number = r.0 k; board = p } ∷ (numbered_so (suc i) ps (omega arith) ∙ ap (λ (m : ℕ). numbered_from m ps) z) k)

pub whole_bound : (v : List ℕ) (n : ℕ) (ps : List Position) → Bytes v → Whole true v n ps → bound ps ≡ v
whole_bound v n ps b w = ap volume_of (sym (numbered_so v n w.table 0 ps (omega (arith, w.count)))) ∙ volume_of_lem true v n ps b w

pub whole_told : (v : List ℕ) (n : ℕ) (ps : List Position) → Whole true v n ps → AllTold ps × ((first_refused ps).verdict ≡ nothing_refused)
whole_told v n ps w =
    let a = told_from v n w.table 0 ps (omega (arith, w.count)) w.boards in
    (a.0, pass_noted ps unrefused 0 refl a.1)

-- lines into a volume x, and the volume back into y: the same lines
pub there_and_back : (t o x v p y : List ℕ) (m : ℕ) (s : Written) → Makes t o (Ok m) x → take m x ≡ v → Unmakes v p s y → length t ≤ length p
    → (s ≡ Ok (length t)) × (y ≡ t ++ drop (length t) p)
there_and_back t o x v p y m s a c b h = go a
  where
    go : Makes t o (Ok m) x → (s ≡ Ok (length t)) × (y ≡ t ++ drop (length t) p)
    go (unlined k l e d) = absurd (let z : ◌≡◌ {A = ℕ} 0 1 = cc in omega arith)
    go (many ps l k e d) = absurd (let z : ◌≡◌ {A = ℕ} 0 1 = cc in omega arith)
    go (refuses ps l k w q e d) = absurd (let z : ◌≡◌ {A = ℕ} 0 1 = cc in omega arith)
    go (room ps l k q j e d) = absurd (let z : ◌≡◌ {A = ℕ} 0 1 = cc in omega arith)
    go (written ps l k q j e d) =
        let mm : m ≡ length (bound ps) = cc in
        let vv : v ≡ bound ps = sym c ∙ (λ i. take (mm i) (d i)) ∙ take_at (bound ps) (drop (length (bound ps)) o) (length (bound ps)) refl in
        let w : Whole true v (length ps) ps = subst (λ (u : List ℕ). Whole true u (length ps) ps) (sym vv) (bound_whole ps (omega arith) l.told q) in
        let same : lines_of ps ≡ t = l.text in
        let r = unmakes_one v p s (Ok (length (lines_of ps))) y (lines_of ps ++ drop (length (lines_of ps)) p) b (lined (length ps) ps w (omega (arith, ap length same)) refl refl) in
        (r.0 ∙ count_same (ap length same), r.1 ∙ ap (λ (u : List ℕ). u ++ drop (length u) p) same)

-- a volume back into lines x, and the lines into a volume y: the same volume
pub back_and_there : (v o x t p y : List ℕ) (m : ℕ) (s : Written) → Bytes v → Unmakes v o (Ok m) x → take m x ≡ t → Makes t p s y → length v ≤ length p
    → (s ≡ Ok (length v)) × (y ≡ v ++ drop (length v) p)
back_and_there v o x t p y m s bytes a c b h = go a
  where
    go : Unmakes v o (Ok m) x → (s ≡ Ok (length v)) × (y ≡ v ++ drop (length v) p)
    go (unread why j e d) = absurd (let z : ◌≡◌ {A = ℕ} 0 1 = cc in omega arith)
    go (narrow n ps w j e d) = absurd (let z : ◌≡◌ {A = ℕ} 0 1 = cc in omega arith)
    go (lined n ps w j e d) =
        let mm : m ≡ length (lines_of ps) = cc in
        let same : t ≡ lines_of ps = sym c ∙ (λ i. take (mm i) (d i)) ∙ take_at (lines_of ps) (drop (length (lines_of ps)) o) (length (lines_of ps)) refl in
        let told = whole_told v n ps w in
        let vv : bound ps ≡ v = whole_bound v n ps bytes w in
        let r = makes_one t p s (Ok (length (bound ps))) y (bound ps ++ drop (length (bound ps)) p) b (written ps (record { told = told.0; text = sym same }) (omega (arith, bytes 4, bytes (4 + 1), w.table.count, w.count)) told.1 (omega (arith, ap length vv)) refl refl) in
        (r.0 ∙ count_same (ap length vv), r.1 ∙ ap (λ (u : List ℕ). u ++ drop (length u) p) vv)
