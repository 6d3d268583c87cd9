-- What the buffer shows: the text, and under it the plies or `none`.
use mathlib.Core.Path.{◌≡◌, refl, sym, ap, ◌∙◌, subst}
use mathlib.Core.Bool.{Bool, true, false, cond}
use mathlib.Core.List.{List, [], ◌++◌}
use Prim.Native.Nat.{ℕ, zero, suc, ◌+◌, ◌≤◌}
use native.Mathlib.Omega.{arith}
use lib.Dec.{leb}
use lib.ListN.{length, take, length-append}
use Rattle.laws.specs.declared.ChessRetraction.{ChessRetraction}
use Rattle.refusal.specs.Said.{Test, first_failing}
use Rattle.board.specs.declared.RetractableBoard.{RetractableBoard}
use Rattle.text.specs.Entries.{text_on}
use Rattle.rows.specs.Rows.{fields_by}
use Rattle.output.specs.Appending.{Adds}
use Rattle.reply.specs.Replies.{newline, refused_text, Shows}
use Rattle.history.specs.declared.History.{History}
use Rattle.history.specs.declared.Why.{Why}
use Rattle.history.specs.Histories.{plies_of, why_number, Answers}
use Rattle.history_reply.specs.Replies.{ply_row, plies_text, none_text, history_text}
use Rattle.refusal.proofs.Writing.{Written}
use Rattle.output.proofs.Added.{added_length}
use Rattle.output.proofs.Adding.{adds_then}
use Rattle.reply.proofs.Shown.{shown, written_added, text_short}
use Rattle.history.proofs.Answering.{passed}
use Rattle.std.specs.Prelude.{Result, Option, Ok, Some, None, Err}

-- a ply has nine bytes, so that one which may be there has at most nine
row_long : (r : ChessRetraction) → length (ply_row r) ≡ 9
row_long r = refl

abbrev row_if : Bool → ChessRetraction → List ℕ
row_if b r = cond b (ply_row r) []

if_short : (b : Bool) (r : ChessRetraction) → length (row_if b r) ≤ 9
if_short true r = omega arith
if_short false r = omega arith

-- bytes that are added take no more room than they are
used_most : (o x b : List ℕ) (len r k : ℕ) → Adds o len b r x → length b ≤ k → r ≤ len + k
used_most o x b len r k a h = go (leb (len + length b) (length o)) a.used
  where
    go : (t : Bool) → r ≡ cond t (len + length b) len → r ≤ len + k
    go true e = omega (arith, e, h)
    go false e = omega (arith, e)

-- and leave as much behind them
module _ (o x : List ℕ) (len r : ℕ) where
  left_over : (b : List ℕ) → length b ≤ 9 → (k : ℕ) → len + (9 + k) ≤ length o → Adds o len b r x → r + k ≤ length x
  left_over b h k m a = omega (arith, used_most o x b len r 9 a h, m, added_length o b x len r a (omega (arith, h, m)))

  pub behind_ply : (q : ChessRetraction) (k : ℕ) → len + (9 + k) ≤ length o → Adds o len (ply_row q) r x → r + k ≤ length x
  behind_ply q = left_over (ply_row q) (omega (arith, row_long q))

  pub behind_if : (b : Bool) (q : ChessRetraction) (k : ℕ) → len + (9 + k) ≤ length o → Adds o len (row_if b q) r x → r + k ≤ length x
  behind_if b q = left_over (row_if b q) (if_short b q)

-- by how many are asked for
by_depth : (n : ℕ) (h : History) → 1 ≤ n → n ≤ 4
    → ply_row h.first ++ row_if (leb 2 n) h.second ++ row_if (leb 3 n) h.third ++ row_if (leb 4 n) h.fourth ≡ plies_text (take n (plies_of h))
by_depth zero h l m = absurd (omega arith)
by_depth (suc zero) h l m = refl
by_depth (suc (suc zero)) h l m = refl
by_depth (suc (suc (suc zero))) h l m = refl
by_depth (suc (suc (suc (suc zero)))) h l m = refl
by_depth (suc (suc (suc (suc (suc n))))) h l m = absurd (omega arith)

pub ply_added : (o o₁ o₂ : List ℕ) (len a n : ℕ) (r : ChessRetraction) (f : List ℕ) → len + 9 ≤ length o → f ≡ fields_by r → Adds o len f a o₁
    → Adds o₁ a newline n o₂ → Adds o len (ply_row r) n o₂
ply_added o o₁ o₂ len a n r f h e p q =
    subst (λ (g : List ℕ). Adds o len (g ++ newline) n o₂) e
    (adds_then o o₁ o₂ f newline len a n (simp length-append (omega (arith, h, ap length e))) p q)

module _ (o o₁ o₂ o₃ o₄ : List ℕ) (len a b c d n : ℕ) (h : History) (room : len + 36 ≤ length o) where
  pub plies_added : 1 ≤ n → n ≤ 4 → Adds o len (ply_row h.first) a o₁ → Adds o₁ a (row_if (leb 2 n) h.second) b o₂ → Adds o₂ b (row_if (leb 3 n) h.third) c o₃
      → Adds o₃ c (row_if (leb 4 n) h.fourth) d o₄ → Adds o len (plies_text (take n (plies_of h))) d o₄
  plies_added i j p q r s =
      let u = if_short (leb 2 n) h.second in
      let v = if_short (leb 3 n) h.third in
      let w = if_short (leb 4 n) h.fourth in
      let one = ply_row h.first in
      let two = one ++ row_if (leb 2 n) h.second in
      let three = two ++ row_if (leb 3 n) h.third in
      let x = adds_then o o₁ o₂ one (row_if (leb 2 n) h.second) len a b (simp length-append (omega (arith, room, u))) p q in
      let y = adds_then o o₂ o₃ two (row_if (leb 3 n) h.third) len b c (simp length-append (omega (arith, room, u, v))) x r in
      let z = adds_then o o₃ o₄ three (row_if (leb 4 n) h.fourth) len c d (simp length-append (omega (arith, room, u, v, w))) y s in
      subst (λ (t : List ℕ). Adds o len t d o₄) (by_depth n h i j) z

plies_short : (n : ℕ) (h : History) → 1 ≤ n → n ≤ 4 → length (plies_text (take n (plies_of h))) ≤ 36
plies_short zero h l m = omega arith
plies_short (suc zero) h l m = omega arith
plies_short (suc (suc zero)) h l m = omega arith
plies_short (suc (suc (suc zero))) h l m = omega arith
plies_short (suc (suc (suc (suc zero)))) h l m = omega arith
plies_short (suc (suc (suc (suc (suc n))))) h l m = absurd (omega arith)

-- the text, to a line, which ends before the 83rd byte
pub text_shown : (b : RetractableBoard) (o o₁ o₂ : List ℕ) (m n : ℕ) {ts : List Test} → length o ≡ 196608 → Written ts (text_on b) o m o₁ → Adds o₁ m newline n o₂
    → Shows (text_on b ++ newline) n o o₂ × (n + 36 ≤ length o)
text_shown b o o₁ o₂ m n l k w =
    let s = text_short b in
    let two = adds_then o o₁ o₂ (text_on b) newline 0 m n (simp length-append (omega arith)) (written_added k) w in
    let z = shown o o₂ (text_on b ++ newline) n two (simp length-append (omega arith)) in
    (z, omega (arith, z.size, length-append (text_on b) newline, s, l))

-- what stands under it
module _ (b : RetractableBoard) (o o₁ : List ℕ) (m : ℕ) (s : Shows (text_on b ++ newline) m o o₁) (room : m + 36 ≤ length o) where
  text_added : Adds o 0 (text_on b ++ newline) m o₁
  unfolding first_failing
  text_added =
      let fits : length (text_on b ++ newline) ≤ length o = omega (arith, s.size, room) in
      written_added {ts = []} {t = text_on b ++ newline} {o = o} (record { passed = refl; size = s.size; fits = fits; holds = s.holds })

  pub under_room : m + 36 ≤ length o₁
  under_room = omega (arith, room, added_length o (text_on b ++ newline) o₁ 0 m text_added (omega (arith, s.size, room)))

  under : (t : List ℕ) → length t ≤ 36 → (n : ℕ) (o₂ : List ℕ) → Adds o₁ m t n o₂ → Shows (text_on b ++ newline ++ t) n o o₂
  under t h n o₂ a =
      let e = length-append (text_on b ++ newline) t in
      let all = adds_then o o₁ o₂ (text_on b ++ newline) t 0 m n (omega (arith, e, s.size, room, h)) text_added a in
      shown o o₂ (text_on b ++ newline ++ t) n all (omega (arith, e, s.size, room, h))

  module _ (d n : ℕ) (o₂ : List ℕ) (told : Result (Option History) Why) where
    pub past_shown : (h : History) {t : Option History} → told ≡ Ok t → t ≡ Some h → 1 ≤ d → d ≤ 4 → Adds o₁ m (plies_text (take d (plies_of h))) n o₂ → Shows (history_text b d told) n o o₂
    past_shown h e q i j a =
        subst (λ (r : Result (Option History) Why). Shows (history_text b d r) n o o₂) (sym (e ∙ ap Ok q)) (under (plies_text (take d (plies_of h))) (plies_short d h i j) n o₂ a)

    pub none_shown : {t : Option History} → told ≡ Ok t → t ≡ None → Adds o₁ m none_text n o₂ → Shows (history_text b d told) n o o₂
    none_shown e q a = subst (λ (r : Result (Option History) Why). Shows (history_text b d r) n o o₂) (sym (e ∙ ap Ok q)) (under none_text (omega arith) n o₂ a)

-- a history is told of a depth from 1 to 4
pub past_depth : (b : RetractableBoard) (n : ℕ) (told : Result (Option History) Why) (h : History) → Answers b n told → {t : Option History} → told ≡ Ok t → t ≡ Some h → (1 ≤ n) × (n ≤ 4)
past_depth b n told h x e q = let p = passed b n (sym (subst (Answers b n) (e ∙ ap Ok q) x).number) in (p.1, p.2)

pub refused_shown : (b : RetractableBoard) (d n x : ℕ) (o out : List ℕ) (told : Result (Option History) Why) (why : Why) → told ≡ Err why → x ≡ why_number why
    → Shows (refused_text x) n o out → Shows (history_text b d told) n o out
refused_shown b d n x o out told why e i s =
    subst (λ (r : Result (Option History) Why). Shows (history_text b d r) n o out) (sym e) (subst (λ (z : ℕ). Shows (refused_text z) n o out) i s)
