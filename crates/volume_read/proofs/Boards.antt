-- The boards of rows: read one by one, and told by their bodies.
use mathlib.Core.Path.{◌≡◌, refl, sym, ◌∙◌, ap, subst}
use mathlib.Core.List.{List, [], ◌∷◌, ◌++◌}
use Prim.Native.Nat.{ℕ, suc, ◌+◌, ◌*◌, ◌≤◌, ◌<◌}
use native.Mathlib.Omega.{arith}
use lib.ListN.{length, length-append}
use Rattle.laws.specs.declared.Edition.{Edition}
use Rattle.laws.specs.declared.Edition.TheVariants.{A, B}
use Rattle.laws.specs.declared.Position.{Position}
use Rattle.laws.specs.declared.Terms.{Terms}
use Rattle.position_text.specs.declared.Form.{Form}
use Rattle.position_text.specs.declared.Form.TheVariants.{InForm, OutOfForm}
use Rattle.position_text.specs.declared.Raw.{Raw}
use Rattle.position_text.specs.Form.{printed}
use Rattle.volume_body.specs.Layout.{Embodies, AnswersBy}
use Rattle.volume_body.proofs.Inverse.{embodies_one}
use Rattle.volume_contents.specs.Layout.{edition_byte}
use Rattle.volume_contents.specs.Contents.{row_at}
use Rattle.volume_contents.specs.inner.Walks.{edition_of}
use Rattle.volume_lines.specs.Register.{lines_of}
use Rattle.volume_lines.proofs.Pieces.{lines_append}
use Rattle.volume_read.specs.Reading.{body_at, HasBoard, Passes, Boards}
use Rattle.volume_read.specs.inner.Scanning.{Sized, AnswersAt}

pub edition_one : (a b : Edition) → edition_byte a ≡ edition_byte b → a ≡ b
edition_one A A e = refl
edition_one A B e = absurd (omega arith)
edition_one B A e = absurd (omega arith)
edition_one B B e = refl

-- a row has at most one board
pub has_one : (v : List ℕ) (n i : ℕ) (p q : Position) → HasBoard v n i p → HasBoard v n i q → p ≡ q
has_one v n i p q a b =
    let e = edition_one q.terms.edition p.terms.edition (b.edition ∙ sym a.edition) in
    embodies_one p.terms.edition (body_at v n i) p q a.body (subst (λ (x : Edition). Embodies x q (body_at v n i)) e b.body)

module _ (v : List ℕ) (n i : ℕ) (s : Sized v n) (h : i < n) (raw : Raw) (a : AnswersAt v n i raw) where
  byte : edition_byte (edition_of (row_at v i).edition) ≡ (row_at v i).edition
  byte = s.editions i h

  answers : (f : Form) → raw.form ≡ f → AnswersBy (edition_of (row_at v i).edition) (body_at v n i) raw.position f
  answers f e = subst (AnswersBy (edition_of (row_at v i).edition) (body_at v n i) raw.position) e a

  pub has_board : raw.form ≡ InForm → HasBoard v n i raw.position
  has_board e =
      let b = answers InForm e in
      let t : raw.position.terms.edition ≡ edition_of (row_at v i).edition = ap (λ (x : Terms). x.edition) b.edition in
      record { edition = ap edition_byte t ∙ byte; body = subst (λ (x : Edition). Embodies x raw.position (body_at v n i)) (sym t) b }

  pub has_none : raw.form ≡ OutOfForm → (p : Position) → HasBoard v n i p → ⊥
  has_none e p b =
      (answers OutOfForm e).1 p (subst (λ (x : Edition). Embodies x p (body_at v n i)) (edition_one p.terms.edition (edition_of (row_at v i).edition) (b.edition ∙ sym byte)) b.body)

  -- what a row that has a board is read as
  pub read_as : (p : Position) → HasBoard v n i p → raw.position ≡ p
  read_as p b = go raw.form refl
    where
      go : (f : Form) → raw.form ≡ f → raw.position ≡ p
      go InForm e = has_one v n i raw.position p (has_board e) b
      go OutOfForm e = absurd (has_none e p b)

-- one board more
pub boards_snoc : (v : List ℕ) (n i : ℕ) (ps : List Position) (p : Position) → Boards v n i ps → Passes v n (i + length ps) p → Boards v n i (ps ++ (p ∷ []))
boards_snoc v n i [] p b q = let z : i + 0 ≡ i = omega arith in (subst (λ (k : ℕ). Passes v n k p) z q, tt)
boards_snoc v n i (x ∷ ps) p b q =
    let z : i + suc (length ps) ≡ suc i + length ps = omega arith in
    (b.0, boards_snoc v n (suc i) ps p b.1 (subst (λ (k : ℕ). Passes v n k p) z q))

pub boards_one : (v : List ℕ) (n i : ℕ) (ps qs : List Position) → Boards v n i ps → Boards v n i qs → length ps ≡ length qs → ps ≡ qs
boards_one v n i [] [] a b e = refl
boards_one v n i [] (q ∷ qs) a b e = absurd (omega arith)
boards_one v n i (p ∷ ps) [] a b e = absurd (omega arith)
boards_one v n i (p ∷ ps) (q ∷ qs) a b e =
    let x : p ≡ q = has_one v n i p q a.0.0 b.0.0 in
    let y : ps ≡ qs = boards_one v n (suc i) ps qs a.1 b.1 (omega arith) in
    cc

-- the lines of one board more
pub line_length : (p : Position) → length (lines_of (p ∷ [])) ≡ length (printed p) + 1
unfolding lines_of
line_length p = length-append (printed p) (10 ∷ [])

pub snoc_length : (ps : List Position) (p : Position) → length (lines_of (ps ++ (p ∷ []))) ≡ length (lines_of ps) + length (printed p) + 1
snoc_length ps p = ap length (lines_append ps (p ∷ [])) ∙ length-append (lines_of ps) (lines_of (p ∷ [])) ∙ omega (arith, line_length p)

-- i rows have boards, and their lines so many bytes
pub record Scanning (v : List ℕ) (n i size : ℕ) : Type 0 where
  pub list : List Position
  pub boards : Boards v n 0 list
  pub count : length list ≡ i
  pub size_is : size ≡ length (lines_of list)
  pub small : size ≤ 82 * i
  pub inside : i ≤ n

pub scanning_none : (v : List ℕ) (n : ℕ) → Scanning v n 0 0
unfolding lines_of
scanning_none v n = record { list = []; boards = tt; count = refl; size_is = refl; small = omega arith; inside = omega arith }

pub scanning_more : {v : List ℕ} {n i size len : ℕ} (p : Position) → Scanning v n i size → i < n → Passes v n i p → len ≡ length (printed p) → len ≤ 81
    → Scanning v n (i + 1) (size + len + 1)
scanning_more {v} {n} {i} {size} {len} p s h q e l =
    let z : i ≡ 0 + length s.list = omega (arith, s.count) in
    record {
      list = s.list ++ (p ∷ []);
      boards = boards_snoc v n 0 s.list p s.boards (subst (λ (k : ℕ). Passes v n k p) z q);
      count = omega (arith, length-append s.list (p ∷ []), s.count);
      size_is = omega (arith, s.size_is, snoc_length s.list p);
      small = omega (arith, s.small);
      inside = omega arith;
    }
