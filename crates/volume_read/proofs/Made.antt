-- A volume that was made of problems passes all tests, and has these problems.
use mathlib.Core.Path.{◌≡◌, refl, sym, ◌∙◌, ap, subst}
use mathlib.Core.Bool.{Bool, true, false, not}
use mathlib.Core.List.{List, [], ◌∷◌, ◌++◌, append_assoc}
use Prim.Native.Nat.{ℕ, zero, suc, ◌+◌, ◌*◌, ◌/◌, ◌%◌, ◌≤◌, ◌<◌}
use native.Mathlib.Omega.{arith}
use lib.Dec.{eqb}
use lib.ListN.{length, get_or, take, drop}
use lib.Seq.{drop-drop, drop_at, take_at, get_or-drop}
use borrow.Author.Tests.{eq-eqb, le-leb, lt-ltb}
use Rattle.squares.specs.Tests.{◌or◌}
use Rattle.squares.proofs.Testing.{both}
use Rattle.laws.specs.declared.Edition.{Edition}
use Rattle.laws.specs.declared.Edition.TheVariants.{A, B}
use Rattle.laws.specs.declared.Position.{Position}
use Rattle.accept.specs.Verdicts.{judged_of}
use Rattle.volume_body.specs.Layout.{bodied, Embodies}
use Rattle.volume_contents.specs.declared.Entry.{Entry}
use Rattle.volume_contents.specs.declared.Flaw.{Flaw}
use Rattle.volume_contents.specs.declared.Flaw.TheVariants.{Length}
use Rattle.std.specs.Prelude.{Ok}
use Rattle.volume_contents.specs.Layout.{head_of, edition_byte, row_of, body_place, size_of, two_at, entry_at}
use Rattle.volume_contents.specs.Contents.{Tested, unless, problems, head_tested, row_tested, row_at, number_before, tested_at}
use Rattle.volume_make.specs.Volumes.{Problem, rows_of, bodies_of, volume_of}
use Rattle.volume_make.proofs.Sizes.{bodied_length, rows_length, volume_length}
use Rattle.volume_read.specs.Problems.{problems_from}
use Rattle.volume_read.specs.Reading.{body_at, Boards, Whole}
use Rattle.refusal.specs.Refusals.{nothing_refused}

-- the problem in the row i, behind a row with the number `last`; `back` is whether it is one of old lines
pub record Right (back : Bool) (i last : ℕ) (x : Problem) : Type 0 where
  pub above : last < x.number
  pub few : x.number < 65536
  pub body : Embodies x.board.terms.edition x.board (bodied x.board)
  pub passes : judged_of x.board ≡ nothing_refused
  pub plain : back ≡ true → (x.number ≡ i + 1) × (x.board.terms.edition ≡ A)

abbrev pub AllRight : Bool → ℕ → ℕ → List Problem → Type 0
AllRight back i last [] = Unit {0}
AllRight back i last (x ∷ xs) = Right back i last x × AllRight back (suc i) x.number xs

unfoldable pub boards_of : List Problem → List Position
boards_of [] = []
boards_of (x ∷ xs) = x.board ∷ boards_of xs

pub boards_length : (xs : List Problem) → length (boards_of xs) ≡ length xs
unfolding boards_of
boards_length [] = refl
boards_length (x ∷ xs) = ap suc (boards_length xs)

-- the row that row_of writes
whole_of : (p : ℕ) → p < 16777216 → 65536 * (256 * (p / 16777216 % 256) + p / 65536 % 256) + (256 * (p / 256 % 256) + p % 256) ≡ p
whole_of p h =
    let a : p / 16777216 ≡ 0 = omega arith in
    let b : p / 65536 % 256 ≡ p / 65536 = omega arith in
    let c : p / 65536 ≡ p / 256 / 256 = omega arith in
    let d : p / 16777216 % 256 ≡ 0 = ap (λ (k : ℕ). k % 256) a in
    omega arith

-- the entry that is read where a row stands
module _ (v r : List ℕ) (a k p : ℕ) (e : Edition) (few : k < 65536) (near : p < 16777216) (here : drop a v ≡ row_of k e p ++ r) where
  byte : (j : ℕ) → get_or v (a + j) 0 ≡ get_or (row_of k e p ++ r) j 0
  byte j = sym (get_or-drop a v j 0) ∙ ap (λ (l : List ℕ). get_or l j 0) here

  from : (i j x : ℕ) → i ≡ a + j → get_or (row_of k e p ++ r) j 0 ≡ x → get_or v i 0 ≡ x
  from i j x q z = ap (λ (m : ℕ). get_or v m 0) q ∙ byte j ∙ z

  number_is : two_at v a ≡ k
  number_is =
      let x = from a 0 (k / 256 % 256) (omega arith) refl in
      let y = from (a + 1) 1 (k % 256) refl refl in
      omega arith

  place_is : 65536 * two_at v (a + 3) + two_at v (a + 5) ≡ p
  place_is =
      let x = from (a + 3) 3 (p / 16777216 % 256) refl refl in
      let y = from (a + 3 + 1) 4 (p / 65536 % 256) (omega arith) refl in
      let z = from (a + 5) 5 (p / 256 % 256) refl refl in
      let w = from (a + 5 + 1) 6 (p % 256) (omega arith) refl in
      (λ i. 65536 * (256 * x i + y i) + (256 * z i + w i)) ∙ whole_of p near

  pub entry_is : entry_at v a ≡ record { number = k; edition = edition_byte e; place = p; length = 34 }
  entry_is = λ i. record { number = number_is i; edition = from (a + 2) 2 (edition_byte e) refl refl i; place = place_is i; length = from (a + 7) 7 34 refl refl i }

-- such a row passes
edition_ok : (e : Edition) → (eqb (edition_byte e) 65 or eqb (edition_byte e) 66) ≡ true
unfolding ◌or◌
edition_ok A = refl
edition_ok B = refl

back_ok : (back b : Bool) → (back ≡ true → b ≡ true) → (not back or b) ≡ true
unfolding ◌or◌
back_ok true b f = f refl
back_ok false b f = refl

unless_true : (b : Bool) (w : Flaw) (t : Tested) → b ≡ true → t ≡ Ok tt → unless b w t ≡ Ok tt
unless_true b w t e q = (λ i. unless (e i) w (q i))

row_passes : (back : Bool) (n i last : ℕ) (x : Problem) → i < n → Right back i last x
    → row_tested back n i last (record { number = x.number; edition = edition_byte x.board.terms.edition; place = body_place n i; length = 34 }) ≡ Ok tt
unfolding row_tested
row_passes back n i last x h r =
    unless_true _ _ _ (lt-ltb 0 x.number (omega (arith, r.above)))
    (unless_true _ _ _ (edition_ok x.board.terms.edition)
    (unless_true true Length _ refl
    (unless_true _ _ _ (lt-ltb last x.number r.above)
    (unless_true _ _ _ (le-leb (body_place n i + 34) (size_of n) (omega arith))
    (unless_true _ _ _ (le-leb (body_place n i) (body_place n i) (omega arith))
    (unless_true _ _ _ (le-leb (body_place n i) (body_place n i) (omega arith))
    (unless_true _ _ _ (back_ok back (eqb x.number (i + 1)) (λ e. eq-eqb _ _ (r.plain e).0))
    (unless_true _ _ _ (back_ok back (eqb (edition_byte x.board.terms.edition) 65) (λ e. eq-eqb _ _ (ap edition_byte (r.plain e).1))) refl))))))))

module _ (back : Bool) (v : List ℕ) (n : ℕ) (few : n < 65536) (size : length v ≡ size_of n) where
  -- the rows xs stand from the row i on, and u behind them
  step : (i : ℕ) (x : Problem) (xs : List Problem) (u : List ℕ) → drop (6 + 8 * i) v ≡ rows_of (body_place n i) (x ∷ xs) ++ u
      → drop (6 + 8 * i) v ≡ row_of x.number x.board.terms.edition (body_place n i) ++ (rows_of (body_place n (suc i)) xs ++ u)
  unfolding rows_of
  step i x xs u e =
      let z : body_place n i + 34 ≡ body_place n (suc i) = omega arith in
      e ∙ append_assoc (row_of x.number x.board.terms.edition (body_place n i)) (rows_of (body_place n i + 34) xs) u
      ∙ ap (λ (k : ℕ). row_of x.number x.board.terms.edition (body_place n i) ++ (rows_of k xs ++ u)) z

  next : (i : ℕ) (x : Problem) (xs : List Problem) (u : List ℕ) → drop (6 + 8 * i) v ≡ rows_of (body_place n i) (x ∷ xs) ++ u
      → drop (6 + 8 * suc i) v ≡ rows_of (body_place n (suc i)) xs ++ u
  next i x xs u e =
      let y : 6 + 8 * suc i ≡ 6 + 8 * i + 8 = omega arith in
      ap (λ (k : ℕ). drop k v) y ∙ sym (drop-drop 8 (6 + 8 * i) v) ∙ ap (drop 8) (step i x xs u e)

  pub entry_of : (i : ℕ) (x : Problem) (xs : List Problem) (u : List ℕ) → i < n → x.number < 65536 → drop (6 + 8 * i) v ≡ rows_of (body_place n i) (x ∷ xs) ++ u
      → row_at v i ≡ record { number = x.number; edition = edition_byte x.board.terms.edition; place = body_place n i; length = 34 }
  entry_of i x xs u h k e =
      entry_is v (rows_of (body_place n (suc i)) xs ++ u) (6 + 8 * i) x.number (body_place n i) x.board.terms.edition k (omega arith) (step i x xs u e)

  rows_pass : (i last : ℕ) (xs : List Problem) (u : List ℕ) → i + length xs ≤ n → number_before v i ≡ last → AllRight back i last xs
      → drop (6 + 8 * i) v ≡ rows_of (body_place n i) xs ++ u → (j : ℕ) → j < length xs → tested_at back v n (i + j) ≡ Ok tt
  rows_pass i last [] u h b a e j g = absurd (omega arith)
  rows_pass i last (x ∷ xs) u h b a e zero g =
      let z : i + 0 ≡ i = omega arith in
      subst (λ (k : ℕ). tested_at back v n k ≡ Ok tt) (sym z)
      ((λ k. row_tested back n i (b k) (entry_of i x xs u (omega arith) a.0.few e k)) ∙ row_passes back n i last x (omega arith) a.0)
  rows_pass i last (x ∷ xs) u h b a e (suc j) g =
      let z : suc i + j ≡ i + suc j = omega arith in
      let number : number_before v (suc i) ≡ x.number = ap (λ (r : Entry). r.number) (entry_of i x xs u (omega arith) a.0.few e) in
      subst (λ (k : ℕ). tested_at back v n k ≡ Ok tt) z
      (rows_pass (suc i) x.number xs u (omega arith) number a.1 (next i x xs u e) j (omega arith))

  -- the boards, whose bodies stand behind
  boards_there : (i last : ℕ) (xs : List Problem) (u : List ℕ) → i + length xs ≤ n → AllRight back i last xs → drop (6 + 8 * i) v ≡ rows_of (body_place n i) xs ++ u
      → drop (body_place n i) v ≡ bodies_of xs → Boards v n i (boards_of xs)
  unfolding boards_of bodies_of
  boards_there i last [] u h a e d = tt
  boards_there i last (x ∷ xs) u h a e d =
      let entry = entry_of i x xs u (omega arith) a.0.few e in
      let z : body_place n (suc i) ≡ body_place n i + 34 = omega arith in
      let l = bodied_length x.board in
      let body : bodied x.board ≡ body_at v n i = sym (ap (take 34) d ∙ take_at (bodied x.board) (bodies_of xs) 34 l) in (
        (record { edition = sym (ap (λ (r : Entry). r.edition) entry); body = subst (Embodies x.board.terms.edition x.board) body a.0.body }, a.0.passes),
        boards_there (suc i) x.number xs u (omega arith) a.1 (next i x xs u e)
            (ap (λ (k : ℕ). drop k v) z ∙ sym (drop-drop 34 (body_place n i) v) ∙ ap (drop 34) d ∙ drop_at (bodied x.board) (bodies_of xs) 34 l),
      )

  -- the problems are those that were written
  problems_there : (i last : ℕ) (xs : List Problem) (u : List ℕ) → i + length xs ≤ n → AllRight back i last xs → drop (6 + 8 * i) v ≡ rows_of (body_place n i) xs ++ u
      → problems_from v i (boards_of xs) ≡ xs
  unfolding boards_of problems_from
  problems_there i last [] u h a e = refl
  problems_there i last (x ∷ xs) u h a e =
      let number : (row_at v i).number ≡ x.number = ap (λ (r : Entry). r.number) (entry_of i x xs u (omega arith) a.0.few e) in
      (λ k. record { number = number k; board = x.board } ∷ problems_there (suc i) x.number xs u (omega arith) a.1 (next i x xs u e) k)

module _ (back : Bool) (xs : List Problem) (few : length xs < 65536) (a : AllRight back 0 0 xs) where
  split : volume_of xs ≡ head_of (length xs) ++ (rows_of (body_place (length xs) 0) xs ++ bodies_of xs)
  unfolding volume_of
  split = append_assoc (head_of (length xs)) (rows_of (body_place (length xs) 0) xs) (bodies_of xs)

  first_rows : drop (6 + 8 * 0) (volume_of xs) ≡ rows_of (body_place (length xs) 0) xs ++ bodies_of xs
  first_rows = let z : 6 + 8 * 0 ≡ 6 = omega arith in ap (λ (k : ℕ). drop k (volume_of xs)) z ∙ ap (drop 6) split

  first_body : drop (body_place (length xs) 0) (volume_of xs) ≡ bodies_of xs
  first_body =
      let z : body_place (length xs) 0 ≡ 6 + 8 * 0 + 8 * length xs = omega arith in
      ap (λ (k : ℕ). drop k (volume_of xs)) z ∙ sym (drop-drop (8 * length xs) (6 + 8 * 0) (volume_of xs)) ∙ ap (drop (8 * length xs)) first_rows
      ∙ drop_at (rows_of (body_place (length xs) 0) xs) (bodies_of xs) (8 * length xs) (rows_length (body_place (length xs) 0) xs)

  head_byte : (j x : ℕ) → get_or (head_of (length xs) ++ (rows_of (body_place (length xs) 0) xs ++ bodies_of xs)) j 0 ≡ x → get_or (volume_of xs) j 0 ≡ x
  head_byte j x e = ap (λ (l : List ℕ). get_or l j 0) split ∙ e

  count : problems (volume_of xs) ≡ length xs
  count =
      let x = head_byte 4 (length xs / 256 % 256) refl in
      let y : get_or (volume_of xs) (4 + 1) 0 ≡ length xs % 256 = head_byte 5 (length xs % 256) refl in
      omega arith

  head_passes : head_tested (volume_of xs) (length (volume_of xs)) ≡ Ok tt
  unfolding head_tested
  head_passes =
      unless_true _ _ _ (both (both (eq-eqb _ _ (head_byte 0 86 refl)) (eq-eqb _ _ (head_byte 1 79 refl))) (eq-eqb _ _ (head_byte 2 76 refl)))
      (unless_true _ _ _ (eq-eqb _ _ (head_byte 3 1 refl)) (unless_true _ _ _ (eq-eqb _ _ (volume_length xs ∙ ap size_of (sym count))) refl))

  all : length xs ≤ length xs
  all = omega arith

  pub made_whole : Whole back (volume_of xs) (length xs) (boards_of xs)
  made_whole =
      record {
        table = record {
          head = head_passes;
          count = count;
          rows = λ j h.
              let z : 0 + j ≡ j = omega arith in
              subst (λ (k : ℕ). tested_at back (volume_of xs) (length xs) k ≡ Ok tt) z
              (rows_pass back (volume_of xs) (length xs) few (volume_length xs) 0 0 xs (bodies_of xs) (omega arith) refl a first_rows j h);
        };
        boards = boards_there back (volume_of xs) (length xs) few (volume_length xs) 0 0 xs (bodies_of xs) (omega arith) a first_rows first_body;
        count = boards_length xs;
      }

  pub made_problems : problems_from (volume_of xs) 0 (boards_of xs) ≡ xs
  made_problems = problems_there back (volume_of xs) (length xs) few (volume_length xs) 0 0 xs (bodies_of xs) (omega arith) a first_rows
