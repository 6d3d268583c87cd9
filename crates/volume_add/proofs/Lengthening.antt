-- The parts of the longer volume are the volume of its problems.
use mathlib.Core.Path.{◌≡◌, refl, sym, ◌∙◌, ap}
use mathlib.Core.Bool.{false}
use mathlib.Core.List.{List, [], ◌∷◌, ◌++◌, append_assoc, append-nil}
use Prim.Native.Nat.{ℕ, suc, ◌+◌, ◌*◌, ◌≤◌}
use native.Mathlib.Omega.{arith}
use lib.ListN.{length, take, drop, length-append, length-drop}
use lib.Seq.{take_all, length-take-le, paste}
use Rattle.laws.specs.declared.Position.{Position}
use Rattle.men_field.specs.declared.Line.{Line}
use Rattle.men_field.specs.inner.Lines.{Holds}
use Rattle.volume_body.specs.Layout.{bodied}
use Rattle.volume_contents.specs.Layout.{head_of, row_of, body_place, size_of}
use Rattle.volume_contents.specs.Contents.{row_at}
use Rattle.volume_contents.specs.inner.Walks.{edition_of}
use Rattle.volume_contents.proofs.Sound.{size_of_lem}
use Rattle.volume_make.specs.Volumes.{Problem, rows_of, bodies_of, volume_of}
use Rattle.volume_make.specs.inner.Filling.{joined}
use Rattle.volume_make.proofs.Filling.{filled_more, filled_line, filled_none, joined_length}
use Rattle.volume_make.proofs.Sizes.{bodied_length, joined_front, volume_length}
use Rattle.volume_read.specs.Problems.{problems_from, problems_of}
use Rattle.volume_read.specs.Reading.{Boards, Whole}
use Rattle.volume_read.proofs.Boards.{edition_one}
use Rattle.volume_read.proofs.Tables.{edition_of_row}
use Rattle.volume_read.proofs.Bytes.{problems_length, bodies_of_lem}
use Rattle.volume_add.specs.Adding.{with}
use Rattle.volume_add.specs.inner.Longer.{carried, longer}

-- one problem more
rows_snoc : (place : ℕ) (xs : List Problem) (x : Problem) → rows_of place (xs ++ (x ∷ [])) ≡ rows_of place xs ++ row_of x.number x.board.terms.edition (place + 34 * length xs)
unfolding rows_of
rows_snoc place [] x =
    let z : place ≡ place + 34 * 0 = omega arith in
    append-nil (row_of x.number x.board.terms.edition place) ∙ ap (row_of x.number x.board.terms.edition) z
rows_snoc place (y ∷ xs) x =
    let z : place + 34 + 34 * length xs ≡ place + 34 * suc (length xs) = omega arith in
    let r = row_of y.number y.board.terms.edition place in
    ap (λ (l : List ℕ). r ++ l) (rows_snoc (place + 34) xs x ∙ ap (λ (k : ℕ). rows_of (place + 34) xs ++ row_of x.number x.board.terms.edition k) z)
    ∙ sym (append_assoc r (rows_of (place + 34) xs) (row_of x.number x.board.terms.edition (place + 34 * suc (length xs))))

bodies_snoc : (xs : List Problem) (x : Problem) → bodies_of (xs ++ (x ∷ [])) ≡ bodies_of xs ++ bodied x.board
unfolding bodies_of
bodies_snoc [] x = append-nil (bodied x.board)
bodies_snoc (y ∷ xs) x = ap (λ (l : List ℕ). bodied y.board ++ l) (bodies_snoc xs x) ∙ sym (append_assoc (bodied y.board) (bodies_of xs) (bodied x.board))

module _ (v : List ℕ) (n : ℕ) (ps : List Position) (w : Whole false v n ps) where
  -- the rows from k on, one place of eight bytes further on
  rows_carried : (k : ℕ) (qs : List Position) (f : ℕ → List ℕ) → k + length qs ≤ n → Boards v n k qs → ((i : ℕ) → f i ≡ carried v n (k + i))
      → rows_of (14 + 8 * n + 34 * k) (problems_from v k qs) ≡ joined f (length qs)
  unfolding rows_of problems_from joined
  rows_carried k [] f h b g = refl
  rows_carried k (p ∷ qs) f h b g =
      (λ i. row_of (row_at v k).number (edition i) (14 + 8 * n + 34 * k) ++ rows_of (next i) (problems_from v (suc k) qs))
      ∙ (λ i. first i ++ rows_carried (suc k) qs (λ j. f (suc j)) (omega arith) b.1 (λ j. g (suc j) ∙ ap (carried v n) (over j)) i)
      ∙ sym (joined_front f (length qs))
    where
      edition : p.terms.edition ≡ edition_of (row_at v k).edition
      edition = edition_one p.terms.edition (edition_of (row_at v k).edition) (b.0.0.edition ∙ sym (edition_of_row false v n w.table k (omega arith)))

      next : 14 + 8 * n + 34 * k + 34 ≡ 14 + 8 * n + 34 * suc k
      next = omega arith

      none : k ≡ k + 0
      none = omega arith

      first : carried v n k ≡ f 0
      first = ap (carried v n) none ∙ sym (g 0)

      over : (j : ℕ) → k + suc j ≡ suc k + j
      over j = omega arith

  pub longer_with : (k : ℕ) (p : Position) → longer v n k p ≡ with v ps k p
  unfolding volume_of
  longer_with k p =
      let x : Problem = record { number = k; board = p } in
      let xs = problems_of v ps in
      let c : length xs ≡ n = problems_length v 0 ps ∙ w.count in
      let m : n + 1 ≡ length (xs ++ (x ∷ [])) = omega (arith, length-append xs (x ∷ []), c) in
      let place : 14 + 8 * n + 34 * 0 ≡ body_place (length (xs ++ (x ∷ []))) 0 = omega (arith, m) in
      let last : 14 + 42 * n ≡ body_place (length (xs ++ (x ∷ []))) 0 + 34 * length xs = omega (arith, m, c) in
      let rows : joined (carried v n) n ≡ rows_of (body_place (length (xs ++ (x ∷ []))) 0) xs =
      ap (joined (carried v n)) (sym w.count) ∙ sym (rows_carried 0 ps (carried v n) (omega (arith, w.count)) w.boards (λ i. ap (carried v n) (over i)))
      ∙ ap (λ (j : ℕ). rows_of j xs) place in
      let bodies : take (34 * n) (drop (6 + 8 * n) v) ≡ bodies_of xs =
      take_all (34 * n) (drop (6 + 8 * n) v) (omega (arith, length-drop (6 + 8 * n) v, size_of_lem false v n w.table)) ∙ sym (bodies_of_lem false v n ps w) in
      (λ i. head_of (m i) ++ rows i ++ row_of k p.terms.edition (last i) ++ bodies i ++ bodied p)
      ∙ (λ i. append_assoc (head_of (length (xs ++ (x ∷ []))) ++ rows_of (body_place (length (xs ++ (x ∷ []))) 0) xs ++ row_of k p.terms.edition (body_place (length (xs ++ (x ∷ []))) 0 + 34 * length xs)) (bodies_of xs) (bodied p) i)
      ∙ (λ i. append_assoc (head_of (length (xs ++ (x ∷ [])))) (rows_of (body_place (length (xs ++ (x ∷ []))) 0) xs) (row_of k p.terms.edition (body_place (length (xs ++ (x ∷ []))) 0 + 34 * length xs)) i ++ (bodies_of xs ++ bodied p))
      ∙ (λ i. (head_of (length (xs ++ (x ∷ []))) ++ sym (rows_snoc (body_place (length (xs ++ (x ∷ []))) 0) xs x) i) ++ sym (bodies_snoc xs x) i)
    where
      over : (i : ℕ) → i ≡ 0 + i
      over i = omega arith

  pub with_length : (k : ℕ) (p : Position) → length (with v ps k p) ≡ 48 + 42 * n
  with_length k p =
      let xs = problems_of v ps in
      volume_length (xs ++ (record { number = k; board = p } ∷ [])) ∙ omega (arith, length-append xs (record { number = k; board = p } ∷ []), problems_length v 0 ps, w.count)

-- the parts written one behind the other
pub longer_in : (v o a b c d x : List ℕ) (n k : ℕ) (p : Position) (h r l : Line) → length v ≡ size_of n → 48 + 42 * n ≤ length o → Holds h (head_of (n + 1)) → a ≡ paste o 0 h.bytes h.len
    → b ≡ take 6 a ++ joined (carried v n) n ++ drop (6 + 8 * n) a → Holds r (row_of k p.terms.edition (14 + 42 * n)) → c ≡ paste b (6 + 8 * n) r.bytes r.len
    → d ≡ paste c (14 + 8 * n) (drop (6 + 8 * n) v) (34 * n) → Holds l (bodied p) → x ≡ paste d (14 + 42 * n) l.bytes l.len → x ≡ longer v n k p ++ drop (48 + 42 * n) o
longer_in v o a b c d x n k p h r l size room eh ea eb er ec ed el ex =
    let jl : length (joined (carried v n) n) ≡ 8 * n = joined_length (carried v n) 8 (λ i. refl) n in
    let tl : length (take (34 * n) (drop (6 + 8 * n) v)) ≡ 34 * n = length-take-le (34 * n) (drop (6 + 8 * n) v) (omega (arith, length-drop (6 + 8 * n) v, size)) in
    let p1 = head_of (n + 1) in
    let p2 = p1 ++ joined (carried v n) n in
    let row = row_of k p.terms.edition (14 + 42 * n) in
    let p3 = p2 ++ row in
    let p4 = p3 ++ take (34 * n) (drop (6 + 8 * n) v) in
    let l2 : length p2 ≡ 6 + 8 * n = omega (arith, length-append p1 (joined (carried v n) n), jl) in
    let l3 : length p3 ≡ 14 + 8 * n = omega (arith, length-append p2 row, l2) in
    let l4 : length p4 ≡ 14 + 42 * n = omega (arith, length-append p3 (take (34 * n) (drop (6 + 8 * n) v)), l3, tl) in
    let l5 : length (p4 ++ bodied p) ≡ 48 + 42 * n = omega (arith, length-append p4 (bodied p), l4, bodied_length p) in
    let f1 = filled_line {y = a} h 0 (filled_none o) refl eh (omega arith) ea in
    let f2 = filled_more {y = b} (joined (carried v n) n) 6 (8 * n) f1 refl jl (omega arith) eb in
    let f3 = filled_line {y = c} r (6 + 8 * n) f2 (sym l2) er (omega arith) ec in
    let f4 = filled_more {y = d} (take (34 * n) (drop (6 + 8 * n) v)) (14 + 8 * n) (34 * n) f3 (sym l3) tl (omega arith) ed in
    let f5 = filled_line {y = x} l (14 + 42 * n) f4 (sym l4) el (omega (arith, bodied_length p)) ex in
    f5.holds ∙ ap (λ (j : ℕ). (p4 ++ bodied p) ++ drop j o) l5
