-- The lenient reader's walk gives back whatever the printer wrote.
use mathlib.Core.Path.{◌≡◌, refl, sym, ◌∙◌, ap, ap₂, fun_ext}
use mathlib.Core.Bool.{Bool, true, false, cond}
use mathlib.Core.List.{List, [], ◌∷◌, ◌++◌, append_assoc, append-nil}
use mathlib.Core.Logic.{⊎_elim}
use Prim.Native.Nat.{ℕ, zero, suc, ◌+◌, ◌-◌, ◌*◌, ◌/◌, ◌%◌, ◌≤◌, ◌<◌}
use native.Mathlib.Omega.{arith}
use native.Mathlib.Numerals.{add-one}
use lib.Dec.{eqb, leb, ltb}
use lib.ListN.{length, get_or, drop, set, replicate, length-append, length-replicate, replicate-append-replicate, get_or-append}
use lib.Seq.{set-append_seam, append_snoc, drop-cons, drop-length, get_or-append-add}
use borrow.Author.Tests.{lt-leb, ne_eqb, eqb-true, leb-true, ltb-true, ltb-false}
use Rattle.squares.specs.Tests.{◌and◌}
use Rattle.squares.specs.Squares.{all_to, file, rank}
use Rattle.geometry.specs.declared.Color.{Color}
use Rattle.geometry.specs.declared.Color.TheVariants.{White, Black}
use Rattle.laws.specs.declared.Piece.{Piece}
use Rattle.laws.specs.declared.CastleRights.{CastleRights}
use Rattle.laws.specs.declared.CastleRights.TheVariants.{NoRights, KingSide, QueenSide, Both}
use Rattle.laws.specs.declared.EnPassantFlag.{EnPassantFlag}
use Rattle.laws.specs.declared.EnPassantFlag.TheVariants.{Any, Some, None}
use Rattle.laws.specs.Men.{Man, empty, man, Men, man_number, is_empty}
use Rattle.men_field.specs.Placement.{letter_of, flush_of, run_text, squares_from, rank_text, ranks_text, men_text, byte_of}
use Rattle.men_field.specs.inner.Letters.{number_by_letter, width_of, place_of, man_by_number, men_by_numbers}
use Rattle.position_text.specs.declared.Scan.{Scan}
use Rattle.position_text.specs.Form.{turn_byte, rights_text, state_text, tail_text, print_of, StateFits}
use Rattle.position_text.specs.inner.Reading.{right_of, square_of, with_man, step_men, step_tail, step_of, start_of, run_of, turn_of, side_of, flag_of}
use Rattle.squares.proofs.Testing.{left, right, order}
use Rattle.squares.proofs.Every.{all_at}
use Rattle.laws.proofs.Cases.{by_men}
use Rattle.laws.proofs.ManSets.{OnBoard}
use Rattle.men_field.proofs.Adding.{length_squares}
use Rattle.men_field.proofs.Belonging.{man_back}

pub run_append : (a b : List ℕ) (s : Scan) → run_of s (a ++ b) ≡ run_of (run_of s a) b
unfolding run_of
run_append [] b s = refl
run_append (x ∷ a) b s = run_append a b (step_of s x)

pub run_step : (s : Scan) (t : List ℕ) (i : ℕ) → i < length t → run_of (step_of s (get_or t i 0)) (drop (i + 1) t) ≡ run_of s (drop i t)
unfolding run_of
run_step s t i h = rw (add-one i, drop-cons t i 0 h)

pub run_done : (s : Scan) (t : List ℕ) (i : ℕ) → i ≡ length t → run_of s (drop i t) ≡ s
unfolding run_of
run_done s t i e = rw (e, drop-length)

-- the state in which the numbers p are read
abbrev st : List ℕ → ℕ → Scan
st l n = record { men = l; at = n; field = 0; turn = 0; rights = 0; square = 0 }

abbrev mid : List ℕ → Scan
mid p = st (p ++ replicate (64 - length p) 0) (length p)

-- a byte that is no space stands for w squares, the first of them the man of the number m
record Is (b m w : ℕ) : Type 0 where
  other : eqb b 32 ≡ false
  man : number_by_letter b ≡ m
  wide : width_of b ≡ w

is_b : ℕ → ℕ → ℕ → Bool
is_b b m w = eqb (number_by_letter b) m and eqb (width_of b) w and leb 33 b

is_of : (b m w : ℕ) → is_b b m w ≡ true → Is b m w
unfolding is_b
is_of b m w t =
    record {
      other = ne_eqb b 32 (λ e. omega (arith, leb-true 33 b (right _ _ t)));
      man = eqb-true (number_by_letter b) m (left _ _ (left _ _ t));
      wide = eqb-true (width_of b) w (right _ _ (left _ _ t));
    }

is_letter : (c : Color) (k : Piece) → Is (letter_of c k) (man_number (man c k)) 1
unfolding is_b number_by_letter width_of ◌and◌
is_letter c k = is_of _ _ _ (by_men (λ x. cond (is_empty x) true (is_b (byte_of x) (man_number x) 1)) refl (man c k))

is_digit : (n : ℕ) → n < 8 → Is (48 + suc n) 0 (suc n)
unfolding is_b number_by_letter width_of all_to ◌and◌
is_digit n h = is_of (48 + suc n) 0 (suc n) (all_at 8 (λ k. is_b (48 + suc k) 0 (suc k)) refl n h)

is_slash : Is 47 0 0
unfolding is_b number_by_letter width_of ◌and◌
is_slash = is_of 47 0 0 refl

step_is : (p : List ℕ) {b m w : ℕ} → length p < 64 → Is b m w → step_of (mid p) b ≡ with_man (mid p) m w
unfolding step_of step_men
step_is p h i = simp (i.other, i.man, i.wide, lt-leb _ _ h)

zeros : (p : List ℕ) (m : ℕ) → length p < 64 → set (p ++ replicate (64 - length p) 0) (length p) m ≡ p ++ m ∷ replicate (64 - (length p + 1)) 0
zeros p m h =
    let e : 64 - length p ≡ suc (64 - (length p + 1)) = omega arith in
    rw (e, set-append_seam)

read_man : (p : List ℕ) (c : Color) (k : Piece) → length p < 64 → step_of (mid p) (letter_of c k) ≡ mid (p ++ (man_number (man c k) ∷ []))
read_man p c k h =
    let m = man_number (man c k) in
    let l = length-append p (m ∷ []) in
    step_is p h (is_letter c k)
    ∙ ap₂ st (zeros p m h ∙ (rw (l, append_snoc))) (sym l)

left_over : (a n : ℕ) → a + suc n ≤ 64 → suc (64 - (a + 1)) ≡ suc n + (64 - (a + suc n))
left_over a n h = omega arith

read_digit : (p : List ℕ) (n : ℕ) → n < 8 → length p + suc n ≤ 64 → step_of (mid p) (48 + suc n) ≡ mid (p ++ replicate (suc n) 0)
read_digit p n h k =
    let l : length (p ++ replicate (suc n) 0) ≡ length p + suc n = length-append p (replicate (suc n) 0) ∙ ap (λ (x : ℕ). length p + x) (length-replicate (suc n) 0) in
    step_is p (omega arith) (is_digit n h)
    ∙ ap₂ st
    (zeros p 0 (omega arith) ∙ ap (λ (x : ℕ). p ++ replicate x 0) (left_over (length p) n k)
    ∙ ap (λ (x : List ℕ). p ++ x) (sym (replicate-append-replicate (suc n) (64 - (length p + suc n)) 0))
    ∙ sym (append_assoc p (replicate (suc n) 0) (replicate (64 - (length p + suc n)) 0))
    ∙ ap (λ (x : ℕ). (p ++ replicate (suc n) 0) ++ replicate (64 - x) 0) (sym l))
    (sym l)

read_slash : (p : List ℕ) → length p < 64 → step_of (mid p) 47 ≡ mid p
read_slash p h =
    let e : suc (64 - (length p + 1)) ≡ 64 - length p = omega arith in
    step_is p h is_slash ∙ ap₂ st (zeros p 0 h ∙ ap (λ (x : ℕ). p ++ replicate x 0) e) (omega arith)

-- the numbers of men
pub numbers : List Man → List ℕ
numbers [] = []
numbers (x ∷ xs) = man_number x ∷ numbers xs

numbers_append : (xs ys : List Man) → numbers (xs ++ ys) ≡ numbers xs ++ numbers ys
unfolding numbers
numbers_append [] ys = refl
numbers_append (x ∷ xs) ys = ap (λ (l : List ℕ). man_number x ∷ l) (numbers_append xs ys)

length_numbers : (xs : List Man) → length (numbers xs) ≡ length xs
unfolding numbers
length_numbers [] = refl
length_numbers (x ∷ xs) = ap suc (length_numbers xs)

-- a rank: a run, and then squares
read_flush : (n : ℕ) (p t : List ℕ) → n < 9 → length p + n ≤ 64 → run_of (mid p) (flush_of n t) ≡ run_of (mid (p ++ replicate n 0)) t
unfolding run_of
read_flush zero p t h k = rw append-nil
read_flush (suc n) p t h k = ap (λ (s : Scan). run_of s t) (read_digit p n (omega arith) k)

replicate_more : (n : ℕ) (l : List ℕ) → replicate (suc n) 0 ++ l ≡ replicate n 0 ++ (0 ∷ l)
replicate_more zero l = refl
replicate_more (suc n) l = ap (λ (x : List ℕ). 0 ∷ x) (replicate_more n l)

regroup : (p q l : List ℕ) (x : ℕ) → ((p ++ q) ++ (x ∷ [])) ++ l ≡ p ++ (q ++ (x ∷ l))
regroup p q l x = simp append_assoc

read_run : (xs : List Man) (n : ℕ) (p : List ℕ) → n + length xs < 9 → length p + (n + length xs) ≤ 64
    → run_of (mid p) (run_text n xs) ≡ mid (p ++ (replicate n 0 ++ numbers xs))
unfolding run_text run_of numbers
read_run [] n p h k = read_flush n p [] (omega arith) (omega arith) ∙ (rw (append-nil {A = ℕ} (replicate n 0)))
read_run (empty ∷ xs) n p h k = read_run xs (suc n) p (omega arith) (omega arith) ∙ ap (λ (l : List ℕ). mid (p ++ l)) (replicate_more n (numbers xs))
read_run (man c x ∷ xs) n p h k =
    let l : length (p ++ replicate n 0) ≡ length p + n = length-append p (replicate n 0) ∙ ap (λ (y : ℕ). length p + y) (length-replicate n 0) in
    let m = man_number (man c x) in
    read_flush n p (letter_of c x ∷ run_text 0 xs) (omega arith) (omega arith)
    ∙ ap (λ (s : Scan). run_of s (run_text 0 xs)) (read_man (p ++ replicate n 0) c x (omega arith))
    ∙ read_run xs 0 ((p ++ replicate n 0) ++ (m ∷ [])) (omega arith) (omega (arith, length-append (p ++ replicate n 0) (m ∷ [])))
    ∙ ap mid (regroup p (replicate n 0) (numbers xs) m)

-- the squares of the r lowest ranks, in the text's order
pub rows : Men → ℕ → List Man
rows m zero = []
rows m (suc r) = squares_from m 8 (8 * r) ++ rows m r

rows_more : (m : Men) (r : ℕ) → numbers (rows m (suc r)) ≡ numbers (squares_from m 8 (8 * r)) ++ numbers (rows m r)
unfolding rows
rows_more m r = numbers_append (squares_from m 8 (8 * r)) (rows m r)

eight : (m : Men) (r : ℕ) → length (numbers (squares_from m 8 (8 * r))) ≡ 8
eight m r = length_numbers (squares_from m 8 (8 * r)) ∙ length_squares m 8 (8 * r)

length_rows : (m : Men) (r : ℕ) → length (numbers (rows m r)) ≡ 8 * r
unfolding rows numbers
length_rows m zero = refl
length_rows m (suc r) =
    ap length (rows_more m r) ∙ length-append (numbers (squares_from m 8 (8 * r))) (numbers (rows m r)) ∙ omega (arith, eight m r, length_rows m r)

read_rank : (m : Men) (r : ℕ) (p : List ℕ) → length p + 8 ≤ 64 → run_of (mid p) (rank_text m r) ≡ mid (p ++ numbers (squares_from m 8 (8 * r)))
read_rank m r p h =
    let l = length_squares m 8 (8 * r) in
    read_run (squares_from m 8 (8 * r)) 0 p (omega (arith, l)) (omega (arith, l))

read_ranks : (m : Men) (r : ℕ) (p : List ℕ) → length p + 8 * r ≡ 64 → run_of (mid p) (ranks_text m r) ≡ mid (p ++ numbers (rows m r))
unfolding ranks_text run_of rows numbers
read_ranks m zero p h = rw append-nil
read_ranks m (suc r) p h =
    let q = p ++ numbers (squares_from m 8 (8 * r)) in
    ap (λ (s : Scan). run_of s (rank_text m r ++ ranks_text m r)) (read_slash p (omega arith))
    ∙ run_append (rank_text m r) (ranks_text m r) (mid p)
    ∙ ap (λ (s : Scan). run_of s (ranks_text m r)) (read_rank m r p (omega arith))
    ∙ read_ranks m r (p ++ numbers (squares_from m 8 (8 * r))) (omega (arith, eight m r, length-append p (numbers (squares_from m 8 (8 * r)))))
    ∙ ap mid (append_assoc p (numbers (squares_from m 8 (8 * r))) (numbers (rows m r)) ∙ ap (λ (l : List ℕ). p ++ l) (sym (rows_more m r)))

abbrev pub board : Men → List ℕ
board m = numbers (rows m 8)

read_men : (m : Men) → run_of start_of (men_text m) ≡ st (board m) 64
unfolding men_text
read_men m =
    run_append (rank_text m 7) (ranks_text m 7) (mid [])
    ∙ ap (λ (s : Scan). run_of s (ranks_text m 7)) (read_rank m 7 [] (omega arith))
    ∙ read_ranks m 7 (numbers (squares_from m 8 (8 * 7))) (omega (arith, eight m 7))
    ∙ ap mid (sym (rows_more m 7))
    ∙ simp (length_rows m 8, append-nil)

-- the number on a square
squares_at : (m : Men) (n i f : ℕ) → f < n → get_or (numbers (squares_from m n i)) f 0 ≡ man_number (m (i + f))
unfolding squares_from numbers
squares_at m zero i f h = absurd (omega arith)
squares_at m (suc n) i zero h = ap (λ (k : ℕ). man_number (m k)) (omega arith)
squares_at m (suc n) i (suc f) h = squares_at m n (suc i) f (omega arith) ∙ ap (λ (k : ℕ). man_number (m k)) (omega arith)

row_at : (m : Men) (n r f : ℕ) → r < n → f < 8 → get_or (numbers (rows m n)) (8 * (n - suc r) + f) 0 ≡ man_number (m (8 * r + f))
row_at m zero r f h k = absurd (omega arith)
row_at m (suc n) r f h k =
    ap (λ (l : List ℕ). get_or l (8 * (suc n - suc r) + f) 0) (rows_more m n) ∙ ⊎_elim (λ q. lower q (row_at m n r f q k)) top (order r n)
  where
    lower : r < n → get_or (numbers (rows m n)) (8 * (n - suc r) + f) 0 ≡ man_number (m (8 * r + f))
        → get_or (numbers (squares_from m 8 (8 * n)) ++ numbers (rows m n)) (8 * (suc n - suc r) + f) 0 ≡ man_number (m (8 * r + f))
    lower q w =
        let e : 8 * (suc n - suc r) + f ≡ length (numbers (squares_from m 8 (8 * n))) + (8 * (n - suc r) + f) = omega (arith, eight m n) in
        ap (λ (i : ℕ). get_or (numbers (squares_from m 8 (8 * n)) ++ numbers (rows m n)) i 0) e
        ∙ get_or-append-add (numbers (squares_from m 8 (8 * n))) (numbers (rows m n)) (8 * (n - suc r) + f) 0
        ∙ w

    top : n ≤ r → get_or (numbers (squares_from m 8 (8 * n)) ++ numbers (rows m n)) (8 * (suc n - suc r) + f) 0 ≡ man_number (m (8 * r + f))
    top q =
        let e : 8 * (suc n - suc r) + f ≡ f = omega arith in
        let g : n ≡ r = omega arith in
        ap (λ (i : ℕ). get_or (numbers (squares_from m 8 (8 * n)) ++ numbers (rows m n)) i 0) e
        ∙ get_or-append (numbers (squares_from m 8 (8 * n))) (numbers (rows m n)) 0 f (omega (arith, eight m n))
        ∙ squares_at m 8 (8 * n) f k
        ∙ ap (λ (i : ℕ). man_number (m (8 * i + f))) g

pub men_back : (m : Men) → OnBoard m → men_by_numbers (board m) ≡ m
unfolding men_by_numbers place_of
men_back m on = fun_ext λ k. go k (ltb k 64) refl
  where
    there : (k : ℕ) → k < 64 → get_or (board m) (8 * (7 - rank k) + file k) 0 ≡ man_number (m k)
    there k h =
        let e : 7 - rank k ≡ 8 - suc (rank k) = omega arith in
        let f : 8 * rank k + file k ≡ k = omega arith in
        ap (λ (i : ℕ). get_or (board m) (8 * i + file k) 0) e ∙ row_at m 8 (rank k) (file k) (omega arith) (omega arith) ∙ ap (λ (i : ℕ). man_number (m i)) f

    go : (k : ℕ) (t : Bool) → ltb k 64 ≡ t → cond t (man_by_number (get_or (board m) (8 * (7 - rank k) + file k) 0)) empty ≡ m k
    go k true e = ap man_by_number (there k (ltb-true k 64 e)) ∙ man_back (m k)
    go k false e = sym (on k (ltb-false k 64 e))

-- the three fields after the men
abbrev pub full : List ℕ → ℕ → ℕ → ℕ → ℕ → ℕ → Scan
full l n f t r q = record { men = l; at = n; field = f; turn = t; rights = r; square = q }

abbrev pub code : CastleRights → ℕ
code NoRights = 0
code KingSide = 1
code QueenSide = 2
code Both = 3

abbrev pub number : EnPassantFlag → ℕ
number Any = 65
number (Some s) = s
number None = 64

module _ (l : List ℕ) (n : ℕ) where
  read_turn : (c : Color) (t : List ℕ) → run_of (st l n) (32 ∷ turn_byte c ∷ 32 ∷ t) ≡ run_of (full l n 2 (turn_byte c) 0 0) t
  unfolding run_of step_of step_tail
  read_turn White t = refl
  read_turn Black t = refl

  read_rights : (b : ℕ) (w k : CastleRights) → run_of (full l n 2 b 0 0) (rights_text w k) ≡ full l n 2 b (code w + 4 * code k) 0
  unfolding run_of step_of step_tail right_of
  read_rights b NoRights NoRights = refl
  read_rights b NoRights KingSide = refl
  read_rights b NoRights QueenSide = refl
  read_rights b NoRights Both = refl
  read_rights b KingSide NoRights = refl
  read_rights b KingSide KingSide = refl
  read_rights b KingSide QueenSide = refl
  read_rights b KingSide Both = refl
  read_rights b QueenSide NoRights = refl
  read_rights b QueenSide KingSide = refl
  read_rights b QueenSide QueenSide = refl
  read_rights b QueenSide Both = refl
  read_rights b Both NoRights = refl
  read_rights b Both KingSide = refl
  read_rights b Both QueenSide = refl
  read_rights b Both Both = refl

  read_byte : (b r q x : ℕ) → (x ≡ 32 → ⊥) → step_of (full l n 3 b r q) x ≡ full l n 3 b r (square_of q x)
  unfolding step_of step_tail
  read_byte b r q x h = simp (ne_eqb _ _ h)

square_back : (s : ℕ) → s < 64 → square_of (square_of 0 (97 + file s)) (49 + rank s) ≡ s
unfolding square_of all_to ◌and◌
square_back s h = eqb-true _ _ (all_at 64 (λ k. eqb (square_of (square_of 0 (97 + file k)) (49 + rank k)) k) refl s h)

read_state : (l : List ℕ) (n b r : ℕ) (e : EnPassantFlag) → StateFits e → run_of (full l n 2 b r 0) (32 ∷ state_text e) ≡ full l n 3 b r (number e)
unfolding run_of step_of step_tail square_of
read_state l n b r Any h = refl
read_state l n b r None h = refl
read_state l n b r (Some s) h =
    ap (λ (z : Scan). step_of z (49 + rank s)) (read_byte l n b r 0 (97 + file s) (λ e. omega arith))
    ∙ read_byte l n b r (square_of 0 (97 + file s)) (49 + rank s) (λ e. omega arith)
    ∙ ap (full l n 3 b r) (square_back s h)

pub turn_back : (c : Color) → turn_of (turn_byte c) ≡ c
turn_back White = refl
turn_back Black = refl

pub rights_back : (w k : CastleRights) → (side_of ((code w + 4 * code k) % 4) ≡ w) × (side_of ((code w + 4 * code k) / 4) ≡ k)
rights_back NoRights NoRights = (refl, refl)
rights_back NoRights KingSide = (refl, refl)
rights_back NoRights QueenSide = (refl, refl)
rights_back NoRights Both = (refl, refl)
rights_back KingSide NoRights = (refl, refl)
rights_back KingSide KingSide = (refl, refl)
rights_back KingSide QueenSide = (refl, refl)
rights_back KingSide Both = (refl, refl)
rights_back QueenSide NoRights = (refl, refl)
rights_back QueenSide KingSide = (refl, refl)
rights_back QueenSide QueenSide = (refl, refl)
rights_back QueenSide Both = (refl, refl)
rights_back Both NoRights = (refl, refl)
rights_back Both KingSide = (refl, refl)
rights_back Both QueenSide = (refl, refl)
rights_back Both Both = (refl, refl)

pub flag_back : (e : EnPassantFlag) → StateFits e → flag_of (number e) ≡ e
flag_back Any h = refl
flag_back None h = refl
flag_back (Some s) h =
    let q : s % 64 ≡ s = omega arith in
    simp (ne_eqb s 64 (λ e. omega arith), ne_eqb s 65 (λ e. omega arith), q)

read_tail : (l : List ℕ) (n : ℕ) (c : Color) (w k : CastleRights) (e : EnPassantFlag) → StateFits e
    → run_of (st l n) (tail_text c w k e) ≡ full l n 3 (turn_byte c) (code w + 4 * code k) (number e)
read_tail l n c w k e h =
    read_turn l n c (rights_text w k ++ (32 ∷ state_text e))
    ∙ run_append (rights_text w k) (32 ∷ state_text e) (full l n 2 (turn_byte c) 0 0)
    ∙ ap (λ (s : Scan). run_of s (32 ∷ state_text e)) (read_rights l n (turn_byte c) w k)
    ∙ read_state l n (turn_byte c) (code w + 4 * code k) e h

-- a whole text
pub read_text : (m : Men) (c : Color) (w k : CastleRights) (e : EnPassantFlag) → StateFits e
    → run_of start_of (print_of m c w k e) ≡ full (board m) 64 3 (turn_byte c) (code w + 4 * code k) (number e)
unfolding print_of
read_text m c w k e h =
    run_append (men_text m) (tail_text c w k e) start_of
    ∙ ap (λ (s : Scan). run_of s (tail_text c w k e)) (read_men m)
    ∙ read_tail (board m) 64 c w k e h
