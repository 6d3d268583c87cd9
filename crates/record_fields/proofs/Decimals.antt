-- Decimal digits: each number's are its own, without leading zeros, and the walk over them reads the number.
use mathlib.Core.Path.{◌≡◌, refl, sym, ◌∙◌, ap, ap₂, subst}
use mathlib.Core.Bool.{Bool, true, false, cond}
use mathlib.Core.List.{List, [], ◌∷◌, ◌++◌, append_assoc, append-nil}
use Prim.Native.Nat.{ℕ, zero, suc, ◌+◌, ◌-◌, ◌*◌, ◌/◌, ◌%◌, ◌≤◌, ◌<◌, min}
use native.Mathlib.Omega.{arith}
use native.Mathlib.Numerals.{add-one}
use lib.Dec.{eqb, ltb}
use lib.ListN.{length, get_or, drop}
use lib.Seq.{drop-cons, drop-length}
use borrow.Author.Tests.{lt-ltb, le-ltb, ltb-true, ltb-false, ne_eqb, eqb-true, eqb-false}
use Rattle.io.specs.Digits.{hex_digit_ascii}
use Rattle.rows.specs.Rows.{decimal_in, decimal_of}
use Rattle.record_fields.specs.inner.Counting.{Counted, counted, uncounted, count_step, count_run}

-- more steps than there are digits change nothing
by_same : (k j n : ℕ) → n < k → n < j → decimal_in k n ≡ decimal_in j n
unfolding decimal_in
by_same zero j n h i = absurd (omega arith)
by_same (suc k) zero n h i = absurd (omega arith)
by_same (suc k) (suc j) n h i = go (ltb n 10) refl λ z. by_same k j (n / 10) (omega arith) (omega arith)
  where
    go : (x : Bool) → ltb n 10 ≡ x → (10 ≤ n → decimal_in k (n / 10) ≡ decimal_in j (n / 10))
        → cond x (hex_digit_ascii n ∷ []) (decimal_in k (n / 10) ++ (hex_digit_ascii (n % 10) ∷ [])) ≡ cond x (hex_digit_ascii n ∷ []) (decimal_in j (n / 10) ++ (hex_digit_ascii (n % 10) ∷ []))
    go true e f = refl
    go false e f = ap (λ (l : List ℕ). l ++ (hex_digit_ascii (n % 10) ∷ [])) (f (ltb-false n 10 e))

-- a number below 10 is one digit, and the last digit of another stands behind those of n / 10
pub dec_one : (n : ℕ) → n < 10 → decimal_of n ≡ (48 + n) ∷ []
unfolding decimal_in
dec_one n h = simp (lt-ltb n 10 h)

pub dec_more : (n : ℕ) → 10 ≤ n → decimal_of n ≡ decimal_of (n / 10) ++ ((48 + n % 10) ∷ [])
unfolding decimal_in
dec_more n h =
    let k : n % 10 < 10 = omega arith in
    simp (le-ltb n 10 h, lt-ltb (n % 10) 10 k) (ap (λ (l : List ℕ). l ++ ((48 + n % 10) ∷ [])) (by_same n (suc (n / 10)) (n / 10) (omega arith) (omega arith)))

pub dec_snoc : (v d : ℕ) → 0 < v → d < 10 → decimal_of (10 * v + d) ≡ decimal_of v ++ ((48 + d) ∷ [])
dec_snoc v d h k =
    let q : (10 * v + d) / 10 ≡ v = omega arith in
    let m : (10 * v + d) % 10 ≡ d = omega arith in
    dec_more (10 * v + d) (omega arith) ∙ ap₂ (λ (a b : ℕ). decimal_of a ++ ((48 + b) ∷ [])) q m

-- the value of digits, from one that stands in front
val : ℕ → List ℕ → ℕ
val v [] = v
val v (b ∷ t) = val (10 * v + (b - 48)) t

val_snoc : (v : ℕ) (t : List ℕ) (b : ℕ) → val v (t ++ (b ∷ [])) ≡ 10 * val v t + (b - 48)
unfolding val
val_snoc v [] b = refl
val_snoc v (x ∷ t) b = val_snoc (10 * v + (x - 48)) t b

-- by the number of divisions: what holds of one digit, and of n by what holds of n / 10
by_digits : (P : ℕ → Type 0) → ((n : ℕ) → n < 10 → P n) → ((n : ℕ) → 10 ≤ n → P (n / 10) → P n) → (n : ℕ) → P n
by_digits P one more n = go (suc n) n (omega arith)
  where
    at : (n : ℕ) (x : Bool) → ltb n 10 ≡ x → (10 ≤ n → P (n / 10)) → P n
    at n true e f = one n (ltb-true n 10 e)
    at n false e f = more n (ltb-false n 10 e) (f (ltb-false n 10 e))

    go : (k n : ℕ) → n < k → P n
    go zero n h = absurd (omega arith)
    go (suc k) n h = at n (ltb n 10) refl λ z. go k (n / 10) (omega arith)

dec_val : (n : ℕ) → val 0 (decimal_of n) ≡ n
unfolding val
dec_val =
    by_digits (λ n. val 0 (decimal_of n) ≡ n) (λ n h. ap (val 0) (dec_one n h) ∙ omega arith)
    (λ n h e. ap (val 0) (dec_more n h) ∙ val_snoc 0 (decimal_of (n / 10)) (48 + n % 10) ∙ omega arith)

-- no two numbers have the same digits
pub dec_same : (m n : ℕ) → decimal_of m ≡ decimal_of n → m ≡ n
dec_same m n e = sym (dec_val m) ∙ ap (val 0) e ∙ dec_val n

-- every byte is a digit
unfoldable pub Digits : List ℕ → Type 0
Digits [] = Unit {0}
Digits (b ∷ t) = (48 ≤ b) × (b ≤ 57) × Digits t

pub digits_append : (s t : List ℕ) → Digits s → Digits t → Digits (s ++ t)
unfolding Digits
digits_append [] t p q = q
digits_append (b ∷ s) t p q = (p.0, p.1, digits_append s t p.2 q)

pub digits_behind : (s t : List ℕ) → Digits (s ++ t) → Digits t
unfolding Digits
digits_behind [] t p = p
digits_behind (b ∷ s) t p = digits_behind s t p.2

pub dec_digits : (n : ℕ) → Digits (decimal_of n)
unfolding Digits
dec_digits =
    by_digits (λ n. Digits (decimal_of n)) (λ n h. rw (dec_one n h) (omega arith, omega arith, tt))
    (λ n h e. rw (dec_more n h) (digits_append (decimal_of (n / 10)) ((48 + n % 10) ∷ []) e (omega arith, omega arith, tt)))

-- the first digit of a number that is not 0
Lead : List ℕ → Type 0
Lead [] = ⊥
Lead (b ∷ t) = 48 < b

lead_append : (s t : List ℕ) → Lead s → Lead (s ++ t)
unfolding Lead
lead_append [] t p = absurd p
lead_append (b ∷ s) t p = p

dec_lead : (n : ℕ) → 0 < n → Lead (decimal_of n)
unfolding Lead
dec_lead =
    by_digits (λ n. 0 < n → Lead (decimal_of n)) (λ n h z. rw (dec_one n h) (omega arith))
    (λ n h e z. rw (dec_more n h) (lead_append (decimal_of (n / 10)) ((48 + n % 10) ∷ []) (e (omega arith))))

dec_some : (n : ℕ) → decimal_of n ≡ [] → ⊥
unfolding val
dec_some n e =
    let z : n ≡ 0 = sym (dec_val n) ∙ ap (val 0) e in
    let d = dec_one n (omega arith) in
    let w : ◌≡◌ {A = ℕ} 0 1 = cc in omega arith

-- a 0 in front is the whole number
dec_zero : (n b : ℕ) (t : List ℕ) → decimal_of n ≡ 48 ∷ b ∷ t → ⊥
unfolding Lead
dec_zero zero b t e = let d = dec_one 0 (omega arith) in let w : ◌≡◌ {A = ℕ} 0 1 = cc in omega arith
dec_zero (suc n) b t e = let h : Lead (48 ∷ b ∷ t) = subst Lead e (dec_lead (suc n) (omega arith)) in omega (arith, h)

-- the walk over bytes of which one is no digit
run_bad : (t : List ℕ) → count_run 10002 t ≡ 10002
unfolding count_run count_step
run_bad [] = refl
run_bad (b ∷ t) = run_bad t

Other : ℕ → Type 0
Other b = (48 ≤ b → b ≤ 57 → ⊥)

other_step : (s b : ℕ) → Other b → count_step s b ≡ 10002
unfolding count_step Other
other_step s b h = go (eqb s 10002) (ltb b 48) (ltb 57 b) refl refl
  where
    go : (x y z : Bool) → ltb b 48 ≡ y → ltb 57 b ≡ z
        → cond x 10002 (cond y 10002 (cond z 10002 (cond (eqb s 10001) (b - 48) (cond (eqb s 0) 10002 (min (10 * s + (b - 48)) 10000))))) ≡ 10002
    go true y z p q = refl
    go false true z p q = refl
    go false false true p q = refl
    go false false false p q = absurd (h (ltb-false b 48 p) (ltb-false 57 b q))

first_step : (b : ℕ) → 48 ≤ b → b ≤ 57 → count_step 10001 b ≡ b - 48
unfolding count_step
first_step b h k = simp (le-ltb b 48 h, le-ltb 57 b k)

digit_step : (v b : ℕ) → 0 < v → 48 ≤ b → b ≤ 57 → count_step (min v 10000) b ≡ min (10 * v + (b - 48)) 10000
unfolding count_step
digit_step v b z h k =
    simp (ne_eqb (min v 10000) 10002 (λ e. omega arith), ne_eqb (min v 10000) 10001 (λ e. omega arith), ne_eqb (min v 10000) 0 (λ e. omega arith), le-ltb b 48 h, le-ltb 57 b k) (omega arith)

zero_step : (b : ℕ) → 48 ≤ b → b ≤ 57 → count_step 0 b ≡ 10002
unfolding count_step
zero_step b h k = simp (le-ltb b 48 h, le-ltb 57 b k)

-- a byte is a digit or not
digit_or : (P : Type 0) (b : ℕ) → (48 ≤ b → b ≤ 57 → P) → (Other b → P) → P
unfolding Other
digit_or P b f g = go (ltb b 48) (ltb 57 b) refl refl
  where
    go : (y z : Bool) → ltb b 48 ≡ y → ltb 57 b ≡ z → P
    go true z p q = g (λ h k. omega (arith, ltb-true b 48 p))
    go false true p q = g (λ h k. omega (arith, ltb-true 57 b q))
    go false false p q = f (ltb-false b 48 p) (ltb-false 57 b q)

bad_run : (s : ℕ) (b : ℕ) (t : List ℕ) → count_step s b ≡ 10002 → count_run s (b ∷ t) ≡ 10002
unfolding count_run
bad_run s b t e = ap (λ (x : ℕ). count_run x t) e ∙ run_bad t

no_digits : (n : ℕ) (s t : List ℕ) (b : ℕ) → Other b → decimal_of n ≡ s ++ (b ∷ t) → ⊥
unfolding Digits Other
no_digits n s t b h e = let d = digits_behind s (b ∷ t) (subst Digits e (dec_digits n)) in h d.0 d.1

-- the walk behind a number that is not 0
walk_on : (u : List ℕ) (v : ℕ) → 0 < v → Counted (decimal_of v ++ u) (count_run (min v 10000) u)
unfolding count_run
walk_on [] v h = counted v (sym (append-nil (decimal_of v))) refl
walk_on (b ∷ u) v h =
    digit_or (Counted (decimal_of v ++ (b ∷ u)) (count_run (min v 10000) (b ∷ u))) b
    (λ p q. more p q (walk_on u (10 * v + (b - 48)) (omega arith)))
    (λ o. uncounted (λ n e. no_digits n (decimal_of v) u b o e) (let z = bad_run (min v 10000) b u (other_step (min v 10000) b o) in omega (arith, z)))
  where
    more : 48 ≤ b → b ≤ 57 → Counted (decimal_of (10 * v + (b - 48)) ++ u) (count_run (min (10 * v + (b - 48)) 10000) u) → Counted (decimal_of v ++ (b ∷ u)) (count_run (count_step (min v 10000) b) u)
    more p q w =
        let y : 48 + (b - 48) ≡ b = omega arith in
        let x : decimal_of (10 * v + (b - 48)) ++ u ≡ decimal_of v ++ (b ∷ u) =
        ap (λ (l : List ℕ). l ++ u) (dec_snoc v (b - 48) h (omega arith) ∙ ap (λ (a : ℕ). decimal_of v ++ (a ∷ [])) y) ∙ append_assoc (decimal_of v) (b ∷ []) u in
        subst (λ (l : List ℕ). Counted l (count_run (count_step (min v 10000) b) u)) x
        (subst (λ (s : ℕ). Counted (decimal_of (10 * v + (b - 48)) ++ u) (count_run s u)) (sym (digit_step v b h p q)) w)

zero_behind : (u : List ℕ) → Counted (48 ∷ u) (count_run 0 u)
unfolding count_run
zero_behind [] = counted 0 (dec_one 0 (omega arith)) refl
zero_behind (b ∷ u) =
    uncounted (λ n e. dec_zero n b u e)
    (let z = bad_run 0 b u (digit_or (count_step 0 b ≡ 10002) b (zero_step b) (other_step 0 b)) in omega (arith, z))

-- the whole walk
pub walk_counted : (t : List ℕ) → Counted t (count_run 10001 t)
unfolding count_run
walk_counted [] = uncounted (λ n e. dec_some n e) (omega arith)
walk_counted (b ∷ u) =
    digit_or (Counted (b ∷ u) (count_run 10001 (b ∷ u))) b (λ p q. some p q (eqb b 48) refl)
    (λ o. uncounted (λ n e. no_digits n [] u b o e) (let z = bad_run 10001 b u (other_step 10001 b o) in omega (arith, z)))
  where
    some : 48 ≤ b → b ≤ 57 → (x : Bool) → eqb b 48 ≡ x → Counted (b ∷ u) (count_run (count_step 10001 b) u)
    some p q true e =
        let y : b ≡ 48 = eqb-true b 48 e in
        let z : b - 48 ≡ 0 = omega arith in
        subst (λ (s : ℕ). Counted (b ∷ u) (count_run s u)) (sym (first_step b p q ∙ z)) (subst (λ (a : ℕ). Counted (a ∷ u) (count_run 0 u)) (sym y) (zero_behind u))
    some p q false e =
        let k : 0 < b - 48 = omega (arith, eqb-false b 48 e) in
        let m : min (b - 48) 10000 ≡ b - 48 = omega arith in
        let y : 48 + (b - 48) ≡ b = omega arith in
        let x : decimal_of (b - 48) ++ u ≡ b ∷ u = ap (λ (l : List ℕ). l ++ u) (dec_one (b - 48) (omega arith)) ∙ ap (λ (a : ℕ). a ∷ u) y in
        subst (λ (l : List ℕ). Counted l (count_run (count_step 10001 b) u)) x
        (subst (λ (s : ℕ). Counted (decimal_of (b - 48) ++ u) (count_run s u)) (m ∙ sym (first_step b p q)) (walk_on u (b - 48) k))

-- one more turn of the walk, and its end
pub run_step : (s : ℕ) (t : List ℕ) (i : ℕ) → i < length t → count_run (count_step s (get_or t i 0)) (drop (i + 1) t) ≡ count_run s (drop i t)
unfolding count_run
run_step s t i h = rw (add-one, drop-cons t i 0 h)

pub run_done : (s : ℕ) (t : List ℕ) (i : ℕ) → i ≡ length t → count_run s (drop i t) ≡ s
unfolding count_run
run_done s t i e = rw (e, drop-length)

-- a further digit behind a 0 makes no counter
pub step_zero : (s b : ℕ) → s ≡ 0 → 48 ≤ b → b ≤ 57 → count_step s b ≡ 10002
unfolding count_step
step_zero s b z h k = simp (z, le-ltb b 48 h, le-ltb 57 b k)

-- the code's tests
pub step_value : (s b : ℕ) → (s ≡ 10002 → ⊥) → 48 ≤ b → b ≤ 57 → (s ≡ 10001 → ⊥) → (s ≡ 0 → ⊥) → count_step s b ≡ min (10 * s + (b - 48)) 10000
unfolding count_step
step_value s b f h k g i = simp (ne_eqb s 10002 f, le-ltb b 48 h, le-ltb 57 b k, ne_eqb s 10001 g, ne_eqb s 0 i)

-- of several digits the first is not 0
unfoldable pub First : List ℕ → Type 0
First [] = ⊥
First (b ∷ []) = Unit {0}
First (b ∷ c ∷ t) = 48 < b

lead_first : (t : List ℕ) → Lead t → First t
unfolding Lead First
lead_first [] h = h
lead_first (b ∷ []) h = tt
lead_first (b ∷ c ∷ t) h = h

pub dec_first : (n : ℕ) → First (decimal_of n)
unfolding First
dec_first zero = subst First (sym (dec_one 0 (omega arith))) tt
dec_first (suc n) = lead_first (decimal_of (suc n)) (dec_lead (suc n) (omega arith))
