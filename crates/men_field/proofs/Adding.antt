-- Laws of lines that are added to.
use mathlib.Core.Path.{◌≡◌, refl, sym, ◌∙◌, ap}
use mathlib.Core.List.{List, [], ◌∷◌, ◌++◌, append_assoc, append-nil}
use Prim.Native.Nat.{ℕ, zero, suc, ◌+◌, ◌-◌, ◌*◌, ◌≤◌, ◌<◌}
use native.Mathlib.Omega.{arith}
use native.Mathlib.Numerals.{add-one}
use lib.ListN.{length, take, length-append}
use Rattle.geometry.specs.declared.Color.TheVariants.{White, Black}
use Rattle.laws.specs.declared.Piece.TheVariants.{Pawn, Knight, Bishop, Rook, Queen, King}
use Rattle.laws.specs.Men.{Man, empty, man, Men}
use Rattle.men_field.specs.declared.Line.{Line}
use Rattle.men_field.specs.declared.Run.{Run}
use Rattle.men_field.specs.Placement.{letter_of, flush_of, run_text, squares_from, rank_text, ranks_text, men_text, byte_of}
use Rattle.men_field.specs.inner.Lines.{text_of, Added, Stepped, Holds}

pub added_none : (l : Line) → Added l [] l
added_none l = record { text = sym (append-nil (text_of l)); len = omega arith }

pub added_both : {l m r : Line} {s t : List ℕ} → Added l s m → Added m t r → Added l (s ++ t) r
added_both {l} {m} {r} {s} {t} p q =
    record {
      text = q.text ∙ ap (λ (x : List ℕ). x ++ t) p.text ∙ append_assoc (text_of l) s t;
      len = omega (arith, p.len, q.len, length-append s t);
    }

-- an empty line, and more behind what a line holds
pub holds_none : (l : Line) → l.len ≡ 0 → Holds l []
holds_none l e = record { text = ap (λ (n : ℕ). take n l.bytes) e; len = e }

pub holds_more : {l r : Line} {t s : List ℕ} → Holds l t → Added l s r → Holds r (t ++ s)
holds_more {l} {r} {t} {s} h a =
    record { text = a.text ∙ ap (λ (x : List ℕ). x ++ s) h.text; len = omega (arith, a.len, h.len, length-append t s) }

flush_append : (n : ℕ) (s t : List ℕ) → flush_of n s ++ t ≡ flush_of n (s ++ t)
flush_append zero s t = refl
flush_append (suc n) s t = refl

pub flush_short : (n : ℕ) → length (flush_of n []) ≤ n
flush_short zero = omega arith
flush_short (suc n) = omega arith

-- an empty square has no letter
letter_some : (x : Man) → byte_of x ≡ 0 → x ≡ empty
letter_some empty e = refl
letter_some (man White Pawn) e = absurd (omega arith)
letter_some (man White Knight) e = absurd (omega arith)
letter_some (man White Bishop) e = absurd (omega arith)
letter_some (man White Rook) e = absurd (omega arith)
letter_some (man White Queen) e = absurd (omega arith)
letter_some (man White King) e = absurd (omega arith)
letter_some (man Black k) e = absurd (omega arith)

pub man_none : (s : Run) (b : ℕ) → b ≡ 0 → Stepped s b (record { line = s.line; run = s.run + 1 })
unfolding run_text
man_none s b e =
    record {
      text = λ x h xs. rw (letter_some x (h ∙ e), add-one);
      size = λ x h xs. rw (letter_some x (h ∙ e), add-one);
      len = omega arith;
      run = omega arith;
    }

-- what a man adds
some_text : (x : Man) (n b : ℕ) (xs : List Man) → (b ≡ 0 → ⊥) → byte_of x ≡ b → run_text n (x ∷ xs) ≡ flush_of n [] ++ (b ∷ run_text 0 xs)
unfolding run_text
some_text empty n b xs f e = absurd (f (sym e))
some_text (man c k) n b xs f e = rw (← e) (sym (flush_append n [] (letter_of c k ∷ run_text 0 xs)))

pub man_some : (s : Run) (b : ℕ) (f o : Line) → (b ≡ 0 → ⊥) → Added s.line (flush_of s.run []) f → Added f (b ∷ []) o
    → Stepped s b (record { line = o; run = 0 })
man_some s b f o e p r =
    record {
      text = λ x h xs. simp (r.text, p.text, append_assoc, some_text x s.run b xs e h);
      size = λ x h xs. omega (arith, p.len, r.len, ap length (some_text x s.run b xs e h), length-append (flush_of s.run []) (b ∷ run_text 0 xs));
      len = omega (arith, p.len, r.len, flush_short s.run);
      run = omega arith;
    }

-- the squares from k up to e are still to come, and then the line holds t, n bytes
pub record Coming (s : Run) (m : Men) (k e : ℕ) (t : List ℕ) (n : ℕ) : Type 0 where
  pub text : text_of s.line ++ run_text s.run (squares_from m (e - k) k) ≡ t
  pub size : s.line.len + length (run_text s.run (squares_from m (e - k) k)) ≡ n

squares_step : (m : Men) (k e : ℕ) → k < e → squares_from m (e - k) k ≡ m k ∷ squares_from m (e - (k + 1)) (k + 1)
unfolding squares_from
squares_step m k e h = let q : e - k ≡ suc (e - (k + 1)) = omega arith in rw (q, add-one k)

pub coming_step : {s r : Run} {m : Men} {t : List ℕ} {k e n b : ℕ} → k < e → Coming s m k e t n → b ≡ byte_of (m k) → Stepped s b r
    → Coming r m (k + 1) e t n
coming_step {s} {r} {m} {t} {k} {e} {n} {b} h p l q =
    let w = squares_step m k e h in
    record {
      text = q.text (m k) (sym l) (squares_from m (e - (k + 1)) (k + 1)) ∙ (rw (← w) p.text);
      size = q.size (m k) (sym l) (squares_from m (e - (k + 1)) (k + 1)) ∙ (rw (← w) p.size);
    }

-- a printed rank is no longer than its squares
short : (xs : List Man) (n : ℕ) → length (run_text n xs) ≤ n + length xs
unfolding run_text
short [] zero = omega arith
short [] (suc n) = omega arith
short (empty ∷ xs) n = omega (arith, short xs (suc n))
short (man c k ∷ xs) zero = omega (arith, short xs 0)
short (man c k ∷ xs) (suc n) = omega (arith, short xs 0)

pub length_squares : (m : Men) (n i : ℕ) → length (squares_from m n i) ≡ n
unfolding squares_from
length_squares m zero i = refl
length_squares m (suc n) i = ap suc (length_squares m n (suc i))

pub rank_short : (m : Men) (r : ℕ) → length (rank_text m r) ≤ 8
rank_short m r = omega (arith, short (squares_from m 8 (8 * r)) 0, length_squares m 8 (8 * r))

pub ranks_short : (m : Men) (r : ℕ) → length (ranks_text m r) ≤ 9 * r
unfolding ranks_text
ranks_short m zero = omega arith
ranks_short m (suc r) = omega (arith, ranks_short m r, rank_short m r, length-append (rank_text m r) (ranks_text m r))

pub men_short : (m : Men) → length (men_text m) ≤ 71
unfolding men_text
men_short m = omega (arith, rank_short m 7, ranks_short m 7, length-append (rank_text m 7) (ranks_text m 7))

-- the rank is done: the last run is shown
pub rank_done : {l r : Line} {s : Run} (m : Men) (e k : ℕ) {t : List ℕ} → k ≡ e → Coming s m k e (text_of l ++ t) (l.len + length t)
    → Added s.line (flush_of s.run []) r → Added l t r
unfolding run_text squares_from
rank_done {l} {r} {s} m e k {t} h p q =
    let z : squares_from m (e - k) k ≡ [] = (let w : e - k ≡ 0 = omega arith in ap (λ (n : ℕ). squares_from m n k) w) in
    record { text = q.text ∙ (rw z at p.text); len = omega (arith, q.len, rw z at p.size) }

-- the r lowest ranks are still to come
pub record Ranks (l : Line) (m : Men) (r : ℕ) : Type 0 where
  pub text : text_of l ++ ranks_text m r ≡ men_text m
  pub size : l.len + length (ranks_text m r) ≡ length (men_text m)

pub ranks_first : {l r : Line} (m : Men) → l.len ≡ 0 → Added l (rank_text m 7) r → Ranks r m 7
unfolding men_text
ranks_first {l} {r} m z a =
    let n : text_of l ≡ [] = ap (λ (k : ℕ). take k l.bytes) z in
    record { text = simp (a.text, n); size = omega (arith, a.len, length-append (rank_text m 7) (ranks_text m 7)) }

pub ranks_next : {l s o : Line} (m : Men) (r q : ℕ) → q ≡ suc r → Ranks l m q → Added l (47 ∷ []) s → Added s (rank_text m r) o → Ranks o m r
unfolding ranks_text
ranks_next {l} {s} {o} m r q e p a b =
    let w : Ranks l m (suc r) = rw e at p in
    record {
      text = simp (b.text, a.text, append_assoc) w.text;
      size = omega (arith, a.len, b.len, w.size, length-append (rank_text m r) (ranks_text m r));
    }

pub ranks_done : {l : Line} (m : Men) (r : ℕ) → r ≡ 0 → Ranks l m r → Holds l (men_text m) × (l.len ≤ 71)
unfolding ranks_text
ranks_done {l} m r e p =
    let q : Ranks l m 0 = rw e at p in
    (record { text = sym (append-nil (text_of l)) ∙ q.text; len = omega (arith, q.size) }, omega (arith, q.size, men_short m))
