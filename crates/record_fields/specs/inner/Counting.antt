-- The reader of a counter, as a walk over its bytes: the contract is `Counted`.
use Rattle.std.specs.Prelude.{◌≡◌, cond, List, [], ◌∷◌, ℕ, ◌+◌, ◌-◌, ◌*◌, ◌<◌, min, eqb, ltb}
use Rattle.rows.specs.Rows.{decimal_of}

-- what is read of a counter whose bytes are t: its value, where a value above 10,000 is 10,000; or, above that, no counter
pub data Counted (t : List ℕ) (r : ℕ) : Type 0 where
  counted : (n : ℕ) → decimal_of n ≡ t → r ≡ min n 10000 → Counted t r
  uncounted : ((n : ℕ) → decimal_of n ≡ t → ⊥) → 10000 < r → Counted t r

-- one more byte: 10,001 stands for no byte yet, 10,002 for no counter
unfoldable pub count_step : ℕ → ℕ → ℕ
count_step s b =
    cond (eqb s 10002) 10002
    (cond (ltb b 48) 10002 (cond (ltb 57 b) 10002 (cond (eqb s 10001) (b - 48) (cond (eqb s 0) 10002 (min (10 * s + (b - 48)) 10000)))))

unfoldable pub count_run : ℕ → List ℕ → ℕ
count_run s [] = s
count_run s (b ∷ t) = count_run (count_step s b) t
