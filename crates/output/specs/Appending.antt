-- Bytes put behind the first `len` of a buffer, all or none.
use Rattle.std.specs.Prelude.{◌≡◌, cond, List, ℕ, ◌+◌, min, leb, length, Result, Ok, Err}
use Rattle.std.proofs.Math.Seq.{paste}
use Rattle.io.specs.Digits.{last_digits, IsDigitCount}

-- document 01's number of an answer, 0 or "13 ROOM", and its value: how many bytes are then in use, or "the number of slots or bytes needed"
abbrev pub put_says : Result ℕ ℕ → ℕ × ℕ
put_says (Ok n) = (0, n)
put_says (Err n) = (13, n)

-- the bytes b need room behind the first `len`: as many as they are, as far as a usize counts them, which is more than any slice has
abbrev pub needed_for : List ℕ → ℕ
needed_for b = min (length b) 18446744073709551615

-- "13 ROOM: the lent slice is shorter than the answer"
abbrev pub put_of : List ℕ → ℕ → List ℕ → ℕ × ℕ
put_of o len b = cond (leb (len + length b) (length o)) (0, len + length b) (13, needed_for b)

-- what the buffer o then holds
abbrev pub added_out : List ℕ → ℕ → List ℕ → List ℕ
added_out o len b = cond (leb (len + length b) (length o)) (paste o len b (length b)) o

pub record Puts (o : List ℕ) (len : ℕ) (b : List ℕ) (r : Result ℕ ℕ) (after : List ℕ) : Type 0 where
  pub says : put_says r ≡ put_of o len b
  pub holds : after ≡ added_out o len b

-- the decimal digits of x are put, as few as hold it
pub record PutsDecimal (o : List ℕ) (len x : ℕ) (r : Result ℕ ℕ) (after : List ℕ) : Type 0 where
  pub places : ℕ
  pub fewest : IsDigitCount 10 1 x places
  pub puts : Puts o len (last_digits 10 places x) r after

-- how many bytes are in use after an answer
abbrev pub used_of : Result ℕ ℕ → ℕ → ℕ
used_of (Ok n) len = n
used_of (Err n) len = len

-- the same of bytes that were put: as many more as there are, or none
abbrev pub added_len : List ℕ → ℕ → List ℕ → ℕ
added_len o len b = cond (leb (len + length b) (length o)) (len + length b) len

pub record Adds (o : List ℕ) (len : ℕ) (b : List ℕ) (r : ℕ) (after : List ℕ) : Type 0 where
  pub used : r ≡ added_len o len b
  pub holds : after ≡ added_out o len b
