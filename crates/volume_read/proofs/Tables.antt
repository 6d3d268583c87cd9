-- The table of a volume, from its rows tested one by one.
use mathlib.Core.Path.{◌≡◌, refl, sym, ◌∙◌, ap, subst}
use mathlib.Core.Bool.{Bool, false}
use mathlib.Core.List.{List}
use mathlib.Core.Logic.{⊎_elim, ◌⊎◌}
use Prim.Native.Nat.{ℕ, zero, suc, ◌+◌, ◌≤◌, ◌<◌}
use native.Mathlib.Omega.{arith}
use native.Mathlib.Numerals.{add-one}
use lib.ListN.{length}
use Rattle.squares.proofs.Testing.{order}
use Rattle.volume_contents.specs.declared.Flaw.{Flaw}
use Rattle.std.specs.Prelude.{Ok, Err}
use Rattle.volume_contents.specs.declared.Why.TheVariants.{Contents}
use Rattle.volume_contents.specs.Layout.{edition_byte}
use Rattle.volume_contents.specs.Contents.{Tested, head_tested, problems, row_tested, row_at, number_before, tested_at, Table, Spoilt, row}
use Rattle.volume_contents.specs.inner.Walks.{edition_of, last_in, tested_in, WalksTo, Rising, Bound}
use Rattle.volume_contents.proofs.Sound.{row_of_lem, size_of_lem, rising}
use Rattle.volume_read.specs.inner.Scanning.{Sized, Untabled, flawed}

last_same : (v : List ℕ) (i : ℕ) → last_in 0 v 6 i ≡ number_before v i
last_same v zero = refl
last_same v (suc i) = refl

tested_same : (back : Bool) (v : List ℕ) (n i : ℕ) → tested_in back n 0 0 v 6 i ≡ tested_at back v n i
tested_same back v n i = (λ k. row_tested back n (z k) (last_same v i k) (row_at v i))
  where
    z : 0 + i ≡ i
    z = omega arith

module _ (back : Bool) (v : List ℕ) (n : ℕ) (h : head_tested v (length v) ≡ Ok tt) (c : n ≡ problems v) where
  pub table_spoilt : (f : Flaw) (j l : ℕ) → WalksTo back n 0 0 v 6 n (Err (f, j, l)) → Untabled back v (Contents f (j + 1))
  table_spoilt f j l s = flawed f (j + 1) (subst (λ (k : ℕ). Spoilt back v k f) (sym (add-one j)) (row j f h (omega (arith, s.1)) (λ i g. at i (s.0 i g)) (at j s.2)))
    where
      at : {t : Tested} (i : ℕ) → tested_in back n 0 0 v 6 i ≡ t → tested_at back v (problems v) i ≡ t
      at i q = ap (λ (k : ℕ). tested_at back v k i) (sym c) ∙ sym (tested_same back v n i) ∙ q

edition_back : (b : ℕ) → (b ≡ 65) ⊎ (b ≡ 66) → edition_byte (edition_of b) ≡ b
edition_back b = ⊎_elim (λ e. ap (λ (x : ℕ). edition_byte (edition_of x)) e ∙ sym e) (λ e. ap (λ (x : ℕ). edition_byte (edition_of x)) e ∙ sym e)

pub edition_of_row : (back : Bool) (v : List ℕ) (n : ℕ) → Table back v n → (i : ℕ) → i < n → edition_byte (edition_of (row_at v i).edition) ≡ (row_at v i).edition
edition_of_row back v n t i h = edition_back _ (row_of_lem back v n t i h).edition_is

pub sized : (back : Bool) (v : List ℕ) (n : ℕ) → n < 65536 → Table back v n → Sized v n
sized back v n h t = record { few = h; size = size_of_lem back v n t; editions = edition_of_row back v n t }

pub rising_rows : (v : List ℕ) (n : ℕ) → Table false v n → Rising v 6 n
rising_rows v n t = rising false v n t

-- no row has a number: the one that would have it is behind the last, or has another
module _ (v : List ℕ) (n k r : ℕ) (b : Bound v 6 n k r) where
  pub none_other : Table false v n → r < n → ((row_at v r).number ≡ k → ⊥) → (i : ℕ) → i < n → (row_at v i).number ≡ k → ⊥
  none_other t h f i g e =
      ⊎_elim (λ l. let z = b.below i l in omega arith)
      (λ l. ⊎_elim (λ m. let z = b.above r (omega arith) h in let y = rising false v n t r i m g in omega arith) (λ m. same l m) (order r i))
      (order i r)
    where
      same : r ≤ i → i ≤ r → ⊥
      same l m = let z : i ≡ r = omega arith in f (ap (λ (x : ℕ). (row_at v x).number) (sym z) ∙ e)
