-- Slots that are written part after part.
use mathlib.Core.Path.{◌≡◌, refl, sym, ap, ap₂, ◌∙◌, subst}
use mathlib.Core.List.{List, [], ◌∷◌, ◌++◌}
use Prim.Native.Nat.{ℕ, ◌+◌, ◌≤◌}
use native.Mathlib.Nat.{add-zero}
use native.Mathlib.Omega.{arith}
use lib.ListN.{length, set, length-append, length-set}
use Rattle.laws.specs.declared.ChessRetraction.{ChessRetraction}
use Rattle.laws.specs.Retractions.{packed}
use Rattle.slots.specs.Slots.{fill_from}
use Rattle.listing.specs.inner.Giving.{Fills}

-- one part behind the other
fill_both : (s : List ℕ) (n : ℕ) (xs ys : List ChessRetraction) → fill_from s n (xs ++ ys) ≡ fill_from (fill_from s n xs) (n + length xs) ys
unfolding fill_from
fill_both s n [] ys = ap (λ (m : ℕ). fill_from s m ys) (sym (add-zero n))
fill_both s n (x ∷ xs) ys =
    fill_both (set s n (packed x)) (n + 1) xs ys
    ∙ ap (λ (m : ℕ). fill_from (fill_from (set s n (packed x)) (n + 1) xs) m ys) (let e : n + 1 + length xs ≡ n + length (x ∷ xs) = omega arith in e)

fill_length : (s : List ℕ) (n : ℕ) (l : List ChessRetraction) → length (fill_from s n l) ≡ length s
unfolding fill_from
fill_length s n [] = refl
fill_length s n (r ∷ l) = fill_length (set s n (packed r)) (n + 1) l ∙ length-set s n (packed r)

-- a loop that writes whole from the slot n₀ on: it is at the slot n, and rest is still to come
pub record Filling (whole : List ChessRetraction) (s₀ : List ℕ) (n₀ : ℕ) (s : List ℕ) (n : ℕ) (rest : List ChessRetraction) : Type 0 where
  pub fits : n + length rest ≤ length s
  pub same : length s ≡ length s₀
  pub end : n + length rest ≡ n₀ + length whole
  pub written : fill_from s n rest ≡ fill_from s₀ n₀ whole

pub filling_starts : (whole : List ChessRetraction) (s : List ℕ) (n : ℕ) → n + length whole ≤ length s → Filling whole s n s n whole
filling_starts whole s n h = record { fits = h; same = refl; end = refl; written = refl }

module _ {whole : List ChessRetraction} {s₀ : List ℕ} {n₀ : ℕ} {s : List ℕ} {n : ℕ} {rest : List ChessRetraction} (f : Filling whole s₀ n₀ s n rest) where
  -- the next part has room
  pub filling_room : (part later : List ChessRetraction) → rest ≡ part ++ later → n + length part ≤ length s
  filling_room part later e = omega (arith, ap length e, length-append part later, f.fits)

  -- a turn writes it
  pub filling_on : (part later : List ChessRetraction) {s' : List ℕ} {n' : ℕ} → rest ≡ part ++ later → Fills part s n s' n' → Filling whole s₀ n₀ s' n' later
  filling_on part later {s'} {n'} e g = record {
    fits = omega (arith, lengths, same_now, f.fits, g.next);
    same = same_now ∙ f.same;
    end = omega (arith, lengths, f.end, g.next);
    written =
        ap₂ (λ (z : List ℕ) (m : ℕ). fill_from z m later) g.slots g.next ∙ sym (fill_both s n part later) ∙ sym (ap (fill_from s n) e) ∙ f.written;
  }
    where
      lengths : length rest ≡ length part + length later
      lengths = ap length e ∙ length-append part later

      same_now : length s' ≡ length s
      same_now = ap length g.slots ∙ fill_length s n part

  pub filling_done : rest ≡ [] → Fills whole s₀ n₀ s n
  unfolding fill_from
  filling_done e = record { slots = sym (ap (fill_from s n) e) ∙ f.written; next = omega (arith, ap length e, f.end) }

-- one slot
pub fills_one : (s : List ℕ) (n v m : ℕ) (r : ChessRetraction) → v ≡ packed r → m ≡ n + 1 → Fills (r ∷ []) s n (set s n v) m
unfolding fill_from
fills_one s n v m r e h = record { slots = ap (set s n) e; next = h }

pub fills_same : {rs qs : List ChessRetraction} {s : List ℕ} {n : ℕ} {s' : List ℕ} {m : ℕ} → rs ≡ qs → Fills rs s n s' m → Fills qs s n s' m
fills_same {s = s} {n = n} {s' = s'} {m = m} e f = subst (λ (l : List ChessRetraction). Fills l s n s' m) e f
