-- One step through the strict list meets its contract, and any two answers to it agree.
use mathlib.Core.Path.{◌≡◌, refl, sym, ap, ◌∙◌, subst}
use mathlib.Core.Logic.{◌⊎◌, inl, inr}
use mathlib.Core.Bool.{Bool, true, false, false≢true}
use Prim.Native.Nat.{ℕ, ◌+◌, ◌*◌, ◌≤◌, ◌<◌}
use native.Mathlib.Omega.{arith}
use Rattle.squares.specs.Squares.{flag}
use Rattle.laws.specs.declared.ChessRetraction.{ChessRetraction}
use Rattle.laws.specs.Retractions.{InRange}
use Rattle.laws.specs.Strictness.{strict}
use Rattle.laws.specs.StrictLists.{place, retraction_at}
use Rattle.refusal.specs.declared.Refusal.{Refusal}
use Rattle.board.specs.declared.RetractableBoard.{RetractableBoard}
use Rattle.board.specs.Gate.{pos_on, gate_of}
use Rattle.strict_test.specs.inner.Strictly.{strict_for}
use Rattle.strict_search.specs.inner.Searching.{test_of, Skips, Next}
use Rattle.strict.specs.declared.Placed.{Placed}
use Rattle.strict.specs.Demand.{Past}
use Rattle.strict.specs.Onward.{FoundFrom, Finds}
use Rattle.squares.proofs.Testing.{order}
use Rattle.laws.proofs.StrictMembers.{placed_place, strict_in}
use Rattle.refusal.proofs.Saying.{never, number_one}
use Rattle.board.proofs.Numbers.{gate_refuses, gate_passes, passed_gate}
use Rattle.strict.proofs.Told.{strict_past, place_placed}
use Rattle.strict.proofs.Unique.{no_refusal}
use Rattle.refusal.specs.Refusals.{nothing_refused}
use Rattle.std.specs.Prelude.{Err, Result, Option, Ok, Some, None}

pub place_in : (r : ChessRetraction) → InRange r → place r < 49152
place_in r h = go r.unpromotion
  where
    go : (b : Bool) → r.source * 768 + (r.target * 12 + (r.uncaptured * 2 + flag b)) < 49152
    go true = omega (arith, h.source_in, h.target_in, h.uncaptured_in)
    go false = omega (arith, h.source_in, h.target_in, h.uncaptured_in)

module _ (b : RetractableBoard) (h : gate_of b ≡ nothing_refused) where
  in_range : (x : ChessRetraction) → Past b x → InRange x
  in_range x z = strict_in (pos_on b) x ((strict_past b h x).1 z)

  -- what has a past has a place below 49,152, and no other has that place
  pub within : (x : ChessRetraction) → Past b x → place x < 49152
  within x z = place_in x (in_range x z)

  pub one_place : (x y : ChessRetraction) → Past b x → Past b y → place x ≡ place y → x ≡ y
  one_place x y u v e = sym (placed_place x (in_range x u)) ∙ ap retraction_at e ∙ placed_place y (in_range y v)

  -- it passes the test at its place
  passes : (x : ChessRetraction) → Past b x → test_of (pos_on b) (place x) ≡ true
  unfolding test_of strict_for
  passes x z = ap (λ (q : ChessRetraction). strict (pos_on b) q) (placed_place x (in_range x z)) ∙ (strict_past b h x).1 z

  not_skipped : (i j : ℕ) → Skips (test_of (pos_on b)) i j → (x : ChessRetraction) → Past b x → i ≤ place x → j ≤ place x
  not_skipped i j s x z l = go (order (place x) j)
    where
      go : (place x < j) ⊎ (j ≤ place x) → j ≤ place x
      go (inl m) = absurd (false≢true (sym (s.none (place x) l m) ∙ passes x z))
      go (inr m) = m

  finds : (r : Result (Option Placed) Refusal) (i : ℕ) → FoundFrom b i r → Finds b i r
  finds (Ok (Some p)) i f = record { number = sym (gate_passes b (gate_of b) refl h); found = λ _. f }
  finds (Ok None) i f = record { number = sym (gate_passes b (gate_of b) refl h); found = λ _. f }
  finds (Err why) i f = absurd f

  pub found_at : (i j : ℕ) (r : Result (Option Placed) Refusal) → Next (test_of (pos_on b)) i j → j < 49152 → r ≡ Ok (Some (record { place = j; retraction = retraction_at j })) → Finds b i r
  unfolding test_of strict_for
  found_at i j r x l e = subst (λ (z : Result (Option Placed) Refusal). Finds b i z) (sym e) (finds (Ok (Some (record { place = j; retraction = retraction_at j }))) i (
    sym (place_placed j l),
    record {
      past = (strict_past b h (retraction_at j)).0 (x.there l);
      on = subst (λ (k : ℕ). i ≤ k) (sym (place_placed j l)) x.skips.on;
      least = λ q z m. subst (λ (k : ℕ). k ≤ place q) (sym (place_placed j l)) (not_skipped i j x.skips q z m);
    },
  ))

  -- a start or an end behind the last place
  pub found_none : (i : ℕ) → 49152 ≤ i → Finds b i (Ok None)
  found_none i l = finds (Ok None) i (λ x z m. past_end (within x z) m)
    where
      past_end : {k : ℕ} → k < 49152 → i ≤ k → ⊥
      past_end a m = omega arith

  pub found_end : (i j : ℕ) → Next (test_of (pos_on b)) i j → 49152 ≤ j → Finds b i (Ok None)
  found_end i j x l = finds (Ok None) i (λ q z m. (found_none j l).found h q z (not_skipped i j x.skips q z m))

pub found_refused : (b : RetractableBoard) (i : ℕ) (why : Refusal) → gate_of b ≡ Err why → Finds b i (Err why)
found_refused b i why h = record { number = gate_refuses b (gate_of b) refl why h; found = λ a. absurd (never why (sym h ∙ a)) }

-- any two answers agree
module _ (b : RetractableBoard) (i : ℕ) where
  same_found : (p q : Placed) → gate_of b ≡ nothing_refused → FoundFrom b i (Ok (Some p)) → FoundFrom b i (Ok (Some q)) → p ≡ q
  same_found p q h x y = λ k. record { place = places k; retraction = same k }
    where
      equal : {m n : ℕ} → m ≤ n → n ≤ m → m ≡ n
      equal l m = omega arith

      same_place : place p.retraction ≡ place q.retraction
      same_place = equal (x.1.least q.retraction y.1.past y.1.on) (y.1.least p.retraction x.1.past x.1.on)

      places : p.place ≡ q.place
      places = x.0 ∙ same_place ∙ sym y.0

      same : p.retraction ≡ q.retraction
      same = one_place b h p.retraction q.retraction x.1.past y.1.past same_place

  pub one_found : (r s : Result (Option Placed) Refusal) → Finds b i r → Finds b i s → r ≡ s
  one_found (Ok (Some p)) (Ok (Some q)) x y = let h = passed_gate b (sym x.number) in ap (λ (z : Placed). Ok (Some z)) (same_found p q h (x.found h) (y.found h))
  one_found (Ok (Some p)) (Ok None) x y = let h = passed_gate b (sym x.number) in absurd (y.found h p.retraction (x.found h).1.past (x.found h).1.on)
  one_found (Ok None) (Ok (Some q)) x y = let h = passed_gate b (sym x.number) in absurd (x.found h q.retraction (y.found h).1.past (y.found h).1.on)
  one_found (Ok None) (Ok None) x y = refl
  one_found (Ok (Some p)) (Err w) x y = no_refusal w (x.number ∙ sym y.number)
  one_found (Ok None) (Err w) x y = no_refusal w (x.number ∙ sym y.number)
  one_found (Err v) (Ok (Some q)) x y = no_refusal v (y.number ∙ sym x.number)
  one_found (Err v) (Ok None) x y = no_refusal v (y.number ∙ sym x.number)
  one_found (Err v) (Err w) x y = ap Err (number_one v w (x.number ∙ sym y.number))
