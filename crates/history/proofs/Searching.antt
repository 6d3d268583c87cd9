-- The search of a ply, over plain variables.
use mathlib.Core.Path.{◌≡◌, sym, ap, ◌∙◌, subst}
use mathlib.Core.Logic.{◌⊎◌, inl, inr}
use mathlib.Core.List.{List, [], ◌∷◌}
use Prim.Native.Nat.{ℕ, suc, ◌+◌, ◌-◌, ◌≤◌, ◌<◌}
use native.Mathlib.Omega.{arith}
use lib.ListN.{length}
use Rattle.geometry.specs.declared.Color.{Color}
use Rattle.geometry.specs.Colors.{opp}
use Rattle.laws.specs.declared.ChessRetraction.{ChessRetraction}
use Rattle.laws.specs.StrictLists.{place}
use Rattle.refusal.specs.declared.Refusal.{Refusal}
use Rattle.board.specs.declared.RetractableBoard.{RetractableBoard}
use Rattle.board.specs.Gate.{gate_of}
use Rattle.board.specs.Moving.{unmade_on}
use Rattle.strict.specs.Demand.{Past}
use Rattle.strict.specs.declared.Placed.{Placed}
use Rattle.strict.specs.Onward.{FirstFrom, NoneFrom, FoundFrom, Finds}
use Rattle.chains.specs.Chains.{Chain}
use Rattle.history.specs.declared.History.{History}
use Rattle.history.specs.Histories.{NotAfter, NoHistory, after_move, Tells}
use Rattle.history.specs.inner.Searching.{NoneBelow}
use Rattle.squares.proofs.Testing.{order}
use Rattle.strict.proofs.Onward.{within, one_place}
use Rattle.chains.proofs.Boards.{chain_on, past_gate, past_turn}
use Rattle.refusal.specs.Refusals.{nothing_refused}
use Rattle.std.specs.Prelude.{Result, Option, Ok, Some, None}

module _ (b : RetractableBoard) (h : gate_of b ≡ nothing_refused) (n i : ℕ) (some : (n ≡ 0) → ⊥) (none : NoneBelow n b i) where
  latest : (r : ChessRetraction) (l : List ChessRetraction) → Chain (r ∷ l) b → Past b r
  latest r l c = ((chain_on b h r l).0 c).0

  less : {k : ℕ} → suc k ≡ n → k ≡ n - 1
  less e = omega arith

  more : {k : ℕ} → k ≡ n - 1 → suc k ≡ n
  more e = omega (arith, some)

  pub at_end : NoneFrom b i → NoHistory n b
  at_end f [] e c = some (sym e)
  at_end f (r ∷ l) e c = go (order (place r) i)
    where
      go : (place r < i) ⊎ (i ≤ place r) → ⊥
      go (inl m) = none r l m e c
      go (inr m) = f r (latest r l c) m

  module _ (q : ChessRetraction) (first : FirstFrom b i q) where
    before_it : (l : List ChessRetraction) → Chain (q ∷ l) b → Chain l (unmade_on b q)
    before_it l c = ((chain_on b h q l).0 c).1

    -- a history with a place from i on has q's place or a later one
    at_or_after : (r : ChessRetraction) (l : List ChessRetraction) → length (r ∷ l) ≡ n → Chain (r ∷ l) b → place q ≤ place r
    at_or_after r l e c = go (order (place r) i)
      where
        go : (place r < i) ⊎ (i ≤ place r) → place q ≤ place r
        go (inl m) = absurd (none r l m e c)
        go (inr m) = first.least r (latest r l c) m

    same_here : (r : ChessRetraction) (l : List ChessRetraction) → Chain (r ∷ l) b → place r ≡ place q → q ≡ r
    same_here r l c e = one_place b h q r first.past (latest r l c) (sym e)

    pub passed_over : NoHistory (n - 1) (unmade_on b q) → NoneBelow n b (place q + 1)
    passed_over f r l m e c =
        f l (less e) (before_it l (subst (λ (z : ChessRetraction). Chain (z ∷ l) b) (sym (same_here r l c (equal (at_or_after r l e c) m))) c))
      where
        equal : {x y : ℕ} → x ≤ y → y < x + 1 → y ≡ x
        equal a b = omega arith

    pub found_first : {g : History} → Tells (n - 1) (unmade_on b q) (Some g) → Tells n b (Some (after_move q g))
    found_first t = (
      q ∷ t.0,
      record {
        long = more t.1.long;
        chain = (chain_on b h q t.0).1 (first.past, t.1.chain);
        least = least;
      },
      ap (after_move q) t.2,
    )
      where
        least : (m : List ChessRetraction) → length m ≡ n → Chain m b → NotAfter (q ∷ t.0) m
        least [] e c = some (sym e)
        least (r ∷ l) e c = go (order (place q) (place r))
          where
            equal : {x y : ℕ} → x ≤ y → y ≤ x → y ≡ x
            equal a b = omega arith

            go : (place q < place r) ⊎ (place r ≤ place q) → NotAfter (q ∷ t.0) (r ∷ l)
            go (inl m) = inl m
            go (inr m) =
                let s : q ≡ r = same_here r l c (equal (at_or_after r l e c) m) in
                inr (s, t.1.least l (less e) (before_it l (subst (λ (z : ChessRetraction). Chain (z ∷ l) b) (sym s) c)))

-- what a step through the strict list found
module _ (b : RetractableBoard) (i : ℕ) {r : Result (Option Placed) Refusal} (f : Finds b i r) (h : gate_of b ≡ nothing_refused) where
  pub found_is : {x : Placed} {o : Option Placed} → r ≡ Ok o → o ≡ Some x → (x.place ≡ place x.retraction) × FirstFrom b i x.retraction
  found_is e s = subst (FoundFrom b i) (e ∙ ap Ok s) (f.found h)

  pub ended : r ≡ (Ok None) → NoneFrom b i
  ended e = subst (FoundFrom b i) e (f.found h)

  -- the next look starts behind the place found
  pub place_on : {x : Placed} {o : Option Placed} → r ≡ Ok o → o ≡ Some x → (i ≤ x.place) × (x.place + 1 ≤ 49152)
  place_on e s = let z = found_is e s in (at_least z.0 z.1.on, at_most z.0 (within b h _ z.1.past))
    where
      at_least : {p q : ℕ} → p ≡ q → i ≤ q → i ≤ p
      at_least a b = omega arith

      at_most : {p q : ℕ} → p ≡ q → q < 49152 → p + 1 ≤ 49152
      at_most a b = omega arith

-- what the other colour's ply asks of the earlier board
pub asks_earlier : (b : RetractableBoard) → gate_of b ≡ nothing_refused → (r : ChessRetraction) → Past b r → {c : Color} → b.turn ≡ c → {e : RetractableBoard}
    → e ≡ unmade_on b r → (gate_of e ≡ nothing_refused) × (e.turn ≡ opp c)
asks_earlier b h r p t q = (
  ap gate_of q ∙ past_gate b h r p,
  ap (λ (z : RetractableBoard). z.turn) q ∙ past_turn b h r p ∙ ap opp t,
)

-- what this ply tells by what the other colour's told
module _ (b : RetractableBoard) (h : gate_of b ≡ nothing_refused) (n i : ℕ) (some : (n ≡ 0) → ⊥) (none : NoneBelow n b i) (x : Placed)
    (f : (x.place ≡ place x.retraction) × FirstFrom b i x.retraction) {e : RetractableBoard} (q : e ≡ unmade_on b x.retraction) {t : Option History} (told : Tells (n - 1) e t) where
  pub yes_with : {g z : History} → t ≡ Some g → z ≡ after_move x.retraction g → Tells n b (Some z)
  yes_with {g} y w =
      subst (λ (a : History). Tells n b (Some a)) (sym w)
      (found_first b h n i some none x.retraction f.1 (subst (λ (a : RetractableBoard). Tells (n - 1) a (Some g)) q (subst (Tells (n - 1) e) y told)))

  pub no_with : t ≡ None → NoneBelow n b (x.place + 1)
  no_with y =
      subst (λ (a : ℕ). NoneBelow n b (a + 1)) (sym f.0)
      (passed_over b h n i some none x.retraction f.1 (subst (λ (a : RetractableBoard). NoHistory (n - 1) a) q (subst (Tells (n - 1) e) y told)))
