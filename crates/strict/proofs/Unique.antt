-- Any two answers that meet a contract agree: a list in the stated order is settled by its members.
use mathlib.Core.Path.{◌≡◌, refl, sym, ap, ◌∙◌, subst}
use mathlib.Core.Logic.{◌⊎◌, inl, inr, ◌↔◌}
use mathlib.Core.List.{List, [], ◌∷◌, map}
use Prim.Native.Nat.{ℕ, ◌<◌}
use native.Mathlib.Omega.{arith}
use lib.ListN.{length}
use Rattle.laws.specs.declared.ChessRetraction.{ChessRetraction}
use Rattle.laws.specs.Retractions.{packed}
use Rattle.laws.specs.StrictLists.{place, Below, Ascending, In, here, there}
use Rattle.refusal.specs.declared.Refusal.{Refusal}
use Rattle.refusal.specs.Refusals.{number_of, nothing_refused}
use Rattle.refusal.specs.Said.{first_failing, number_said, told}
use Rattle.board.specs.declared.RetractableBoard.{RetractableBoard}
use Rattle.board.specs.Gate.{gate_of, board_tests}
use Rattle.slots.specs.declared.Unlisted.{Unlisted}
use Rattle.strict.specs.Demand.{IsStrictList, Lists, counted_says, Counts, Answers}
use Rattle.laws.proofs.StrictMembers.{in_cases}
use Rattle.refusal.proofs.Saying.{never, number_one, verdict_one}
use Rattle.refusal.proofs.Tested.{behind_any}
use Rattle.refusal.proofs.Writing.{no_value, writes_any}
use Rattle.board.proofs.Numbers.{passed_gate}
use Rattle.slots.proofs.Telling.{one_listed}
use Rattle.std.specs.Prelude.{Err, Result, Ok, true, false, Bool}

in_none : {r : ChessRetraction} → In r [] → ⊥
in_none z = elim z [ ]

below_at : (i : ℕ) (r : ChessRetraction) (l : List ChessRetraction) → Below i (map place l) → In r l → i < place r
below_at i r [] b z = absurd (in_none z)
below_at i r (q ∷ l) b z = go (in_cases z) (below_at i r l b.1)
  where
    go : (r ≡ q) ⊎ In r l → (In r l → i < place r) → i < place r
    go (inl e) ih = subst (λ (x : ChessRetraction). i < place x) (sym e) b.0
    go (inr y) ih = ih y

same_list : (l k : List ChessRetraction) → Ascending (map place l) → Ascending (map place k) → ((r : ChessRetraction) → In r l ↔ In r k) → l ≡ k
same_list [] [] a b f = refl
same_list [] (q ∷ k) a b f = absurd (in_none ((f q).1 here))
same_list (r ∷ l) [] a b f = absurd (in_none ((f r).0 here))
same_list (r ∷ l) (q ∷ k) a b f = ap (λ (x : ChessRetraction). x ∷ l) heads ∙ ap (λ (x : List ChessRetraction). q ∷ x) (same_list l k a.1 b.1 tails)
  where
    heads : r ≡ q
    heads = go (in_cases ((f r).0 here)) (in_cases ((f q).1 here))
      where
        go : (r ≡ q) ⊎ In r k → (q ≡ r) ⊎ In q l → r ≡ q
        go (inl e) y = e
        go (inr z) (inl e) = sym e
        go (inr z) (inr y) = absurd (omega (arith, below_at (place q) r k b.0 z, below_at (place r) q l a.0 y))

    onward : (c d : ChessRetraction) (m n : List ChessRetraction) → c ≡ d → Below (place c) (map place m) → ((x : ChessRetraction) → In x (c ∷ m) → In x (d ∷ n)) → (x : ChessRetraction) → In x m → In x n
    onward c d m n e w g x z = go (in_cases (g x (there z)))
      where
        go : (x ≡ d) ⊎ In x n → In x n
        go (inl y) = absurd (omega (arith, below_at (place c) x m w z, ap place (y ∙ sym e)))
        go (inr y) = y

    tails : (x : ChessRetraction) → In x l ↔ In x k
    tails x = (onward r q l k heads a.0 (λ y. (f y).0) x, onward q r k l (sym heads) b.0 (λ y. (f y).1) x)

pub one_list : (b : RetractableBoard) (l k : List ChessRetraction) → IsStrictList b l → IsStrictList b k → l ≡ k
one_list b l k x y =
    same_list l k x.order y.order (λ r. ((λ z. (y.members r).1 ((x.members r).0 z)), (λ z. (x.members r).1 ((y.members r).0 z))))

-- the strict list of a board counts only where the gate lets it pass
one_where : (b : RetractableBoard) (l k : List ChessRetraction) → (gate_of b ≡ nothing_refused → IsStrictList b l) → (gate_of b ≡ nothing_refused → IsStrictList b k)
    → first_failing (board_tests b) ≡ 0 → l ≡ k
one_where b l k x y h = let a = passed_gate b h in one_list b l k (x a) (y a)

pub one_listing : (b : RetractableBoard) (s : List ℕ) (r q : Result ℕ Unlisted) (t u : List ℕ) → Lists b s r t → Lists b s q u → (r ≡ q) × (t ≡ u)
one_listing b s r q t u x y =
    one_listed y.moves r q t u
    (writes_any (map packed y.moves) (λ h. ap (map packed) (one_where b x.moves y.moves x.exact y.exact h)) x.into) y.into

counted_one : (r q : Result ℕ Refusal) → counted_says r ≡ counted_says q → r ≡ q
counted_one (Ok m) (Ok n) e = cc
counted_one (Ok m) (Err w) e = no_value e
counted_one (Err v) (Ok n) e = no_value (sym e)
counted_one (Err v) (Err w) e = ap Err (number_one v w (ap number_said e))

pub one_count : (b : RetractableBoard) (r q : Result ℕ Refusal) → Counts b r → Counts b q → r ≡ q
one_count b r q x y =
    counted_one r q
    (x.answer
    ∙ behind_any (board_tests b) _ _ (λ h. ap (λ (l : List ChessRetraction). told (length l ∷ [])) (one_where b x.moves y.moves x.exact y.exact h))
    ∙ sym y.answer)

-- no refusal has the number 0
pub no_refusal : {A : Type 0} (why : Refusal) → 0 ≡ number_of why → A
no_refusal why e = absurd (never why (sym (verdict_one nothing_refused (Err why) e)))

-- "no last move" and a last move are never both allowed
not_both : {A : Type 0} (b : RetractableBoard) → Answers b (Ok true) → Answers b (Ok false) → A
not_both b x y = let h = passed_gate b (sym x.number) in let p = (x.exists h).0 refl in absurd ((y.none h).0 refl p.0 p.1)

pub one_last_move : (b : RetractableBoard) (r q : Result Bool Refusal) → Answers b r → Answers b q → r ≡ q
one_last_move b (Ok true) (Ok true) x y = refl
one_last_move b (Ok true) (Ok false) x y = not_both b x y
one_last_move b (Ok true) (Err w) x y = no_refusal w (x.number ∙ sym y.number)
one_last_move b (Ok false) (Ok true) x y = not_both b y x
one_last_move b (Ok false) (Ok false) x y = refl
one_last_move b (Ok false) (Err w) x y = no_refusal w (x.number ∙ sym y.number)
one_last_move b (Err v) (Ok true) x y = no_refusal v (y.number ∙ sym x.number)
one_last_move b (Err v) (Ok false) x y = no_refusal v (y.number ∙ sym x.number)
one_last_move b (Err v) (Err w) x y = ap Err (number_one v w (x.number ∙ sym y.number))
