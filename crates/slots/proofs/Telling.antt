-- What a listing tells by its answer, and that any two answers agree.
use mathlib.Core.Path.{◌≡◌, sym, ap, ◌∙◌}
use mathlib.Core.List.{List, [], map}
use Prim.Native.Nat.{ℕ, ◌≤◌, ◌<◌}
use native.Mathlib.Omega.{arith}
use lib.ListN.{length, length-map}
use Rattle.laws.specs.declared.ChessRetraction.{ChessRetraction}
use Rattle.laws.specs.Retractions.{packed}
use Rattle.refusal.specs.Said.{Test, number_said, Writes}
use Rattle.slots.specs.declared.Unlisted.{Unlisted}
use Rattle.slots.specs.Slots.{fill_from, listed_says}
use Rattle.refusal.proofs.Saying.{number_one}
use Rattle.refusal.proofs.Writing.{no_value, no_room, writes_roomless, writes_whole, writes_one, Written, Roomless, Failed, tells_count, tells_room, tells_refused}
use Rattle.slots.proofs.Filling.{filled_is}
use Rattle.refusal.specs.declared.Refusal.{Refusal}
use Rattle.std.specs.Prelude.{Err, Ok, Result}
use Rattle.slots.specs.declared.Unlisted.TheVariants.{Room, Refused}

-- an answer whose length is the list's: it has no room, or it was written
module _ (l : List ChessRetraction) (n : ℕ) (e : n ≡ length l) where
  size : n ≡ length (map packed l)
  size = e ∙ sym (length-map l packed)

  pub listed_roomless : {s : List ℕ} → length s < n → Writes [] (map packed l) s (listed_says (Err (Room n))) s
  listed_roomless h = writes_roomless n size h

  pub listed_written : {s after : List ℕ} → n ≤ length s → after ≡ fill_from s 0 l → Writes [] (map packed l) s (listed_says (Ok n)) after
  listed_written {s} h k = writes_whole n size h (k ∙ filled_is s l (omega arith))

-- what each answer tells
abbrev pub Tells : List Test → List ChessRetraction → List ℕ → Result ℕ Unlisted → List ℕ → Type 0
Tells ts l s (Ok n) after = Written ts (map packed l) s n after
Tells ts l s (Err (Room n)) after = Roomless ts (map packed l) s n after
Tells ts l s (Err (Refused why)) after = Failed ts s why after

pub listing_tells : {ts : List Test} {s after : List ℕ} (l : List ChessRetraction) (r : Result ℕ Unlisted) → Writes ts (map packed l) s (listed_says r) after → (x : Result ℕ Unlisted) → r ≡ x → Tells ts l s x after
listing_tells l r w (Ok n) e = tells_count w n (ap listed_says e)
listing_tells l r w (Err (Room n)) e = tells_room w n (ap listed_says e)
listing_tells l r w (Err (Refused why)) e = tells_refused w why (ap listed_says e)

-- what is said settles the answer
listed_one : (r q : Result ℕ Unlisted) → listed_says r ≡ listed_says q → r ≡ q
listed_one (Ok m) (Ok n) e = cc
listed_one (Ok m) (Err (Room n)) e = no_room e
listed_one (Ok m) (Err (Refused w)) e = no_value e
listed_one (Err (Room m)) (Ok n) e = no_room (sym e)
listed_one (Err (Room m)) (Err (Room n)) e = cc
listed_one (Err (Room m)) (Err (Refused w)) e = no_value e
listed_one (Err (Refused v)) (Ok n) e = no_value (sym e)
listed_one (Err (Refused v)) (Err (Room n)) e = no_value (sym e)
listed_one (Err (Refused v)) (Err (Refused w)) e = ap (λ (z : Refusal). Err (Refused z)) (number_one v w (ap number_said e))

-- any two answers, and any two contents of the slots, agree
pub one_listed : {ts : List Test} {s : List ℕ} (l : List ChessRetraction) (r q : Result ℕ Unlisted) (t u : List ℕ) → Writes ts (map packed l) s (listed_says r) t → Writes ts (map packed l) s (listed_says q) u
    → (r ≡ q) × (t ≡ u)
one_listed l r q t u x y = let o = writes_one x y in (listed_one r q o.0, o.1)
