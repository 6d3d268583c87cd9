-- Quotas that fit leave room for every place of each desk.
use mathlib.Core.Path.{◌≡◌, refl}
use mathlib.Core.Bool.{Bool, true, false}
use mathlib.Core.List.{List}
use Prim.Native.Nat.{ℕ, ◌+◌, ◌-◌, ◌/◌, ◌<◌, ◌≤◌}
use native.Mathlib.Omega.{arith}
use native.Mathlib.Nat.{div-add-mod'}
use lib.Dec.{leb}
use lib.ListN.{length}
use borrow.Author.Tests.{leb-true, leb-false, le-leb, lt-leb}
use Rattle.squares.specs.Tests.{◌and◌}
use Rattle.desks.specs.Layout.{base, quota_at, room, fits}
use Rattle.squares.proofs.Testing.{left, right}

module _ (n p q : ℕ) where
  pub has_room : room n p q ≡ true → (2 ≤ n) × (base (p + q) ≤ n)
  unfolding room
  has_room e =
      let two : 2 ≤ n = leb-true 2 n (left _ _ e) in
      let all : p + q ≤ (n - 2) / 16 = leb-true (p + q) ((n - 2) / 16) (right _ _ e) in
      (two, omega (arith, div-add-mod' (n - 2) 16))

  -- the test as the code makes it, in which no sum wraps
  pub room_short : n < 2 → false ≡ room n p q
  unfolding room ◌and◌
  room_short h = rw (lt-leb 2 n h)

  pub room_first : 2 ≤ n → (n - 2) / 16 < p → false ≡ room n p q
  unfolding room ◌and◌
  room_first h k =
      let l : (n - 2) / 16 < p + q = omega arith in
      rw (le-leb 2 n h, lt-leb (p + q) ((n - 2) / 16) l)

  pub room_second : 2 ≤ n → p ≤ (n - 2) / 16 → leb q ((n - 2) / 16 - p) ≡ room n p q
  unfolding room ◌and◌
  room_second h k = rw (le-leb 2 n h) (go (leb q ((n - 2) / 16 - p)) refl)
    where
      go : (y : Bool) → leb q ((n - 2) / 16 - p) ≡ y → y ≡ leb (p + q) ((n - 2) / 16)
      go true e =
          let l : q ≤ (n - 2) / 16 - p = leb-true q ((n - 2) / 16 - p) e in
          let u : p + q ≤ (n - 2) / 16 = omega arith in
          rw (le-leb (p + q) ((n - 2) / 16) u)
      go false e =
          let l : (n - 2) / 16 - p < q = leb-false q ((n - 2) / 16 - p) e in
          let u : (n - 2) / 16 < p + q = omega arith in
          rw (lt-leb (p + q) ((n - 2) / 16) u)

pub fit_room : (s : List ℕ) → fits s ≡ true → (2 ≤ length s) × (base (quota_at s 0 + quota_at s 1) ≤ length s)
unfolding fits
fit_room s e = has_room (length s) (quota_at s 0) (quota_at s 1) e
