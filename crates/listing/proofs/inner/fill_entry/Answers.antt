-- `listing::inner::fill_entry` meets its contract.
use mathlib.Core.Path.{sym, ap, subst}
use mathlib.Core.Bool.{Bool, not}
use mathlib.Core.List.{List}
use Prim.Native.Nat.{ℕ, ◌+◌, ◌≤◌, ◌<◌}
use lib.ListN.{length}
use Rattle.squares.specs.Tests.{◌and◌}
use Rattle.laws.specs.declared.ChessRetraction.{ChessRetraction}
use Rattle.squares.proofs.Turns.{taken_lt}
use Rattle.listing.proofs.Allowed.{unpromotes, uncaptures_lt, entry_gives}
use Rattle.listing.proofs.Filling.{filling_starts, filling_on, filling_done, fills_same}
use Rattle.listing.proofs.Walking.{entry_after, entry_room, entry_over}
use Rattle.listing.proofs.inner.fill_entry.Goals as goal

pub loop-target-init : goal.loop-target-init
unfolding unpromotes ◌and◌
loop-target-init c =
    let e = c.args.e in
    let same = entry_gives c.args.masks.now e (ap (λ (t : Bool). not t and e.unpromotion) c.is_un_en_passant.ensures) c.uncaptures-us.ensures in
    rw (c.into_iter-target-iterator.ensures.into_iter_gives, c.each-target-items.ensures)
    (filling_starts _ _ _ (subst (λ (l : List ChessRetraction). c.args.start + length l ≤ length c.args.slots.now) (sym same) c.requires.1))

pub fill_target-n-requires : goal.fill_target-n-requires
fill_target-n-requires c =
    let us-lt : c.uncaptures-us.result < 64 = subst (λ (x : ℕ). x < 64) (sym c.uncaptures-us.ensures) (uncaptures_lt c.args.masks.now c.args.e) in
    (c.requires.0, us-lt, taken_lt _ c.in-Some.ensures.steps, entry_room _ _ c.in-Some.ensures.steps _ c.loop-target.invariant)

pub loop-target-preserved : goal.loop-target-preserved
loop-target-preserved c = filling_on c.loop-target.invariant _ _ (entry_after _ _ c.in-Some.ensures.steps _) c.fill_target-n.ensures

pub shape_of-slots : goal.shape_of-slots
shape_of-slots c = c.loop-target.invariant.same

pub returns : goal.returns
unfolding unpromotes ◌and◌
returns c =
    let e = c.args.e in
    let same = entry_gives c.args.masks.now e (ap (λ (t : Bool). not t and e.unpromotion) c.is_un_en_passant.ensures) c.uncaptures-us.ensures in
    fills_same same (filling_done c.loop-target.invariant (entry_over _ c.in-None.ensures.steps.0 _))
