-- The strict test by un-make's answer and by what is asked of the earlier position.
use mathlib.Core.Path.{◌≡◌, refl, sym, ap, ◌∙◌, subst}
use mathlib.Core.Bool.{Bool, true, false, not, ◌&&◌, not-not}
use Prim.Native.Nat.{ℕ}
use borrow.Author.Tests.{eqb-true, eq-eqb}
use Rattle.squares.specs.Tests.{◌and◌}
use Rattle.laws.specs.declared.EnPassantFlag.{EnPassantFlag}
use Rattle.laws.specs.declared.EnPassantFlag.TheVariants.{Any, Some, None}
use Rattle.laws.specs.declared.ChessRetraction.{ChessRetraction}
use Rattle.laws.specs.Men.{Man, Men, man_number, man_of}
use Rattle.laws.specs.Souls.{souls, souls_ok}
use Rattle.geometry.specs.declared.Color.{Color}
use Rattle.geometry.specs.declared.Color.TheVariants.{White, Black}
use Rattle.geometry.specs.Colors.{opp}
use lib.Dec.{leb}
use Rattle.laws.specs.Positions.{Pos, retractor}
use Rattle.laws.specs.Acceptance.{kings_ok, state_ok, quiet, accepted}
use Rattle.laws.specs.Moves.{way, safe, is_named}
use Rattle.laws.specs.Unmaking.{unmade}
use Rattle.refusal.specs.declared.Refusal.{Refusal}
use Rattle.laws.specs.Boards.{Clean, men_in, pos_at}
use Rattle.laws.specs.declared.Position.{Position}
use Rattle.laws.specs.declared.Way.{Way}
use Rattle.moves.specs.inner.Parts.{way_for}
use Rattle.position.specs.declared.Positioned.{Positioned}
use Rattle.unmake.specs.Retracted.{unmade_for, unmade_to}
use Rattle.replay.specs.inner.Parts.{state_for}
use Rattle.strict_test.specs.inner.Strictly.{counts_for, safe_for, none_for, agrees_for, earlier_for, strict_for, Today, Earlier}
use Rattle.squares.proofs.Testing.{both, left, right, bool_ext}
use Rattle.laws.proofs.Facts.{accepts, accepted_by}
use Rattle.laws.proofs.Retracting.{mover, can_retract, back}
use Rattle.laws.proofs.Passes.{Passes, unmade_passes}
use Rattle.refusal.proofs.Saying.{never}
use Rattle.position.proofs.Editing.{is_man}
use Rattle.unmake.proofs.Returned.{accepted_can, answer_is, unmade_shown, unmade_clean}
use Rattle.refusal.specs.Refusals.{nothing_refused}
use Rattle.std.specs.Prelude.{Err}

-- a strict retraction passes 9 to 12
pub strict_can : (p : Pos) (r : ChessRetraction) → strict_for p r ≡ true → can_retract p r ≡ true
unfolding strict_for
strict_can p r h = left _ _ (left _ _ (left _ _ (left _ _ h)))

-- where 9 to 12 pass on an accepted position, the rest of the strict test is asked of the un-made position
module _ (p : Pos) (r : ChessRetraction) (ok : accepted p ≡ true) (R : can_retract p r ≡ true) where
  abbrev e : Pos
  e = unmade p r

  there : e.men r.target ≡ mover p r
  there = (back p r R).there

  passes : Passes e
  passes = unmade_passes p r ok R

  strict_then : earlier_for e r p.state ≡ true → strict_for p r ≡ true
  unfolding strict_for earlier_for counts_for agrees_for state_for safe_for way_for
  strict_then h =
      both (both (both (both R (accepted_by e (record { kings = passes.kings; pawns = passes.pawns; rights = passes.rights; state = passes.state; calm = right _ _ h })))
      (left _ _ (left _ _ (left _ _ h))))
      (subst (λ (z : Man). safe e.men (way z r.target r.source r.uncaptured) (retractor p) ≡ true) there (right _ _ (left _ _ h))))
      (right _ _ (left _ _ (left _ _ h)))

  strict_so : strict_for p r ≡ true → earlier_for e r p.state ≡ true
  unfolding strict_for earlier_for counts_for agrees_for state_for safe_for way_for
  strict_so h =
      both (both (both (right _ _ (left _ _ (left _ _ h))) (right _ _ h))
      (subst (λ (z : Man). safe e.men (way z r.target r.source r.uncaptured) (retractor p) ≡ true) (sym there) (right _ _ (left _ _ h))))
      (accepts e (right _ _ (left _ _ (left _ _ (left _ _ h))))).calm

  pub strict_by : earlier_for e r p.state ≡ strict_for p r
  strict_by = bool_ext _ _ strict_then strict_so

module _ (p : Position) (r : ChessRetraction) (today : Today p) (u : Positioned) (is : u ≡ unmade_to (pos_at p) r) where
  can : u.verdict ≡ nothing_refused → can_retract (pos_at p) r ≡ true
  can k = accepted_can (pos_at p) r (sym (ap (λ (x : Positioned). x.verdict) is) ∙ k)

  position_is : u.verdict ≡ nothing_refused → u.position ≡ unmade_for (pos_at p) r
  position_is k = ap (λ (x : Positioned). x.position) (is ∙ answer_is (pos_at p) r (can k))

  shown : u.verdict ≡ nothing_refused → pos_at u.position ≡ unmade (pos_at p) r
  shown k = ap (λ (q : Position). pos_at q) (position_is k) ∙ unmade_shown p r (can k)

  pub earlier_ready : u.verdict ≡ nothing_refused → Earlier u.position r
  earlier_ready k = record {
    sound = subst (λ (q : Position). Clean q.pieces q.colors) (sym (position_is k)) (unmade_clean p r (can k));
    kings = subst (λ (q : Pos). kings_ok q.men ≡ true) (sym (shown k)) (unmade_passes (pos_at p) r today.lawful (can k)).kings;
    state = subst (λ (q : Pos). state_ok q.terms.edition q.men q.turn q.state ≡ true) (sym (shown k)) (unmade_passes (pos_at p) r today.lawful (can k)).state;
    source_in = (back (pos_at p) r (can k)).can.source_in;
    target_in = (back (pos_at p) r (can k)).can.target_in;
  }

  pub strict_told : u.verdict ≡ nothing_refused → earlier_for (pos_at u.position) r p.passant ≡ strict_for (pos_at p) r
  strict_told k = ap (λ (q : Pos). earlier_for q r p.passant) (shown k) ∙ strict_by (pos_at p) r today.lawful (can k)

  pub strict_refused : (why : Refusal) → u.verdict ≡ Err why → false ≡ strict_for (pos_at p) r
  strict_refused why k = go (strict_for (pos_at p) r) refl
    where
      go : (b : Bool) → strict_for (pos_at p) r ≡ b → false ≡ b
      go false h = refl
      go true h =
          absurd (never why (sym k ∙ ap (λ (x : Positioned). x.verdict) (is ∙ answer_is (pos_at p) r (strict_can (pos_at p) r h))))

-- the tests as the code writes them
pub souls_by_lem : (m : Men) (c : Color) → (leb (souls m c) 8 && leb (souls m (opp c)) 8) ≡ souls_ok m
unfolding ◌and◌
souls_by_lem m White = refl
souls_by_lem m Black = and_turned (leb (souls m Black) 8) (leb (souls m White) 8)
  where
    and_turned : (a b : Bool) → (a && b) ≡ (b && a)
    and_turned true true = refl
    and_turned true false = refl
    and_turned false true = refl
    and_turned false false = refl

pub agrees_named : (q : ℕ) (after : EnPassantFlag) → is_named after q ≡ agrees_for (Some q) after
unfolding agrees_for
agrees_named q Any = refl
agrees_named q None = refl
agrees_named q (Some k) = bool_ext _ _ (λ z. eq-eqb q k (sym (eqb-true k q z))) (λ z. eq-eqb k q (sym (eqb-true q k z)))

pub agrees_none : (after : EnPassantFlag) → none_for after ≡ agrees_for None after
unfolding agrees_for
agrees_none Any = refl
agrees_none None = refl
agrees_none (Some k) = refl

-- the tests of the earlier position, one after the other: x is the number of the man that moves
module _ (e : Position) (r : ChessRetraction) (today : EnPassantFlag) where
  pub miscounts : counts_for (pos_at e) ≡ false → false ≡ earlier_for (pos_at e) r today
  unfolding earlier_for ◌and◌
  miscounts a = rw a

  module _ {x : ℕ} {after : EnPassantFlag} (is : x ≡ man_number (men_in e r.target)) (state : after ≡ state_for e.terms.edition (men_in e) (man_of x) r.target r.source) where
    after_is : after ≡ state_for e.terms.edition (men_in e) (men_in e r.target) r.target r.source
    after_is = state ∙ ap (λ (z : Man). state_for e.terms.edition (men_in e) z r.target r.source) (is_man (men_in e r.target) is)

    pub no_agreement : counts_for (pos_at e) ≡ true → agrees_for today after ≡ false → false ≡ earlier_for (pos_at e) r today
    unfolding earlier_for ◌and◌
    no_agreement a b = rw (a, ← after_is, b)

    module _ (w : Way) (is_way : w ≡ way_for (man_of x) r.target r.source r.uncaptured) (a : counts_for (pos_at e) ≡ true) (b : agrees_for today after ≡ true) where
      rest : (safe_for (men_in e) w e.turn and quiet (men_in e) e.turn) ≡ earlier_for (pos_at e) r today
      unfolding earlier_for ◌and◌
      rest =
          let way_is : w ≡ way_for (men_in e r.target) r.target r.source r.uncaptured = is_way ∙ ap (λ (z : Man). way_for z r.target r.source r.uncaptured) (is_man (men_in e r.target) is) in
          rw (a, ← after_is, b, ← way_is)

      pub not_safe : safe_for (men_in e) w e.turn ≡ false → false ≡ earlier_for (pos_at e) r today
      unfolding ◌and◌
      not_safe d = ap (λ (z : Bool). z and quiet (men_in e) e.turn) (sym d) ∙ rest

      pub then_calm : {z : Bool} → safe_for (men_in e) w e.turn ≡ true → z ≡ not (quiet (men_in e) e.turn) → not z ≡ earlier_for (pos_at e) r today
      unfolding ◌and◌
      then_calm d f = ap not f ∙ not-not (quiet (men_in e) e.turn) ∙ ap (λ (z : Bool). z and quiet (men_in e) e.turn) (sym d) ∙ rest
