-- What the code's verdicts say of a castling, and that any two answers agree.
use mathlib.Core.Path.{◌≡◌, sym, ap, ◌∙◌, subst}
use mathlib.Core.Bool.{true}
use mathlib.Core.List.{List, ◌++◌}
use Prim.Native.Nat.{ℕ}
use native.Mathlib.Omega.{arith}
use Rattle.geometry.specs.declared.Color.{Color}
use Rattle.laws.specs.declared.Piece.TheVariants.{King}
use Rattle.laws.specs.declared.Side.{Side}
use Rattle.laws.specs.declared.Position.{Position}
use Rattle.laws.specs.declared.ChessRetraction.{ChessRetraction}
use Rattle.laws.specs.Men.{man, same_man}
use Rattle.laws.specs.Positions.{Pos, retractor, king_to}
use Rattle.laws.specs.Boards.{men_in, pos_at, Clean}
use Rattle.std.specs.Prelude.{Result, Ok, Err}
use Rattle.refusal.specs.declared.Refusal.{Refusal}
use Rattle.refusal.specs.declared.Refusal.TheVariants.{Step}
use Rattle.refusal.specs.Refusals.{verdict_number, Verdict, nothing_refused}
use Rattle.refusal.specs.Said.{Test, first_failing, Said, behind}
use Rattle.position.specs.declared.Positioned.{Positioned}
use Rattle.unmake.specs.Retracted.{unmade_for, unmade_to}
use Rattle.board.specs.declared.RetractableBoard.{RetractableBoard}
use Rattle.board.specs.Gate.{gate_of, board_tests}
use Rattle.board.specs.Moving.{unmake_tests}
use Rattle.castling.specs.declared.KingsWay.{KingsWay}
use Rattle.castling.specs.Castlings.{uncastling, uncastle_tests, kings_way, way_before, castling_says}
use Rattle.castling.specs.inner.Kings.{king_after}
use Rattle.laws.proofs.Retracting.{can_retract}
use Rattle.refusal.proofs.Saying.{number_one, then_number, both_accept, said_by, behind_by}
use Rattle.refusal.proofs.Tested.{behind_more}
use Rattle.unmake.proofs.Returned.{accepted_can, answer_is, unmade_shown, unmade_clean}
use Rattle.board.proofs.Passing.{gate_number}
use Rattle.board.proofs.Moving.{answer_number}

-- the number of the verdict is that of the first test that fails
uncastle_number : (p : Pos) (d : Side)
    → verdict_number (king_after (unmade_to p (uncastling (retractor p) d)).verdict p.men (retractor p) (king_to (retractor p) d)) ≡ first_failing (uncastle_tests p d)
uncastle_number p d =
    let r = uncastling (retractor p) d in
    then_number (unmade_to p r).verdict (unmake_tests p r) (same_man (p.men r.source) (man (retractor p) King)) Step (answer_number p r)

-- the un-castling that the code tries: the retractor c, the retraction r, un-make's answer u and the verdict v
module _ (p : Position) (d : Side) {c : Color} {r : ChessRetraction} {u : Positioned} {v : Verdict}
    (side : c ≡ retractor (pos_at p)) (back : r ≡ uncastling c d) (answer : u ≡ unmade_to (pos_at p) r) (verdict : v ≡ king_after u.verdict (men_in p) c r.source) where
  abbrev r' : ChessRetraction
  r' = uncastling (retractor (pos_at p)) d

  back_is : r ≡ r'
  back_is = back ∙ ap (λ (z : Color). uncastling z d) side

  answer_to : u ≡ unmade_to (pos_at p) r'
  answer_to = answer ∙ ap (unmade_to (pos_at p)) back_is

  number : verdict_number v ≡ first_failing (uncastle_tests (pos_at p) d)
  number = ap verdict_number (verdict ∙ (λ i. king_after (answer_to i).verdict (men_in p) (side i) (back_is i).source)) ∙ uncastle_number (pos_at p) d

  pub uncastle_said : (x : Said) {z : Verdict} → v ≡ z → said_by z x ≡ behind (uncastle_tests (pos_at p) d) x
  uncastle_said x h = ap (λ (w : Verdict). said_by w x) (sym h) ∙ behind_by v (uncastle_tests (pos_at p) d) x number

  -- where it accepts, un-make's answer has the men before the castling, clean
  module _ (h : v ≡ nothing_refused) where
    can : can_retract (pos_at p) r' ≡ true
    can = accepted_can (pos_at p) r' (ap (λ (z : Positioned). z.verdict) (sym answer_to) ∙ (both_accept u.verdict _ (sym verdict ∙ h)).0)

    earlier : u.position ≡ unmade_for (pos_at p) r'
    earlier = ap (λ (z : Positioned). z.position) (answer_to ∙ answer_is (pos_at p) r' can)

    pub earlier_clean : Clean u.position.pieces u.position.colors
    earlier_clean = subst (λ (q : Position). Clean q.pieces q.colors) (sym earlier) (unmade_clean p r' can)

    pub earlier_way : kings_way (men_in u.position) c d ≡ way_before (pos_at p) d
    unfolding way_before
    earlier_way = (λ i. kings_way (men_in (earlier i)) (side i) d) ∙ ap (λ (q : Pos). kings_way q.men (retractor (pos_at p)) d) (unmade_shown p r' can)

-- what is said behind the gate
pub gate_said : (b : RetractableBoard) (us : List Test) (x : Said) {v z : Verdict} → v ≡ gate_of b → v ≡ z → said_by z (behind us x) ≡ behind (board_tests b ++ us) x
gate_said b us x {v} e h =
    ap (λ (w : Verdict). said_by w (behind us x)) (sym h) ∙ behind_by v (board_tests b) (behind us x) (ap verdict_number e ∙ gate_number b)
    ∙ sym (behind_more (board_tests b) us x)

-- any two answers agree
pub castling_one : (x y : Result KingsWay Refusal) → castling_says x ≡ castling_says y → x ≡ y
castling_one (Ok v) (Ok w) h = λ i. Ok (record { home = a i; crossed = b i; reached = c i })
  where
    a : v.home ≡ w.home
    a = cc

    b : v.crossed ≡ w.crossed
    b = cc

    c : v.reached ≡ w.reached
    c = cc
castling_one (Err r) (Err q) h = ap Err (number_one r q (cc))
castling_one (Ok v) (Err q) h = let z : ◌≡◌ {A = ℕ} 0 1 = cc in absurd (omega arith)
castling_one (Err r) (Ok w) h = let z : ◌≡◌ {A = ℕ} 0 1 = cc in absurd (omega arith)
