-- What a board's methods say leaves one answer: a verdict with the number of the first test that fails gives what is promised, and any two
-- answers that say the same are the same.
use mathlib.Core.Path.{◌≡◌, refl, sym, ap, ◌∙◌}
use mathlib.Core.Bool.{Bool, true, false, not, cond}
use mathlib.Core.List.{List, [], ◌∷◌}
use Prim.Native.Nat.{ℕ}
use native.Mathlib.Omega.{arith}
use lib.Dec.{eqb}
use lib.ListN.{get_or}
use Rattle.squares.specs.Squares.{flag}
use Rattle.laws.specs.declared.Piece.{Piece}
use Rattle.laws.specs.declared.Piece.TheVariants.{Pawn, Knight, Bishop, Rook, Queen, King}
use Rattle.laws.specs.Men.{kind_number}
use Rattle.refusal.specs.Refusals.{verdict_number, Verdict}
use Rattle.refusal.specs.Said.{Test, first_failing, Said, says, told, behind}
use Rattle.board.specs.declared.RetractableBoard.{RetractableBoard}
use Rattle.board.specs.declared.Boarded.{Boarded}
use Rattle.board.specs.declared.PieceTold.{PieceTold}
use Rattle.board.specs.declared.AttackersTold.{AttackersTold}
use Rattle.board.specs.declared.AttackTold.{AttackTold}
use Rattle.board.specs.Gate.{no_board, kept_by, boarded_by}
use Rattle.board.specs.Said.{kept_behind, Boards, Tells, piece_says, attackers_says, attacked_says}
use Rattle.board.specs.inner.Gates.{told_of}
use Rattle.refusal.proofs.Saying.{some_number, number_one, verdict_one, said_by, behind_by}
use Rattle.std.specs.Prelude.{Ok, Err, Result, Option, None, Some}
use Rattle.refusal.specs.declared.Refusal.{Refusal}

module _ (v : Verdict) (ts : List Test) (b : RetractableBoard) (h : verdict_number v ≡ first_failing ts) where
  -- the board beside a verdict
  kept_behind_lem : kept_by v b ≡ kept_behind ts b
  kept_behind_lem = go v ∙ ap (λ (n : ℕ). cond (eqb n 0) b no_board) h
    where
      go : (w : Verdict) → kept_by w b ≡ cond (eqb (verdict_number w) 0) b no_board
      go (Ok _) = refl
      go (Err r) = rw (some_number r)

  pub boards_by : Boards ts b (boarded_by v b)
  boards_by = record { number = h; board = kept_behind_lem }

  pub boards_is : (r : Boarded) → Boards ts b r → r ≡ boarded_by v b
  boards_is r k = λ i. record { verdict = verdict_one r.verdict v (k.number ∙ sym h) i; board = (k.board ∙ sym kept_behind_lem) i }

  pub tells_by : (x : Said) {answer : Said} {left : RetractableBoard} → answer ≡ said_by v x → left ≡ kept_by v b → Tells ts x b answer left
  tells_by x p q = record { said = p ∙ behind_by v ts x h; board = q ∙ kept_behind_lem }

-- any two answers agree
pub boards_one : {ts : List Test} {b : RetractableBoard} (r q : Boarded) → Boards ts b r → Boards ts b q → r ≡ q
boards_one r q k l = λ i. record { verdict = verdict_one r.verdict q.verdict (k.number ∙ sym l.number) i; board = (k.board ∙ sym l.board) i }

-- a kind by its number
kind_back : ℕ → Result (Option Piece) Refusal
kind_back n = get_or ((Ok None) ∷ Ok (Some Pawn) ∷ Ok (Some Knight) ∷ Ok (Some Bishop) ∷ Ok (Some Rook) ∷ Ok (Some Queen) ∷ Ok (Some King) ∷ []) n (Ok None)

kind_back_lem : (k : Piece) → kind_back (kind_number k) ≡ Ok (Some k)
unfolding kind_back
kind_back_lem Pawn = refl
kind_back_lem Knight = refl
kind_back_lem Bishop = refl
kind_back_lem Rook = refl
kind_back_lem Queen = refl
kind_back_lem King = refl

pub piece_one : (x y : Result (Option Piece) Refusal) → piece_says x ≡ piece_says y → x ≡ y
unfolding kind_back
piece_one (Ok None) (Ok None) h = refl
piece_one (Ok None) (Ok (Some k)) h = let e : 0 ≡ kind_number k = cc in ap kind_back e ∙ kind_back_lem k
piece_one (Ok (Some k)) (Ok None) h = let e : kind_number k ≡ 0 = cc in sym (kind_back_lem k) ∙ ap kind_back e
piece_one (Ok (Some k)) (Ok (Some l)) h = let e : kind_number k ≡ kind_number l = cc in sym (kind_back_lem k) ∙ ap kind_back e ∙ kind_back_lem l
piece_one (Err r) (Err q) h = ap Err (number_one r q (cc))
piece_one (Ok None) (Err q) h = let z : ◌≡◌ {A = ℕ} 0 1 = cc in absurd (omega arith)
piece_one (Ok (Some k)) (Err q) h = let z : ◌≡◌ {A = ℕ} 0 1 = cc in absurd (omega arith)
piece_one (Err r) (Ok None) h = let z : ◌≡◌ {A = ℕ} 0 1 = cc in absurd (omega arith)
piece_one (Err r) (Ok (Some l)) h = let z : ◌≡◌ {A = ℕ} 0 1 = cc in absurd (omega arith)

pub attackers_one : (x y : Result ℕ Refusal) → attackers_says x ≡ attackers_says y → x ≡ y
attackers_one (Ok s) (Ok u) h = ap Ok (cc)
attackers_one (Err r) (Err q) h = ap Err (number_one r q (cc))
attackers_one (Ok s) (Err q) h = let z : ◌≡◌ {A = ℕ} 0 1 = cc in absurd (omega arith)
attackers_one (Err r) (Ok u) h = let z : ◌≡◌ {A = ℕ} 0 1 = cc in absurd (omega arith)

pub attacked_one : (x y : Result Bool Refusal) → attacked_says x ≡ attacked_says y → x ≡ y
attacked_one (Ok true) (Ok true) h = refl
attacked_one (Ok false) (Ok false) h = refl
attacked_one (Err r) (Err q) h = ap Err (number_one r q (cc))
attacked_one (Ok true) (Ok false) h = let z : ◌≡◌ {A = ℕ} 0 1 = cc in absurd (omega arith)
attacked_one (Ok false) (Ok true) h = let z : ◌≡◌ {A = ℕ} 0 1 = cc in absurd (omega arith)
attacked_one (Ok true) (Err q) h = let z : ◌≡◌ {A = ℕ} 0 1 = cc in absurd (omega arith)
attacked_one (Ok false) (Err q) h = let z : ◌≡◌ {A = ℕ} 0 1 = cc in absurd (omega arith)
attacked_one (Err r) (Ok true) h = let z : ◌≡◌ {A = ℕ} 0 1 = cc in absurd (omega arith)
attacked_one (Err r) (Ok false) h = let z : ◌≡◌ {A = ℕ} 0 1 = cc in absurd (omega arith)

-- whether there is an attacker, by what is said of them
some_said : Said → Said
some_said (says n []) = says n []
some_said (says n (s ∷ vs)) = says n (flag (not (eqb s 0)) ∷ [])

some_said_lem : (x : Result ℕ Refusal) → attacked_says (told_of x) ≡ some_said (attackers_says x)
unfolding some_said
some_said_lem (Ok s) = go (not (eqb s 0))
  where
    go : (t : Bool) → attacked_says (Ok t) ≡ told (flag t ∷ [])
    go true = refl
    go false = refl
some_said_lem (Err r) = refl

pub told_behind : (ts : List Test) (x y : Result ℕ Refusal) → attackers_says y ≡ behind ts (attackers_says x) → attacked_says (told_of y) ≡ behind ts (attacked_says (told_of x))
unfolding behind some_said
told_behind ts x y h = some_said_lem y ∙ ap some_said h ∙ go (eqb (first_failing ts) 0)
  where
    go : (t : Bool) → some_said (cond t (attackers_says x) (says (first_failing ts) [])) ≡ cond t (attacked_says (told_of x)) (says (first_failing ts) [])
    go true = sym (some_said_lem x)
    go false = refl

module _ {ts : List Test} {x : Said} {b : RetractableBoard} where
  pub piece_told_one : (r q : PieceTold) → Tells ts x b (piece_says r.answer) r.board → Tells ts x b (piece_says q.answer) q.board → r ≡ q
  piece_told_one r q k l = λ i. record { answer = piece_one r.answer q.answer (k.said ∙ sym l.said) i; board = (k.board ∙ sym l.board) i }

  pub attackers_told_one : (r q : AttackersTold) → Tells ts x b (attackers_says r.answer) r.board → Tells ts x b (attackers_says q.answer) q.board → r ≡ q
  attackers_told_one r q k l = λ i. record { answer = attackers_one r.answer q.answer (k.said ∙ sym l.said) i; board = (k.board ∙ sym l.board) i }

  pub attack_told_one : (r q : AttackTold) → Tells ts x b (attacked_says r.answer) r.board → Tells ts x b (attacked_says q.answer) q.board → r ≡ q
  attack_told_one r q k l = λ i. record { answer = attacked_one r.answer q.answer (k.said ∙ sym l.said) i; board = (k.board ∙ sym l.board) i }
