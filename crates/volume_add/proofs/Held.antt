-- The longer volume holds the boards that there were, and the new one.
use mathlib.Core.Path.{◌≡◌, refl, ◌∙◌, ap, subst}
use mathlib.Core.Bool.{true, false, false≢true}
use mathlib.Core.List.{List, [], ◌∷◌, ◌++◌}
use Prim.Native.Nat.{ℕ, zero, suc, ◌+◌, ◌*◌, ◌≤◌, ◌<◌}
use native.Mathlib.Omega.{arith}
use lib.Dec.{leb, ltb}
use lib.ListN.{length, length-append}
use borrow.Author.Tests.{leb-true, ltb-true}
use Rattle.squares.specs.Tests.{◌and◌}
use Rattle.squares.proofs.Testing.{right}
use Rattle.laws.specs.declared.Position.{Position}
use Rattle.laws.specs.Boards.{Clean}
use Rattle.accept.specs.Verdicts.{judged_of}
use Rattle.position_text.specs.Form.{StateFits}
use Rattle.volume_contents.specs.declared.Flaw.TheVariants.{Number, Order}
use Rattle.std.specs.Prelude.{Ok}
use Rattle.volume_contents.specs.Contents.{number_before}
use Rattle.volume_contents.proofs.Sound.{passes, row_of_lem}
use Rattle.volume_make.specs.Volumes.{Problem}
use Rattle.volume_read.specs.Problems.{problems_from, problems_of}
use Rattle.volume_read.specs.Reading.{Boards, Whole}
use Rattle.volume_read.proofs.Bytes.{Bytes, problems_length}
use Rattle.volume_read.proofs.Made.{AllRight, boards_of, made_whole}
use Rattle.volume_add.specs.Adding.{number_tested, with}
use Rattle.refusal.specs.Refusals.{nothing_refused}

-- a number that passes
pub number_passes : (last k : ℕ) → number_tested last k ≡ Ok tt → (last < k) × (k ≤ 65535)
unfolding number_tested
number_passes last k e =
    let a = passes (ltb 0 k and leb k 65535) Number _ e in
    let b = passes (ltb last k) Order (Ok tt) a.1 in
    (ltb-true last k b.0, leb-true k 65535 (right _ _ a.0))

boards_added : (v : List ℕ) (i : ℕ) (ps : List Position) (x : Problem) → boards_of (problems_from v i ps ++ (x ∷ [])) ≡ ps ++ (x.board ∷ [])
unfolding problems_from boards_of
boards_added v i [] x = refl
boards_added v i (p ∷ ps) x = ap (λ (z : List Position). p ∷ z) (boards_added v (suc i) ps x)

module _ (v : List ℕ) (n : ℕ) (ps : List Position) (bytes : Bytes v) (w : Whole false v n ps) where
  -- n numbers that rise from 1 on reach n
  reaches : (i : ℕ) → i ≤ n → i ≤ number_before v i
  reaches zero h = omega arith
  reaches (suc i) h = let a = reaches i (omega arith) in omega (arith, (row_of_lem false v n w.table i (omega arith)).rising)

  module _ (x : Problem) (above : number_before v n < x.number) (most : x.number ≤ 65535) (ok : judged_of x.board ≡ nothing_refused) (clean : Clean x.board.pieces x.board.colors) (square : StateFits x.board.passant) where
    all_right : (i : ℕ) (qs : List Position) → i + length qs ≡ n → Boards v n i qs → AllRight false i (number_before v i) (problems_from v i qs ++ (x ∷ []))
    unfolding problems_from
    all_right i [] e b =
        let z : n ≡ i = omega arith in (
          record {
            above = subst (λ (k : ℕ). number_before v k < x.number) z above;
            few = omega arith;
            body = record { edition = refl; clean = clean; square = square; bytes = refl };
            passes = ok;
            plain = λ q. absurd (false≢true q);
          },
          tt,
        )
    all_right i (p ∷ qs) e b =
        let r = row_of_lem false v n w.table i (omega arith) in (
          record {
            above = r.rising;
            few = omega (arith, bytes (6 + 8 * i), bytes (6 + 8 * i + 1));
            body = record { edition = b.0.0.body.edition; clean = b.0.0.body.clean; square = b.0.0.body.square; bytes = refl };
            passes = b.0.1;
            plain = λ q. absurd (false≢true q);
          },
          all_right (suc i) qs (omega arith) b.1,
        )

    longer_whole : Whole false (with v ps x.number x.board) (n + 1) (ps ++ (x.board ∷ []))
    longer_whole =
        let xs = problems_of v ps ++ (x ∷ []) in
        let l : length xs ≡ n + 1 = length-append (problems_of v ps) (x ∷ []) ∙ omega (arith, problems_length v 0 ps, w.count) in
        let m = made_whole false xs (omega (arith, reaches n (omega arith))) (all_right 0 ps (omega (arith, w.count)) w.boards) in
        subst (λ (z : List Position). Whole false (with v ps x.number x.board) (n + 1) z) (boards_added v 0 ps x)
        (subst (λ (k : ℕ). Whole false (with v ps x.number x.board) k (boards_of xs)) l m)

-- a board of clean men, whose square is of the board if one is named, is found in the volume that it was added to
pub held : (v : List ℕ) (n : ℕ) (ps : List Position) (k : ℕ) (p : Position) → Bytes v → Whole false v n ps → number_tested (number_before v n) k ≡ Ok tt → judged_of p ≡ nothing_refused
    → Clean p.pieces p.colors → StateFits p.passant → Whole false (with v ps k p) (n + 1) (ps ++ (p ∷ []))
held v n ps k p b w t j c s =
    let a = number_passes (number_before v n) k t in
    longer_whole v n ps b w (record { number = k; board = p }) a.0 a.1 j c s
