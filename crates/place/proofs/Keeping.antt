-- A board comes back from its words.
use mathlib.Core.Path.{◌≡◌, refl}
use mathlib.Core.Bool.{true, false}
use mathlib.Core.List.{List, [], ◌∷◌}
use Prim.Native.Nat.{ℕ, ◌+◌, ◌-◌, ◌<◌}
use native.Mathlib.Omega.{arith}
use lib.Dec.{eqb}
use lib.ListN.{length, get_or}
use borrow.Author.Tests.{ne_eqb, lt-ltb}
use Rattle.geometry.specs.declared.Color.{Color}
use Rattle.geometry.specs.declared.Color.TheVariants.{White, Black}
use Rattle.laws.specs.declared.CastleRights.{CastleRights}
use Rattle.laws.specs.declared.CastleRights.TheVariants.{NoRights, KingSide, QueenSide, Both}
use Rattle.laws.specs.declared.EnPassantFlag.{EnPassantFlag}
use Rattle.laws.specs.declared.EnPassantFlag.TheVariants.{Any, Some, None}
use Rattle.laws.specs.declared.Edition.{Edition}
use Rattle.laws.specs.declared.Edition.TheVariants.{A, B}
use Rattle.laws.specs.Men.{Men}
use Rattle.laws.specs.Acceptance.{state_ok}
use Rattle.laws.specs.Boards.{Shaped}
use Rattle.refusal.specs.Said.{first_failing}
use Rattle.board.specs.declared.RetractableBoard.{RetractableBoard}
use Rattle.board.specs.Gate.{men_on, pos_on, to_laws, board_tests}
use Rattle.place.specs.Words.{mark_word, edition_read, color_word, color_read, rights_word, rights_read, state_word, state_read, words_of, board_read}
use Rattle.laws.proofs.Facts.{accepts, names}
use Rattle.board.proofs.Passing.{gate_passed}
use Rattle.board.proofs.Numbers.{passed_gate}

edition_back : (v : Edition) → edition_read (mark_word v) ≡ v
edition_back A = refl
edition_back B = refl

color_back : (c : Color) → color_read (color_word c) ≡ c
color_back White = refl
color_back Black = refl

rights_back : (r : CastleRights) → rights_read (rights_word r) ≡ r
rights_back NoRights = refl
rights_back KingSide = refl
rights_back QueenSide = refl
rights_back Both = refl

-- a state that passes 5 names a square of the board
state_back : (v : Edition) (m : Men) (c : Color) (st : EnPassantFlag) → state_ok v m c st ≡ true → state_read (state_word st) ≡ st
state_back v m c Any h = refl
state_back v m c None h = refl
state_back v m c (Some q) h =
    let l : q < 64 = (names v m c q h).on_board in
    let a : eqb (q + 2) 0 ≡ false = ne_eqb (q + 2) 0 (λ e. omega arith) in
    let b : eqb (q + 2) 1 ≡ false = ne_eqb (q + 2) 1 (λ e. omega arith) in
    let u : q + 2 < 258 = omega arith in
    let d : q + 2 - 2 ≡ q = omega arith in
    rw (a, b, lt-ltb (q + 2) 258 u, d)

six : (l : List ℕ) → length l ≡ 6 → get_or l 0 0 ∷ get_or l 1 0 ∷ get_or l 2 0 ∷ get_or l 3 0 ∷ get_or l 4 0 ∷ get_or l 5 0 ∷ [] ≡ l
six [] e = absurd (omega arith)
six (a ∷ []) e = absurd (omega arith)
six (a ∷ b ∷ []) e = absurd (omega arith)
six (a ∷ b ∷ c ∷ []) e = absurd (omega arith)
six (a ∷ b ∷ c ∷ d ∷ []) e = absurd (omega arith)
six (a ∷ b ∷ c ∷ d ∷ f ∷ []) e = absurd (omega arith)
six (a ∷ b ∷ c ∷ d ∷ f ∷ g ∷ []) e = refl
six (a ∷ b ∷ c ∷ d ∷ f ∷ g ∷ h ∷ l) e = absurd (omega arith)

two : (l : List ℕ) → length l ≡ 2 → get_or l 0 0 ∷ get_or l 1 0 ∷ [] ≡ l
two [] e = absurd (omega arith)
two (a ∷ []) e = absurd (omega arith)
two (a ∷ b ∷ []) e = refl
two (a ∷ b ∷ c ∷ l) e = absurd (omega arith)

pub words_length : (b : RetractableBoard) → length (words_of b) ≡ 16
unfolding words_of
words_length b = refl

-- a place with the words of a board is not free
mark_held : (v : Edition) → eqb (mark_word v) 0 ≡ false
mark_held A = refl
mark_held B = refl

pub words_held : (b : RetractableBoard) → eqb (get_or (words_of b) 0 0) 0 ≡ false
unfolding words_of
words_held b = mark_held b.terms.edition

pub keeps : (b : RetractableBoard) → Shaped (to_laws b) → first_failing (board_tests b) ≡ 0 → board_read (words_of b) ≡ b
unfolding words_of board_read
keeps b z h =
    let ok : state_ok b.terms.edition (men_on b) b.turn b.passant ≡ true = (accepts (pos_on b) (gate_passed b (passed_gate b h)).lawful).state in
    rw (six b.pieces z.six, two b.colors z.two, color_back b.turn, rights_back b.white, rights_back b.black, state_back b.terms.edition (men_on b) b.turn b.passant ok, edition_back b.terms.edition)
