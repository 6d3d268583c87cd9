-- Chains of legal moves over boards, the latest of which gives today's board.
use Rattle.std.specs.Prelude.{◌≡◌, List, [], ◌∷◌, ℕ}
use Rattle.laws.specs.declared.EnPassantFlag.TheVariants.{Any}
use Rattle.laws.specs.declared.ChessRetraction.{ChessRetraction}
use Rattle.laws.specs.Strictness.{Gives}
use Rattle.laws.specs.Boards.{Shaped}
use Rattle.board.specs.declared.RetractableBoard.{RetractableBoard}
use Rattle.board.specs.Gate.{pos_on, to_laws, gate_of}
use Rattle.refusal.specs.Refusals.{nothing_refused}

-- "a chain of that many legal moves over accepted boards, with souls at most 8 a side and request 3's clause, ends in today's board": the latest
-- move is from the board e, which passes 1 to 7, to b, k being the kind promoted to (`Gives` has souls, the clause, and what the move must give), and the
-- moves before it end in e. The latest comes first
abbrev pub Chain : List ChessRetraction → RetractableBoard → Type 0
Chain [] b = Unit {0}
Chain (r ∷ l) b = (e : RetractableBoard) × (k : ℕ) × Shaped (to_laws e) × (gate_of e ≡ nothing_refused) × Gives (pos_on e) (pos_on b) r k × Chain l e

-- the same where the state of every earlier board is known
abbrev pub KnownChain : List ChessRetraction → RetractableBoard → Type 0
KnownChain [] b = Unit {0}
KnownChain (r ∷ l) b =
    (e : RetractableBoard) × (k : ℕ) × Shaped (to_laws e) × (gate_of e ≡ nothing_refused) × Gives (pos_on e) (pos_on b) r k × (e.passant ≡ Any → ⊥) × KnownChain l e
