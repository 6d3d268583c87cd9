-- What an entry gives, as the loops over entries, targets and uncaptures need it.
use Rattle.std.specs.Prelude.{◌≡◌, Bool, true, cond, List, map, ℕ, ◌+◌, ◌≤◌, eqb, length, take}
use Rattle.squares.specs.Squares.{up_to}
use Rattle.squares.specs.Members.{members, concat}
use Rattle.laws.specs.declared.ChessRetraction.{ChessRetraction}
use Rattle.retraction_list.specs.declared.UnCaptureKind.{UnCaptureKind}
use Rattle.retraction_list.specs.declared.UnCaptureKind.TheVariants.{Optional, Necessary, Forbidden, UnEnPassant}
use Rattle.retraction_list.specs.declared.SourceAndTargets.{SourceAndTargets}
use Rattle.retraction_list.specs.declared.RetractionList.{RetractionList}
use Rattle.retraction_list.specs.Entries.{sound}
use Rattle.retraction_gen.specs.Cursors.{is_un_en_passant}
use Rattle.retraction_gen.specs.Sequence.{allowed, at_target}
use Rattle.slots.specs.Slots.{fill_from}

-- the uncaptures that an entry allows, as a set of numbers below 6: un-en-passant passes the masks by
unfoldable pub uncaptures_of : List ℕ → SourceAndTargets → ℕ
uncaptures_of ms e = up_to 6 (λ u. cond (is_un_en_passant e.kind) (eqb u 0) (allowed ms e u))

-- of three sets, what a kind leaves: all, those that give back a man, or no man alone
abbrev pub of_kind : UnCaptureKind → ℕ → ℕ → ℕ → ℕ
of_kind Optional all some none = all
of_kind Necessary all some none = some
of_kind Forbidden all some none = none
of_kind UnEnPassant all some none = 1

-- a retraction from the source s, with the un-promotion p, to the target t, with the uncapture u; and one for each of the uncaptures us
abbrev pub retraction : ℕ → Bool → ℕ → ℕ → ChessRetraction
retraction s p t u = record { source = s; target = t; uncaptured = u; unpromotion = p }

unfoldable pub of_target : ℕ → Bool → ℕ → ℕ → List ChessRetraction
of_target s p us t = map (retraction s p t) (members us)

-- an entry's part of the sequence
unfoldable pub of_entry : List ℕ → SourceAndTargets → List ChessRetraction
of_entry ms e = concat (at_target ms e) (members e.targets)

-- the entries that a list holds
unfoldable pub entries_of : RetractionList → List SourceAndTargets
entries_of l = take l.len l.entries

-- at most 47 entries, all of them there, and every source a square
pub record Sound (l : RetractionList) : Type 0 where
  pub most : l.len ≤ 47
  pub there : l.len ≤ length l.entries
  pub squares : sound (entries_of l) ≡ true

-- rs written from the slot n on, and m the slot behind them
pub record Fills (rs : List ChessRetraction) (before : List ℕ) (n : ℕ) (after : List ℕ) (m : ℕ) : Type 0 where
  pub slots : after ≡ fill_from before n rs
  pub next : m ≡ n + length rs
