-- A retraction that no state remembers: no double step, no capture en passant, no castling; and the targets of the others.
use Rattle.std.specs.Prelude.{◌≡◌, Bool, true, false, not, cond, ℕ, ◌<◌, eqb, leb}
use Rattle.squares.specs.Tests.{◌and◌, ◌or◌}
use Rattle.geometry.specs.declared.Color.{Color}
use Rattle.geometry.specs.Colors.{opp, rank_for}
use Rattle.geometry.specs.Steps.{pawn_step, pawn_double, pawn_takes}
use Rattle.laws.specs.declared.Piece.TheVariants.{Pawn, Knight, Bishop, Rook, Queen, King}
use Rattle.laws.specs.declared.Position.{Position}
use Rattle.laws.specs.Men.{Man, empty, man, Men, man_of, is_empty, is_of, is_kind, is_pawn, put}
use Rattle.laws.specs.Attacks.{attacks}
use Rattle.laws.specs.Souls.{souls}
use Rattle.laws.specs.Acceptance.{edge, quiet}
use Rattle.laws.specs.Positions.{Pos, king_home}
use Rattle.laws.specs.Moves.{mark_ok}
use Rattle.laws.specs.Unmaking.{promoted_to}
use Rattle.laws.specs.Boards.{men_in}
use Rattle.strict_test.specs.inner.Strictly.{strict_for}

-- the man x steps from q to s past the men m, with a capture or without
abbrev pub steps : Men → Man → Bool → ℕ → ℕ → Bool
steps m empty taking s q = false
steps m (man c Pawn) taking s q = cond taking (pawn_takes c q s) (pawn_step c q s)
steps m (man c Knight) taking s q = attacks m (man c Knight) q s
steps m (man c Bishop) taking s q = attacks m (man c Bishop) q s
steps m (man c Rook) taking s q = attacks m (man c Rook) q s
steps m (man c Queen) taking s q = attacks m (man c Queen) q s
steps m (man c King) taking s q = attacks m (man c King) q s

-- the same, a pawn never from rank 1 or 8
unfoldable pub pawn_at : Color → Bool → ℕ → ℕ → Bool
pawn_at c taking s q = cond taking (pawn_takes c q s) (pawn_step c q s) and not (edge q)

unfoldable pub steps_at : Men → Man → Bool → ℕ → ℕ → Bool
steps_at m x taking s q = steps m x taking s q and not (is_pawn x and edge q)

-- and nothing stands on q today
unfoldable pub comes_at : Men → Man → Bool → ℕ → ℕ → Bool
comes_at m x taking s q = steps_at m x taking s q and is_empty (m q)

-- the targets that un-make itself is asked about: of a pawn's captures en passant and its double step, and the home of the king
unfoldable pub special_pawn : Color → ℕ → ℕ → Bool
special_pawn c s q = (eqb (rank_for c s) 5 and pawn_takes c q s) or pawn_double c q s

unfoldable pub special : Color → Man → ℕ → ℕ → Bool
special c x s q = (is_pawn x and special_pawn c s q) or (is_kind King x and eqb q (king_home c))

-- the retraction to q, with nothing uncaptured and no mark, is strict, and j is q
unfoldable pub strict_alone : Pos → ℕ → ℕ → ℕ → Bool
strict_alone p s q j = strict_for p (record { source = s; target = q; uncaptured = 0; unpromotion = false }) and eqb j q

-- what stood on the source: nothing, or a man of the other side; which man it was hides no attack
abbrev pub stood : Color → Bool → Man
stood c taking = cond taking (man (opp c) Knight) empty

-- x came from q, and left the king that waited unattacked
unfoldable pub calm_at : Men → Color → Man → Bool → ℕ → ℕ → Bool
calm_at m c x taking s q = comes_at m x taking s q and quiet (put q x (put s (stood c taking) m)) c

-- and c had at most eight souls then
unfoldable pub half_at : Men → Color → Man → Bool → ℕ → ℕ → Bool
half_at m c x taking s q = leb (souls (put s x m) c) 8 and calm_at m c x taking s q

-- the same of the pawn that the man y on s was
unfoldable pub raised_at : Men → Color → Man → Bool → ℕ → ℕ → Bool
raised_at m c y taking s q = mark_ok (man c Pawn) c s true (promoted_to true y) and half_at m c (man c Pawn) taking s q

-- a man of the retractor stands on s, and x is the number of the one that came there
pub record Comes (p : Position) (s x : ℕ) : Type 0 where
  pub source_in : s < 64
  pub man_in : x < 14
  pub stands : is_of (opp p.turn) (men_in p s) ≡ true
  pub ours : is_of (opp p.turn) (man_of x) ≡ true
