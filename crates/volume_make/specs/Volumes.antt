-- A volume: "first a table of contents, one row a problem, with its number, edition, place and length in bytes, then the bodies in the same order without
-- gaps, each a board's men, turn, rights and state".
use Rattle.std.specs.Prelude.{List, [], ◌∷◌, ◌++◌, ℕ, ◌+◌, length}
use Rattle.laws.specs.declared.Position.{Position}
use Rattle.volume_body.specs.Layout.{bodied}
use Rattle.volume_contents.specs.Layout.{head_of, row_of, body_place}

-- a problem: its number and its board, which has the edition
pub record Problem : Type 0 where
  pub number : ℕ
  pub board : Position

-- the rows of problems whose bodies start at a place
unfoldable pub rows_of : ℕ → List Problem → List ℕ
rows_of place [] = []
rows_of place (p ∷ ps) = row_of p.number p.board.terms.edition place ++ rows_of (place + 34) ps

unfoldable pub bodies_of : List Problem → List ℕ
bodies_of [] = []
bodies_of (p ∷ ps) = bodied p.board ++ bodies_of ps

unfoldable pub volume_of : List Problem → List ℕ
volume_of ps = head_of (length ps) ++ rows_of (body_place (length ps) 0) ps ++ bodies_of ps

-- "old lines are numbered from 1 and take edition A": from k on
unfoldable pub numbered_from : ℕ → List Position → List Problem
numbered_from k [] = []
numbered_from k (p ∷ ps) = record { number = k; board = p } ∷ numbered_from (k + 1) ps

-- the volume of old lines that say ps
abbrev pub bound : List Position → List ℕ
bound ps = volume_of (numbered_from 1 ps)
