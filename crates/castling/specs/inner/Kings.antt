-- The verdict by which the code comes to the last test.
use Rattle.std.specs.Prelude.{ℕ}
use Rattle.geometry.specs.declared.Color.{Color}
use Rattle.laws.specs.declared.Piece.TheVariants.{King}
use Rattle.laws.specs.Men.{man, Men, same_man}
use Rattle.refusal.specs.declared.Refusal.TheVariants.{Step}
use Rattle.refusal.specs.Refusals.{unless, and_then, Verdict, nothing_refused}

abbrev pub king_after : Verdict → Men → Color → ℕ → Verdict
king_after v m c sq = and_then v (unless (same_man (m sq) (man c King)) Step nothing_refused)
