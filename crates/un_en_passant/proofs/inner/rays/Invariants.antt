use lib.Bits.{bit_or}
use Rattle.geometry.specs.Lines.{between_of}
use Rattle.squares.proofs.Turns.{Going}
use Rattle.un_en_passant.proofs.inner.rays.Given as goal

abbrev pub invariant-loop-checker : goal.invariant-loop-checker
invariant-loop-checker l = Going (λ rays checker. bit_or rays (between_of checker l.oppking)) 0 l.set l.out l.checker-iterator.left
