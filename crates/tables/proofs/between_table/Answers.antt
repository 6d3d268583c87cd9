-- `tables::between_table` meets its contract.
use mathlib.Core.Path.{refl}
use Rattle.squares.specs.Tests.{◌and◌, ◌or◌}
use Rattle.squares.specs.Squares.{up_to}
use Rattle.geometry.specs.Lines.{between_of, between, same_rank, same_file, same_diagonal}
use Rattle.tables.proofs.BetweenRule.{entry_of, rule}
use Rattle.tables.proofs.between_table.Reads as reads
use Rattle.tables.proofs.between_table.Lts as lts
use Rattle.tables.proofs.between_table.Goals as goal

-- the list that the function returns is the constant, whose entries are computed
pub returns : goal.returns
unfolding between_of between same_rank same_file same_diagonal up_to entry_of ◌and◌ ◌or◌
returns c = rule (lts.m2 reads.Pre reads.Post c.args).0 refl refl
