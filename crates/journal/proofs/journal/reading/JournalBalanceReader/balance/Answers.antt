use Rattle.std.proofs.Common.{arith}
use Rattle.std.proofs.lemmas.Int.{ints, to_z-of_z}
use Rattle.journal.proofs.Journals.{sum_more}
use Rattle.journal.proofs.journal.reading.JournalBalanceReader.balance.Goals as goal

pub loop-line-preserved : goal.loop-line-preserved
loop-line-preserved c = (grind (arith, ints, to_z-of_z, sum_more), omega (arith, ints), omega (arith, ints))
