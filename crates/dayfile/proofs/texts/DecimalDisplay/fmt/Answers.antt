use Rattle.std.proofs.Common.{rules, w64, SFits}
use Rattle.std.proofs.lemmas.Int.{to_z-of_z}
use Rattle.dayfile.proofs.Printing.{filled_with_zeros}
use Rattle.dayfile.proofs.texts.DecimalDisplay.fmt.Goals as goal

pub returns-clause-writes : goal.returns-clause-writes
returns-clause-writes g c =
    let f : SFits w64 c.args.self.now.value = search rules in
    let sign = simp to_z-of_z at c.sign_of-sign.ensures in
    let size = simp to_z-of_z at c.unsigned_abs-size.ensures.value in
    let w = rw (c.laid_out.ensures, filled_with_zeros) at c.write.ensures.writes in
    λ plain ok. simp (sign, size) at (w plain ok)
