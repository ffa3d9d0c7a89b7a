use Rattle.std.proofs.Common.{ap, ◌∙◌, take}
use Rattle.journal.proofs.Lines.{take_chunks}
use Rattle.journal.proofs.journal.Journal.lines.Goals as goal

pub returns : goal.returns
returns c = ap (take c.args.self.now.lines) c.as_chunks.ensures.front ∙ take_chunks 4 _ _ _ c.args.self.now.within
