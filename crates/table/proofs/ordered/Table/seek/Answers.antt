use Rattle.std.proofs.Common.{rules}
use Rattle.std.proofs.lemmas.List.Sorted.{answers_always}
use Rattle.table.specs.View.{records}
use Rattle.table.proofs.Search.{searched}
use Rattle.table.proofs.ordered.Table.seek.Goals as goal

-- the closure gives a record's key, and the slice is the table's records
pub returns : goal.returns
returns g c =
    let t = c.args.self.now in
    let facts = c.binary_search_by_key.ensures in
    let by_key = facts.position (λ x. x.key) (answers_always _ _ _ (λ f a r h called. search rules)) in
    searched (records t) t.order c.args.key c.binary_search_by_key.result (rw c.records.ensures.records at facts.bound) (rw c.records.ensures.records at by_key)
