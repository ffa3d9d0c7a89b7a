use Rattle.std.proofs.Common.{◌≡◌, ℕ, ◌≤◌, Bool, true, false, cond, List, [], ◌∷◌, length, is_ok, Err, sym, ap, ◌∙◌, arith}
use Rattle.std.proofs.lemmas.Result.{err_from_is_err_and}
use Rattle.faults.specs.declared.Fault.{Fault}
use Rattle.faults.specs.declared.Refusal.TheVariants.{NoTradePlace}
use Rattle.faults.specs.Checks.{◌else◌, first_fault, verdict}
use Rattle.faults.proofs.Rows.{first_failed, verdict_failed}
use Rattle.positions.specs.declared.records.Account.{Account}
use Rattle.positions.specs.declared.records.Trade.{Trade}
use Rattle.table.specs.declared.keyed.Keyed.{Keyed}
use Rattle.table.specs.Records.{put_in}
use Rattle.table.specs.View.{laid, place_for, records}
use Rattle.table.proofs.Laws.{length-put}
use Rattle.table.proofs.Memory.{laid-laid}
use Rattle.table_tests.specs.Entering.{accounts_checks, accounts_answer, enter_answer}
use Rattle.table_tests.proofs.enter.Goals as goal

unseated : (m n : ℕ) (b s : Keyed Account) (t : Keyed Trade) (xs : List (Keyed Account)) (ts : List (Keyed Trade)) (fault : Fault) → Err fault ≡ accounts_answer m b s xs → Err fault ≡ enter_answer m n b s t xs ts
unseated m n b s t xs ts fault e =
    let first = verdict_failed tt (first_fault (accounts_checks m b s xs)) fault (sym e) in
    ap (verdict tt) (sym (first_failed (accounts_checks m b s xs) ((place_for n t.key ts else NoTradePlace) ∷ []) fault first))

pub returns-in_err-check_accounts-clause-answer : goal.returns-in_err-check_accounts-clause-answer
returns-in_err-check_accounts-clause-answer c =
    let p = err_from_is_err_and c.from_residual.result c.from_residual.ensures.1 in
    rw (p.1, p.2) (unseated _ _ c.args.buyer c.args.seller c.args.trade (records c.args.accounts.now) (records c.args.trades.now) _ c.in_err-check_accounts.ensures)

longer : (put : Bool) (r : Keyed Account) (xs : List (Keyed Account)) → length xs ≤ length (cond put (put_in r xs) xs)
longer true r xs = let l = length-put r xs in omega arith
longer false r xs = omega arith

pub returns-clause-memories : goal.returns-clause-memories
returns-clause-memories c =
    let one = records c.put.new.self in
    let two = records c.put-2.new.self in
    let more : length one ≤ length two = rw c.put-2.ensures.records (longer (is_ok c.put-2.result) c.args.seller one) in
    (c.put-2.ensures.memory ∙ ap (laid two) c.put.ensures.memory ∙ laid-laid one two _ more, c.put-3.ensures.memory)
