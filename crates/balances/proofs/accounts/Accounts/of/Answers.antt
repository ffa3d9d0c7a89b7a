use Rattle.std.proofs.Common.{◌≡◌, ◌≤◌, length, sym, refl, ap, ◌∙◌}
use Rattle.std.proofs.lemmas.List.{take_all}
use Rattle.std.proofs.lemmas.Result.{err_from_is_err_and}
use Rattle.balances.specs.Accounts.{listed}
use Rattle.balances.specs.Lists.{different}
use Rattle.balances.proofs.Listing.{list_bad, list_good, list_full, listed_le, sixty_fifth}
use Rattle.balances.proofs.accounts.Accounts.of.Goals as goal

pub returns-in_err-require : goal.returns-in_err-require
returns-in_err-require c =
    let p = err_from_is_err_and c.from_residual.result c.from_residual.ensures.1 in
    let e = c.in_err-require.ensures in
    rw (p.1, p.2, e.1) (list_bad _ (sym c.are_admitted.ensures ∙ e.0))

pub returns-in_err-add : goal.returns-in_err-add
returns-in_err-add c =
    let p = err_from_is_err_and c.from_residual-in_err-add.result c.from_residual-in_err-add.ensures.1 in
    let e = c.in_err-add.ensures in
    let w = sixty_fifth c.args.list.now _ c.loop-account.account-index _ c.loop-account-test.true refl (sym c.loop-account.invariant) e.1 e.2 in
    rw (p.1, p.2, e.0) (list_full _ _ (sym c.are_admitted.ensures ∙ c.in_ok-require.ensures) w.0 w.1)

pub returns : goal.returns
returns c =
    let e : listed c.loop-account.accounts ≡ different c.args.list.now = c.loop-account.invariant ∙ ap different (take_all _ _ c.loop-account-test.false) in
    let n : length (different c.args.list.now) ≤ 64 = rw e at (listed_le c.loop-account.accounts) in
    (list_good _ (sym c.are_admitted.ensures ∙ c.in_ok-require.ensures) n, e)
