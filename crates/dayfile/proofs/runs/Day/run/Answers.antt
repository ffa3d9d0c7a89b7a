use Rattle.std.proofs.Common.{◌∙◌, inr, arith}
use Rattle.dayfile.proofs.runs.Day.run.Goals as goal
use Rattle.dayfile.proofs.Turns.{at_start, again, at_end, stops_unread, stops_refused, turned, unread, ended}
use Rattle.std.proofs.lemmas.Result.{err_from_is_err_and}

pub loop-placed-init : goal.loop-placed-init
loop-placed-init c =
    let e = c.in_ok-reader.ensures in
    (e.1, omega (arith, e.2), at_start _ _ _ e.2)

pub returns-in_err-placed : goal.returns-in_err-placed
returns-in_err-placed c =
    let p = err_from_is_err_and c.from_residual-in_err-placed.result c.from_residual-in_err-placed.ensures.1 in
    rw (p.1, p.2)
    (inr (
      c.in_ok-reader.ensures.0,
      stops_unread _ _ _ _ c.loop-placed.invariant.2 _ (unread _ _ _ _ c.loop-placed.invariant.0 c.next_item.ensures.answer _ c.in_err-placed.was),
    ))

pub loop-placed-smaller : goal.loop-placed-smaller
loop-placed-smaller c =
    let t = turned _ _ _ _ c.loop-placed.invariant.0 c.next_item.ensures.answer _ _ _ c.in_ok-placed.was c.in-Some.is c.next_item.ensures.place in
    omega (arith, t.later, t.within)

pub loop-placed-preserved : goal.loop-placed-preserved
loop-placed-preserved c =
    let t = turned _ _ _ _ c.loop-placed.invariant.0 c.next_item.ensures.answer _ _ _ c.in_ok-placed.was c.in-Some.is c.next_item.ensures.place in
    (c.next_item.ensures.bytes ∙ c.loop-placed.invariant.0, t.within, again _ _ _ _ c.loop-placed.invariant.2 _ _ _ t c.in_ok-serve.ensures)

pub returns-in_err-serve : goal.returns-in_err-serve
returns-in_err-serve c =
    let t = turned _ _ _ _ c.loop-placed.invariant.0 c.next_item.ensures.answer _ _ _ c.in_ok-placed.was c.in-Some.is c.next_item.ensures.place in
    let p = err_from_is_err_and c.from_residual-in_err-serve.result c.from_residual-in_err-serve.ensures.1 in
    rw (p.1, p.2) (inr (c.in_ok-reader.ensures.0, stops_refused _ _ _ _ c.loop-placed.invariant.2 _ _ _ _ t c.in_err-serve.ensures))

pub returns : goal.returns
returns c = (
  c.in_ok-reader.ensures.0,
  at_end _ _ _ _ c.loop-placed.invariant.2 (ended _ _ _ _ c.loop-placed.invariant.0 c.next_item.ensures.answer _ c.in_ok-placed.was c.in_default.is) c.loop-placed.invariant.1,
)
