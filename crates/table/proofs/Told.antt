-- What a put and a take change, as their promises tell it.
use Rattle.std.proofs.Common.{◌≡◌, ℕ, true, List, sym, subst}
use Rattle.table.specs.declared.keyed.Keyed.{Keyed}
use Rattle.table.specs.Laws.{AfterPut, AfterTake}
use Rattle.table.specs.Records.{put_in, take_out}
use Rattle.table.specs.Rising.{rising}
use Rattle.table.proofs.Laws.{find-put_other, find-put_same, length-put, length-take, take-put_new}
use Rattle.table.proofs.Order.{find-take_other, find-take_same}
use Rattle.table.proofs.Sums.{sum-put, sum-take}

pub after_put : {V : Type 0} (r : Keyed V) (xs ys : List (Keyed V)) → ys ≡ put_in r xs → AfterPut r xs ys
after_put r xs ys so = subst (AfterPut r xs) (sym so) record {
  same = find-put_same r xs;
  others = λ k ne. find-put_other r k xs ne;
  count = length-put r xs;
  undone = take-put_new r xs;
  sum = λ f. sum-put f r xs;
}

pub after_take : {V : Type 0} (k : ℕ) (xs ys : List (Keyed V)) → rising xs ≡ true → ys ≡ take_out k xs → AfterTake k xs ys
after_take k xs ys up so = subst (AfterTake k xs) (sym so) record {
  gone = find-take_same k xs up;
  others = λ j ne. find-take_other k j xs up ne;
  count = length-take k xs;
  sum = λ f. sum-take f k xs;
}
