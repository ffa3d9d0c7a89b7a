-- What checking a call's own figures answers.
use Rattle.std.specs.Prelude.{◌≡◌, Some, None, Ok, Err, Result}
use Rattle.faults.specs.Checks.{first_fault}
use Rattle.faults.specs.declared.Fault.{Fault}
use Rattle.contract.specs.declared.calls.Call.{Call}
use Rattle.contract.specs.declared.calls.Call.TheVariants as call
use Rattle.contract.specs.declared.inputs.Checked.{Checked}
use Rattle.contract.specs.declared.inputs.Checked.TheVariants as checked
use Rattle.contract.specs.Step.{input_checks}

-- the call as a caller makes it, in numbers
abbrev pub in_numbers : Checked → Call
in_numbers (checked.List Ne k0) = call.List Ne.value k0.value
in_numbers (checked.Open DF) = call.Open DF.value
in_numbers (checked.Trade buyer seller vega tick) = call.Trade buyer.value seller.value vega.value tick.value
in_numbers (checked.Bust ticket) = call.Bust ticket
in_numbers (checked.Close None quotes) = call.Close None quotes.bid.value quotes.offer.value
in_numbers (checked.Close (Some v) quotes) = call.Close (Some v.value) quotes.bid.value quotes.offer.value
in_numbers (checked.Accrue rate) = call.Accrue rate.value
in_numbers (checked.Settle v) = call.Settle (Some v.value)

-- the same call, or the first limit that its figures break
abbrev pub Checks : Call → Result Checked Fault → Type 0
Checks c (Ok x) = (first_fault (input_checks c) ≡ None) × (in_numbers x ≡ c)
Checks c (Err fault) = first_fault (input_checks c) ≡ Some fault
