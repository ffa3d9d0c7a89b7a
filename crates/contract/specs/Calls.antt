-- The name of each call, and the word for it.
use Rattle.std.specs.Prelude.{ℕ, List, codes}
use Rattle.contract.specs.declared.calls.Call.{Call}
use Rattle.contract.specs.declared.calls.Call.TheVariants as call
use Rattle.contract.specs.declared.calls.CallName.{CallName}
use Rattle.contract.specs.declared.calls.CallName.TheVariants as name

abbrev pub name_of : Call → CallName
name_of (call.List Ne k0) = name.List
name_of (call.Open DF) = name.Open
name_of (call.Trade buyer seller vega tick) = name.Trade
name_of (call.Bust ticket) = name.Bust
name_of (call.Close value bid offer) = name.Close
name_of (call.Accrue rate) = name.Accrue
name_of (call.Settle value) = name.Settle

abbrev pub name_word : CallName → List ℕ
name_word name.List = codes "list"
name_word name.Open = codes "open"
name_word name.Trade = codes "trade"
name_word name.Bust = codes "bust"
name_word name.Close = codes "close"
name_word name.Accrue = codes "accrue"
name_word name.Settle = codes "settle"
