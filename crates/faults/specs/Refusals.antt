-- The numbers of the refusals: 1 to 13 for the input, 31 to 43 for the state.
use Rattle.std.specs.Prelude.{ℕ, Some, None}
use Rattle.faults.specs.declared.Fault.{Fault}
use Rattle.faults.specs.declared.Refusal.{Refusal}
use Rattle.faults.specs.declared.Refusal.TheVariants.{ExpectedValues, Strike, DiscountFactor, AccountNumber, SameAccount, Vega, Tick, BidAboveOffer, IndexValue, Rate, WrongWord, FileLength, DisruptedSettlement, Phase, ClosesDone, ClosesMissing, UnknownAccount, TradeUnits, AccountUnits, NoAccountPlace, NoTradePlace, TradesUsedUp, NoSuchTrade, NotAdmitted, OutOfRange, NoCapacity}

abbrev pub number : Refusal → ℕ
-- Ne outside 3 to 1,024
number ExpectedValues = 1
-- the initial strike outside 1 to 250,000,000
number Strike = 2
-- the discount factor outside 1 to 100,000,000
number DiscountFactor = 3
-- an account outside 1 to 16,383
number AccountNumber = 4
-- one account on both sides of a trade
number SameAccount = 5
-- vega outside 1 to 20,000
number Vega = 6
-- a tick of a trade, bid or offer outside 1 to 4,000
number Tick = 7
number BidAboveOffer = 8
-- an index value outside 1 to 9,999,999
number IndexValue = 9
-- a rate above 2,000
number Rate = 10
-- a word of no known kind, or out of its place
number WrongWord = 11
-- a file that is no whole number of words, or over 65,536 bytes
number FileLength = 12
-- a settlement on a disrupted day
number DisruptedSettlement = 13
-- a call that the contract's phase does not admit
number Phase = 31
-- an opening after Ne - 1 closes
number ClosesDone = 32
-- a settlement before Ne - 1 closes
number ClosesMissing = 33
-- an account that the ledger does not know
number UnknownAccount = 34
-- a trade of over 50,000 units
number TradeUnits = 35
-- an account past 125,000 units, long or short
number AccountUnits = 36
-- no place for an account
number NoAccountPlace = 37
-- no place for a trade
number NoTradePlace = 38
-- 10,000 trades made, busted ones counted
number TradesUsedUp = 39
-- a ticket, or the accounts of its trade, not in the tables
number NoSuchTrade = 40
-- an index value not admitted after the last
number NotAdmitted = 41
-- a balance out of the ledger's range, or a cost or payment past 4 × 10^18 in size
number OutOfRange = 42
-- fewer payments left in the ledger than there are to make
number NoCapacity = 43

-- the fault of a refusal that names no account
abbrev pub plain : Refusal → Fault
plain refusal = record { refusal = refusal; account = None }

-- the fault of a refusal that names an account
abbrev pub named : Refusal → ℕ → Fault
named refusal account = record { refusal = refusal; account = Some account }
