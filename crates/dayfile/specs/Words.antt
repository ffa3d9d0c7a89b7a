-- How the bytes of a day file stand for calls.
use Rattle.std.specs.Prelude.{◌≡◌, ℕ, ◌+◌, ◌*◌, ◌/◌, ◌%◌, ◌^◌, ◌<◌, ◌⊎◌, Bool, true, false, cond, ◌&&◌, List, length, Some, None, Ok, Err, Option, Result, ◌==◌, nat_le, nat_lt, slice_index}
use Rattle.contract.specs.declared.calls.Call.TheVariants as call
use Rattle.dayfile.specs.declared.file_fault.Cause.TheVariants.{File}
use Rattle.dayfile.specs.declared.file_fault.FileFault.{FileFault}
use Rattle.dayfile.specs.declared.kind.Kind.{Kind}
use Rattle.dayfile.specs.declared.kind.Kind.TheVariants.{ExpectedValues, Strike, DiscountFactor, Accounts, Size, Ticket, IndexValue, Quotes, Rate, FinalValue, AccountNumber}
use Rattle.dayfile.specs.declared.kind.NoKind.{NoKind}
use Rattle.dayfile.specs.declared.reader.Item.{Item}
use Rattle.dayfile.specs.declared.reader.Item.TheVariants.{Account, Call}
use Rattle.dayfile.specs.declared.reader.Placed.{Placed}
use Rattle.dayfile.specs.declared.words.Read.{Read}
use Rattle.dayfile.specs.declared.reader.Reader.{Reader}
use Rattle.dayfile.specs.Limits.{longest_file}
use Rattle.faults.specs.declared.Refusal.TheVariants.{WrongWord, FileLength}

-- ---- words

-- the word at a place: four bytes, the highest first
abbrev pub word : List ℕ → ℕ → ℕ
word bytes place = slice_index bytes (4 * place) * 16777216 + slice_index bytes (4 * place + 1) * 65536 + slice_index bytes (4 * place + 2) * 256 + slice_index bytes (4 * place + 3)

-- the top 4 bits, and the 28 below
abbrev pub kind : ℕ → ℕ
kind w = w / 2 ^ 28

abbrev pub body : ℕ → ℕ
body w = w % 2 ^ 28

-- 0 stands for a disrupted day
abbrev pub index_value : ℕ → Option ℕ
index_value v = cond (v == 0) None (Some v)

-- the numbers of the kinds
abbrev pub number_of : Kind → ℕ
number_of ExpectedValues = 1
number_of Strike = 2
number_of DiscountFactor = 3
number_of Accounts = 4
number_of Size = 5
number_of Ticket = 6
number_of IndexValue = 7
number_of Quotes = 8
number_of Rate = 9
number_of FinalValue = 10
number_of AccountNumber = 11

-- the kind of a number, if it has one
abbrev pub Names : ℕ → Result Kind NoKind → Type 0
Names n (Ok k) = number_of k ≡ n
Names n (Err e) = (n ≡ 0) ⊎ (11 < n)

-- ---- items

-- what a word of a kind says by its body alone
abbrev pub single : ℕ → ℕ → Option Item
single k b =
    cond (k == 3) (Some (Call (call.Open b)))
    (cond (k == 6) (Some (Call (call.Bust b)))
    (cond (k == 9) (Some (Call (call.Accrue b)))
    (cond (k == 10) (Some (Call (call.Settle (index_value b))))
    (cond (k == 11) (Some (Account b)) None))))

-- the kinds that begin a call of two words
abbrev pub starts : ℕ → Bool
starts k = cond (k == 1) true (cond (k == 4) true (k == 7))

-- the call of two words, by the first's kind and body and the whole second; or which of the two is wrong
abbrev pub double : ℕ → ℕ → ℕ → Result Item ℕ
double k b w =
    cond (kind w == k + 1)
    (cond (k == 1) (Ok (Call (call.List b (body w))))
    (cond (k == 4)
    (cond (nat_lt (body w) (2 ^ 27)) (Ok (Call (call.Trade (b / 2 ^ 14) (b % 2 ^ 14) (body w / 2 ^ 12) (body w % 2 ^ 12)))) (Err 1))
    (Ok (Call (call.Close (index_value b) (body w / 2 ^ 14) (body w % 2 ^ 14))))))
    (Err 0)

abbrev pub wrong : ℕ → FileFault
wrong place = record { place = place; cause = File WrongWord }

abbrev pub of_single : ℕ → Option Item → Result Read FileFault
of_single place None = Err (wrong place)
of_single place (Some item) = Ok (record { item = item; words = 1 })

abbrev pub of_double : ℕ → Result Item ℕ → Result Read FileFault
of_double place (Ok item) = Ok (record { item = item; words = 2 })
of_double place (Err offset) = Err (wrong (place + offset))

-- what stands at a place of the file: a call whose second word is missing is wrong at its first
abbrev pub item_at : List ℕ → ℕ → Result Read FileFault
item_at bytes place =
    cond (starts (kind (word bytes place)))
    (cond (nat_lt (place + 1) (length bytes / 4))
    (of_double place (double (kind (word bytes place)) (body (word bytes place)) (word bytes (place + 1))))
    (Err (wrong place)))
    (of_single place (single (kind (word bytes place)) (body (word bytes place))))

-- ---- the reader

-- whole words, and not too many
abbrev pub of_length : ℕ → Bool
of_length bytes = nat_le bytes longest_file && bytes % 4 == 0

abbrev pub wrong_length : FileFault
wrong_length = record { place = 0; cause = File FileLength }

-- a reader stands at the first word of a file of a right length
abbrev pub Made : List ℕ → Result Reader FileFault → Type 0
Made bytes (Ok r) = (of_length (length bytes) ≡ true) × (r.bytes.now ≡ bytes) × (r.place ≡ 0)
Made bytes (Err f) = (of_length (length bytes) ≡ false) × (f ≡ wrong_length)

abbrev pub placed : ℕ → Result Read FileFault → Result (Option Placed) FileFault
placed place (Ok r) = Ok (Some (record { place = place; item = r.item }))
placed place (Err f) = Err f

-- one turn of the reader: none at the end, else the item with its place
abbrev pub next_at : List ℕ → ℕ → Result (Option Placed) FileFault
next_at bytes place = cond (nat_lt place (length bytes / 4)) (placed place (item_at bytes place)) (Ok None)

abbrev pub moved : ℕ → Result Read FileFault → ℕ
moved place (Ok r) = place + r.words
moved place (Err f) = place

-- where the reader stands after that turn
abbrev pub place_after : List ℕ → ℕ → ℕ
place_after bytes place = cond (nat_lt place (length bytes / 4)) (moved place (item_at bytes place)) place
