-- What the items of a parameter file spell: numbers, sizes and seconds.
use Rattle.std.specs.Prelude.{ℕ, List, nat_lt, nat_le, nat_eq, ◌&&◌, ◌||◌, if◌then◌else◌, Option, Some, None, Result, Ok, Err, length, ◌*◌, ◌^◌, ◌-◌, take, slice_index}
use Rattle.std.specs.List.{list_all}
use Rattle.std.specs.Char.{is_ascii_digit}
use Rattle.std.specs.Str.Parse.{digits_value}
use Rattle.parm_value.specs.declared.fault.ValueFault.{ValueFault}
use Rattle.parm_value.specs.declared.fault.ValueFault.TheVariants.{BadNumber, OutOfRange}

-- the number that 1 to 20 decimal digits spell
abbrev pub spelled_number : List ℕ → Option ℕ
spelled_number item =
    if nat_lt 0 (length item) && nat_le (length item) 20 && list_all is_ascii_digit item
    then Some (digits_value 10 item) else None

-- a number, where it is within its range
abbrev pub within : ℕ → ℕ → ℕ → Result ℕ ValueFault
within least greatest n = if nat_le least n && nat_le n greatest then Ok n else Err OutOfRange

-- so many units, where they are within their range
abbrev pub scaled : ℕ → ℕ → ℕ → Option ℕ → Result ℕ ValueFault
scaled unit least greatest None = Err BadNumber
scaled unit least greatest (Some n) = within least greatest (n * unit)

-- a number within a range
abbrev pub number_in : ℕ → ℕ → List ℕ → Result ℕ ValueFault
number_in least greatest item = scaled 1 least greatest (spelled_number item)

-- what stands before a suffix, and the suffix's unit; without one all of it, by ones
abbrev pub without_suffix : List ℕ → Option ℕ → List ℕ × ℕ
without_suffix item None = (item, 1)
without_suffix item (Some unit) = (take (length item - 1) item, unit)

-- an item's digits and unit, where its last byte may be a suffix
abbrev pub split_by : (ℕ → Option ℕ) → List ℕ → List ℕ × ℕ
split_by unit_of item = without_suffix item (unit_of (slice_index item (length item - 1)))

-- the bytes of a suffix of sizes: k, m, g and t in either case
abbrev pub size_unit : ℕ → Option ℕ
size_unit byte =
    if nat_eq byte 107 || nat_eq byte 75 then Some (2 ^ 10)
    else if nat_eq byte 109 || nat_eq byte 77 then Some (2 ^ 20)
    else if nat_eq byte 103 || nat_eq byte 71 then Some (2 ^ 30)
    else if nat_eq byte 116 || nat_eq byte 84 then Some (2 ^ 40)
    else None

abbrev pub size_parts : List ℕ → List ℕ × ℕ
size_parts item = split_by size_unit item

-- a size in bytes
abbrev pub size_in : List ℕ → Result ℕ ValueFault
size_in item = let parts = size_parts item in scaled parts.1 1 (2 ^ 63 - 1) (spelled_number parts.0)

-- the seconds of a suffix: s, m and h
abbrev pub second_unit : ℕ → Option ℕ
second_unit byte =
    if nat_eq byte 115 then Some 1
    else if nat_eq byte 109 then Some 60
    else if nat_eq byte 104 then Some 3600
    else None

abbrev pub second_parts : List ℕ → List ℕ × ℕ
second_parts item = split_by second_unit item

-- seconds, up to a hundred days
abbrev pub seconds_in : List ℕ → Result ℕ ValueFault
seconds_in item = let parts = second_parts item in scaled parts.1 1 8640000 (spelled_number parts.0)
