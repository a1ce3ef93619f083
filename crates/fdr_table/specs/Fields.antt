-- What one field of a table's row says.
use Rattle.std.specs.Prelude.{ℕ, ◌-◌, ◌^◌, ℤ, pos, neg_ℤ, drop, Bool, true, false, ◌==◌, ◌&&◌, ◌||◌, nat_le, nat_lt, if◌then◌else◌, List, [], ◌∷◌, length}
use Rattle.std.specs.Prelude.{sum_by, codes, bytes_eq, Option, Some, None, option_map}
use Rattle.std.specs.List.{list_all, list_any}
use Rattle.std.specs.Str.Parse.{digits_value, starts_with_minus}
use Rattle.fdr_frame.specs.WordCount.{is_word_count}
use Rattle.fdr_table.specs.Bounds.{most_label, most_name_bytes, most_sdi, most_age}
use Rattle.fdr_table.specs.declared.sign.Sign.{Sign}
use Rattle.fdr_table.specs.declared.sign.Sign.TheVariants as sign

-- whether a byte is one of the digits 0 to 9
abbrev pub is_digit : ℕ → Bool
is_digit byte = nat_le 48 byte && nat_le byte 57

-- the number that a field says: 1 to 19 digits, leading zeros allowed
unfoldable pub decimal_of : List ℕ → Option ℕ
decimal_of field =
    if nat_le 1 (length field) && nat_le (length field) 19 && list_all is_digit field then Some (digits_value 10 field) else None

-- a number that was read, where it passes the test
abbrev pub passing : (ℕ → Bool) → Option ℕ → Option ℕ
passing test None = None
passing test (Some n) = if test n then Some n else None

-- the decimal number that a field says, where it is `low` to `high`
unfoldable pub number_in : ℕ → ℕ → List ℕ → Option ℕ
number_in low high field = passing (λ n. nat_le low n && nat_le n high) (decimal_of field)

-- whether n is one of these numbers
abbrev pub is_among : List ℕ → ℕ → Bool
is_among allowed n = list_any (λ m. m == n) allowed

-- the decimal number that a field says, where it is one of these
unfoldable pub number_among : List ℕ → List ℕ → Option ℕ
number_among allowed field = passing (is_among allowed) (decimal_of field)

-- the decimal number that a field says, where a subframe may have as many words
unfoldable pub word_count_of : List ℕ → Option ℕ
word_count_of field = passing is_word_count (decimal_of field)

-- the number that a field says, where it is at most this in size: decimal, with one `-` in front or none; `-0` is 0
unfoldable pub signed_within : ℕ → List ℕ → Option ℤ
signed_within most field =
    if starts_with_minus field then option_map (λ n. neg_ℤ (pos n)) (number_in 0 most (drop 1 field)) else option_map pos (number_in 0 most field)

-- whether a byte is one of the digits 0 to 7
abbrev pub is_octal_digit : ℕ → Bool
is_octal_digit byte = nat_le 48 byte && nat_le byte 55

-- the ARINC 429 label that a field says: 1 to 3 octal digits, 0 to 377
unfoldable pub label_field : List ℕ → Option ℕ
label_field field =
    if nat_le 1 (length field) && nat_le (length field) 3 && list_all is_octal_digit field
    then passing (λ n. nat_le n most_label) (Some (digits_value 8 field)) else None

-- the SDI that a field asks for: any, where the field is empty, or one of 0 to 3
unfoldable pub sdi_field : List ℕ → Option (Option ℕ)
sdi_field field = if length field == 0 then Some None else option_map (λ sdi. Some sdi) (number_in 0 most_sdi field)

-- whether each number is above the one before it
abbrev pub is_increasing : List ℕ → Bool
is_increasing [] = true
is_increasing (a ∷ []) = true
is_increasing (a ∷ b ∷ rest) = nat_lt a b && is_increasing (b ∷ rest)

-- whether a byte is one of the digits 1 to 4
abbrev pub is_subframe_digit : ℕ → Bool
is_subframe_digit byte = nat_le 49 byte && nat_le byte 52

-- the bit of the subframe with this digit, in a set of subframes: 2^(s - 1) for subframe s
abbrev pub subframe_bit : ℕ → ℕ
subframe_bit digit = 2 ^ (digit - 49)

-- the set of subframes that a field says, one bit for each: 1 to 4 increasing digits out of 1, 2, 3, 4
unfoldable pub subframes_of : List ℕ → Option ℕ
subframes_of field =
    if nat_le 1 (length field) && list_all is_subframe_digit field && is_increasing field then Some (sum_by subframe_bit field) else None

-- the sign of a parameter of `width` bits that a field says: `U` for unsigned, `S` for signed, or `V`, which has one bit, where
-- it tells whether its word is fresh
unfoldable pub sign_of : ℕ → List ℕ → Option Sign
sign_of width field =
    if bytes_eq field (codes "U") then Some sign.Unsigned
    else if bytes_eq field (codes "S") then Some sign.Signed
    else if bytes_eq field (codes "V") && (width == 1) then Some sign.Telling
    else None

-- whether a parameter with this sign is signed
abbrev pub is_signed : Sign → Bool
is_signed sign.Unsigned = false
is_signed sign.Signed = true
is_signed sign.Telling = false

-- whether a parameter with this sign tells whether its word is fresh
abbrev pub is_telling : Sign → Bool
is_telling sign.Unsigned = false
is_telling sign.Signed = false
is_telling sign.Telling = true

-- the age up to which a bus word is fresh, which a field says: any, where the field is empty, or 1 to 64,000,000 microseconds
unfoldable pub age_field : List ℕ → Option (Option ℕ)
age_field field = if length field == 0 then Some None else option_map (λ age. Some age) (number_in 1 most_age field)

-- whether a byte may be in a name: letters, digits, `_`, `-` and `.`
abbrev pub is_name_byte : ℕ → Bool
is_name_byte byte = (nat_le 65 byte && nat_le byte 90) || (nat_le 97 byte && nat_le byte 122) || is_digit byte || (byte == 95) || (byte == 45) || (byte == 46)

-- whether a field may be the name of a parameter: 1 to 16 bytes, each a letter, a digit, `_`, `-` or `.`
unfoldable pub is_name : List ℕ → Bool
is_name field = nat_le 1 (length field) && nat_le (length field) most_name_bytes && list_all is_name_byte field
