-- The lines of a listing. Each ends with a line feed.
use Rattle.std.specs.Prelude.{ℕ, ◌-◌, ◌/◌, ◌%◌, ◌^◌, suc, ℤ, pos, negsuc, if◌then◌else◌, ◌==◌, List, [], ◌∷◌, ◌++◌, length, replicate, codes, decimal}
use Rattle.fdr_recon.specs.declared.Row.{Row}

-- the number n as d digits, with zeros in front
abbrev pub digits_of : ℕ → ℕ → List ℕ
digits_of d n = replicate (d - length (decimal n)) 48 ++ decimal n

-- a point and the number n as d digits, or nothing where d is 0
unfoldable pub fraction_text : ℕ → ℕ → List ℕ
fraction_text n d = if d == 0 then [] else (46 ∷ digits_of d n)

-- the text of n divided by 10^d: the whole part, then, where d isn't 0, a point and exactly d digits
unfoldable pub size_text : ℕ → ℕ → List ℕ
size_text n d = decimal (n / 10 ^ d) ++ fraction_text (n % 10 ^ d) d

-- the text of a value in units of 10^-d: `-` where it is below 0, the whole part, and where d isn't 0 a point and exactly d
-- digits
unfoldable pub value_text : ℤ → ℕ → List ℕ
value_text (pos n) d = size_text n d
value_text (negsuc n) d = 45 ∷ size_text (suc n) d

-- the line `gap,AT,BITS`
unfoldable pub gap_text : ℕ → ℕ → List ℕ
gap_text at bits = codes "gap," ++ decimal at ++ codes "," ++ decimal bits ++ codes "\n"

-- the line `row,COUNTER,SUBFRAME,WORD,NAME,VALUE` of a row, with the parameter's name and its number of decimals
unfoldable pub row_text : Row → List ℕ → ℕ → List ℕ
row_text r name decimals =
    codes "row," ++ decimal r.counter ++ codes "," ++ decimal r.subframe ++ codes "," ++ decimal r.word ++ codes "," ++ name ++ codes ","
    ++ value_text r.value decimals ++ codes "\n"

-- what the line of a row begins with, ready before it is put together: `row,COUNTER`
unfoldable pub row_start_text : ℕ → List ℕ
row_start_text counter = codes "row," ++ decimal counter

-- the place in the line of a row, ready before it is put together: `,SUBFRAME,WORD,`
unfoldable pub row_place_text : ℕ → ℕ → List ℕ
row_place_text subframe word = codes "," ++ decimal subframe ++ codes "," ++ decimal word ++ codes ","

-- the line of a row out of what it begins with, its place, a name and a value in units of 10^-d
unfoldable pub row_line_text : List ℕ → List ℕ → List ℕ → ℤ → ℕ → List ℕ
row_line_text start place name value d = start ++ place ++ name ++ codes "," ++ value_text value d ++ codes "\n"
