-- The bounds of a table and of the fields of its rows. The numbers of words in a subframe are in fdr_frame.
use Rattle.std.specs.Prelude.{ℕ, List, [], ◌∷◌}

-- how many bytes a table may have: 1,048,576
abbrev pub most_table_bytes : ℕ
most_table_bytes = 1048576

-- how many parameters a table may have: 2,048
abbrev pub most_params : ℕ
most_params = 2048

-- how many places a table may have: 8,192
abbrev pub most_places : ℕ
most_places = 8192

-- how many words the longest subframe has: 1,024
abbrev pub most_words : ℕ
most_words = 1024

-- how many subframes a frame has: 4
abbrev pub subframe_count : ℕ
subframe_count = 4

-- the first word that may carry the frame counter: 2
abbrev pub least_counter_word : ℕ
least_counter_word = 2

-- how many bits a word of a frame has: 12
abbrev pub frame_word_bits : ℕ
frame_word_bits = 12

-- how many bits a word of a bus has: 32
abbrev pub bus_word_bits : ℕ
bus_word_bits = 32

-- how many bytes the name of a parameter may have: 16
abbrev pub most_name_bytes : ℕ
most_name_bytes = 16

-- the highest number of a bus: 255
abbrev pub most_bus : ℕ
most_bus = 255

-- the highest label: 255, which is octal 377
abbrev pub most_label : ℕ
most_label = 255

-- the highest SDI: 3
abbrev pub most_sdi : ℕ
most_sdi = 3

-- the greatest numerator in size, and the greatest denominator, of a parameter's scale: 1,000,000,000
abbrev pub most_scale : ℕ
most_scale = 1000000000

-- the greatest offset of a parameter in size: 1,000,000,000,000,000
abbrev pub most_offset : ℕ
most_offset = 1000000000000000

-- how many digits after the point the values of a parameter may have: 9
abbrev pub most_decimals : ℕ
most_decimals = 9

-- how many samples of a parameter a superframe may have: 262,144
abbrev pub most_rate : ℕ
most_rate = 262144

-- for how many microseconds a bus word may count as fresh at most, where that ends at all: 64,000,000
abbrev pub most_age : ℕ
most_age = 64000000

-- how many parts a parameter may have: 4
abbrev pub most_parts : ℕ
most_parts = 4

-- in how many frames a place may come once: 1, 2, 4, 8 or 16
abbrev pub periods : List ℕ
periods = 1 ∷ 2 ∷ 4 ∷ 8 ∷ 16 ∷ []
