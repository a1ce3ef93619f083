-- The forms of the arguments after the program's name.
use Rattle.std.specs.Prelude.{ℕ, ◌≤◌, Bool, false, true, if◌then◌else◌, List, [], ◌∷◌, codes, bytes_eq, Option, Some, None, is_none, IfSome}
use Rattle.std.specs.Option.{option_and_then}
use Rattle.fdr_slot.specs.Limits.{least_payload_bytes, least_slot_count, most_payload_bytes, most_slot_count}
use Rattle.fdr_words.specs.Words.{Uses, uses_of, value_in}

-- a form of the words after the program's name, by its command, with the paths and numbers that it names
pub data Form : Type 0 where
  check_table : (table : List ℕ) → Form
  stream_line : (table : List ℕ) → Form
  list_bits : (table : List ℕ) → Form
  encode_bytes : Form
  decode_levels : Form
  format_image : (table image : List ℕ) (slots payload : ℕ) → Form
  record_line : (table image : List ℕ) → Form
  recover_image : (image : List ℕ) → Form
  list_image : (table image : List ℕ) → Form
  upgrade_image : (image : List ℕ) → Form
  salvage_image : (table image : List ℕ) (ring : Option (ℕ × ℕ)) → Form
  exceed_image : (table image : List ℕ) → Form
  drill_image : (table image : List ℕ) (seed frames : ℕ) → Form

-- the form of a command with no path and no options: `encode`, `decode`
abbrev pub bare_form : List ℕ → Option Form
bare_form command =
    if bytes_eq command (codes "encode") then Some encode_bytes
    else if bytes_eq command (codes "decode") then Some decode_levels
    else None

-- the form of a command with one path and no options: `check TABLE`, `stream TABLE`, `listbits TABLE`, `recover IMAGE`, `upgrade
-- IMAGE`
abbrev pub path_form : List ℕ → List ℕ → Option Form
path_form command path =
    if bytes_eq command (codes "check") then Some (check_table path)
    else if bytes_eq command (codes "stream") then Some (stream_line path)
    else if bytes_eq command (codes "listbits") then Some (list_bits path)
    else if bytes_eq command (codes "recover") then Some (recover_image path)
    else if bytes_eq command (codes "upgrade") then Some (upgrade_image path)
    else None

-- the form of a command with two paths and no options: `record TABLE IMAGE`, `list TABLE IMAGE`
abbrev pub paths_form : List ℕ → List ℕ → List ℕ → Option Form
paths_form command table image =
    if bytes_eq command (codes "record") then Some (record_line table image)
    else if bytes_eq command (codes "list") then Some (list_image table image)
    else if bytes_eq command (codes "salvage") then Some (salvage_image table image None)
    else if bytes_eq command (codes "exceed") then Some (exceed_image table image)
    else None

-- the form that is made of two numbers, where both are within their bounds
abbrev pub form_of_both : (ℕ → ℕ → Form) → Option ℕ → Option ℕ → Option Form
form_of_both make None second = None
form_of_both make (Some first) None = None
form_of_both make (Some first) (Some second) = Some (make first second)

-- the form that is made of the slots and the payload of a ring, where both are within their bounds
abbrev pub form_of_ring : (ℕ → ℕ → Form) → List ℕ → List ℕ → Option Form
form_of_ring make slots payload =
    form_of_both make (value_in least_slot_count most_slot_count slots) (value_in least_payload_bytes most_payload_bytes payload)

-- the salvage of an image by a ring, in place of its header
abbrev pub salvage_by : List ℕ → List ℕ → ℕ → ℕ → Form
salvage_by table image slots payload = salvage_image table image (Some (slots, payload))

-- the form of a command with two paths and the options of a ring: `format TABLE IMAGE`, with 4 to 65,536 slots and 64 to 4,096
-- bytes of payload
abbrev pub ring_form : List ℕ → List ℕ → List ℕ → List ℕ → List ℕ → Option Form
ring_form command table image slots payload =
    if bytes_eq command (codes "format") then form_of_ring (format_image table image) slots payload
    else if bytes_eq command (codes "salvage") then form_of_ring (salvage_by table image) slots payload
    else None

-- the greatest seed of a drill: 4,294,967,295
abbrev pub most_seed : ℕ
most_seed = 4294967295

-- how many frames a drill has at least: 1
abbrev pub least_drill_frames : ℕ
least_drill_frames = 1

-- how many frames a drill has at most: 100,000
abbrev pub most_drill_frames : ℕ
most_drill_frames = 100000

-- the form of a command with two paths and the options of a drill: `drill TABLE IMAGE`, with a seed and a number of frames within
-- their bounds
abbrev pub seeded_form : List ℕ → List ℕ → List ℕ → List ℕ → List ℕ → Option Form
seeded_form command table image seed frames =
    if bytes_eq command (codes "drill")
    then form_of_both (drill_image table image) (value_in 0 most_seed seed) (value_in least_drill_frames most_drill_frames frames) else None

-- the form that has these plain words and the values of the options slots, payload, seed and frames, all of them and no others
abbrev pub form_with : List (List ℕ) → Option (List ℕ) → Option (List ℕ) → Option (List ℕ) → Option (List ℕ) → Option Form
form_with (command ∷ []) None None None None = bare_form command
form_with (command ∷ path ∷ []) None None None None = path_form command path
form_with (command ∷ table ∷ image ∷ []) None None None None = paths_form command table image
form_with (command ∷ table ∷ image ∷ []) (Some slots) (Some payload) None None = ring_form command table image slots payload
form_with (command ∷ table ∷ image ∷ []) None None (Some seed) (Some frames) = seeded_form command table image seed frames
form_with args slots payload seed frames = None

-- the form that has what words give, all of it and nothing else
abbrev pub form_of_uses : Uses → Option Form
form_of_uses u = form_with u.plain u.slots u.payload u.seed u.frames

-- the form of the words after the program's name, or none: `encode`, `decode`, `check TABLE`, `stream TABLE`, `listbits TABLE`,
-- `recover IMAGE`, `upgrade IMAGE`, `record TABLE IMAGE`, `list TABLE IMAGE`, `exceed TABLE IMAGE`, `salvage TABLE IMAGE`,
-- `salvage TABLE IMAGE --slots N --payload P`, `format TABLE IMAGE --slots N --payload P` or
-- `drill TABLE IMAGE --seed S --frames F`, with the options anywhere
unfoldable pub form_of : List (List ℕ) → Option Form
form_of args = option_and_then form_of_uses (uses_of args)

-- what a command takes of the input: nothing, a trace, bits to its end, levels to its end, or rules
pub data InputUse : Type 0 where
  takes_nothing : InputUse
  takes_trace : InputUse
  takes_bits : InputUse
  takes_levels : InputUse
  takes_rules : InputUse

-- what a command does with an image: it has none, makes it, records in it, only reads it, or upgrades it
pub data ImageUse : Type 0 where
  has_no_image : ImageUse
  makes_image : ImageUse
  records_in_image : ImageUse
  reads_image : ImageUse
  upgrades_image : ImageUse

-- what a command uses: the paths of its table and of its image, where it has them; what it takes of the input, and does with the
-- image; the slots and the payload that stand for the image's header, where they are given; whether the image has to be for the
-- table's words; and whether it writes text
pub record CommandUses : Type 0 where
  pub table : Option (List ℕ)
  pub image : Option (List ℕ)
  pub input : InputUse
  pub work : ImageUse
  pub ring : Option (ℕ × ℕ)
  pub same_words : Bool
  pub text : Bool

-- what the command of each form uses, a line a command
abbrev pub command_uses : Form → CommandUses
command_uses (check_table table) =
    record { table = Some table; image = None; input = takes_nothing; work = has_no_image; ring = None; same_words = false; text = true }
command_uses (stream_line table) =
    record { table = Some table; image = None; input = takes_trace; work = has_no_image; ring = None; same_words = false; text = true }
command_uses (list_bits table) =
    record { table = Some table; image = None; input = takes_bits; work = has_no_image; ring = None; same_words = false; text = true }
command_uses encode_bytes =
    record { table = None; image = None; input = takes_bits; work = has_no_image; ring = None; same_words = false; text = true }
command_uses decode_levels =
    record { table = None; image = None; input = takes_levels; work = has_no_image; ring = None; same_words = false; text = true }
command_uses (format_image table image slots payload) =
    record { table = Some table; image = Some image; input = takes_nothing; work = makes_image; ring = None; same_words = false; text = false }
command_uses (record_line table image) =
    record { table = Some table; image = Some image; input = takes_trace; work = records_in_image; ring = None; same_words = true; text = false }
command_uses (recover_image image) =
    record { table = None; image = Some image; input = takes_nothing; work = reads_image; ring = None; same_words = false; text = true }
command_uses (list_image table image) =
    record { table = Some table; image = Some image; input = takes_nothing; work = reads_image; ring = None; same_words = true; text = true }
command_uses (upgrade_image image) =
    record { table = None; image = Some image; input = takes_nothing; work = upgrades_image; ring = None; same_words = false; text = false }
command_uses (salvage_image table image ring) =
    record { table = Some table; image = Some image; input = takes_nothing; work = reads_image; ring = ring; same_words = is_none ring; text = true }
command_uses (exceed_image table image) =
    record { table = Some table; image = Some image; input = takes_rules; work = reads_image; ring = None; same_words = true; text = true }
command_uses (drill_image table image seed frames) =
    record { table = Some table; image = Some image; input = takes_nothing; work = records_in_image; ring = None; same_words = true; text = true }

-- the path of the table of a form, where it has one
abbrev pub table_path : Form → Option (List ℕ)
table_path form = (command_uses form).table

-- the path of the image of a form, where it has one
abbrev pub image_path : Form → Option (List ℕ)
image_path form = (command_uses form).image

-- whether a use of an image may write it
abbrev pub may_write : ImageUse → Bool
may_write has_no_image = false
may_write makes_image = true
may_write records_in_image = true
may_write reads_image = false
may_write upgrades_image = true

-- whether the command of a form may write the image
abbrev pub writes_image : Form → Bool
writes_image form = may_write (command_uses form).work

-- the slots and the payload of a ring are within their bounds
abbrev pub IsRingInBounds : ℕ → ℕ → Type 0
IsRingInBounds slots payload =
    (least_slot_count ≤ slots) × (slots ≤ most_slot_count) × (least_payload_bytes ≤ payload) × (payload ≤ most_payload_bytes)

-- The numbers that a form names are within their bounds.
abbrev pub IsInBounds : Form → Type 0
IsInBounds (check_table table) = Unit {0}
IsInBounds (stream_line table) = Unit {0}
IsInBounds (list_bits table) = Unit {0}
IsInBounds encode_bytes = Unit {0}
IsInBounds decode_levels = Unit {0}
IsInBounds (format_image table image slots payload) = IsRingInBounds slots payload
IsInBounds (record_line table image) = Unit {0}
IsInBounds (recover_image image) = Unit {0}
IsInBounds (list_image table image) = Unit {0}
IsInBounds (upgrade_image image) = Unit {0}
IsInBounds (salvage_image table image ring) = IfSome ring (λ (r : ℕ × ℕ). IsRingInBounds r.0 r.1)
IsInBounds (exceed_image table image) = Unit {0}
IsInBounds (drill_image table image seed frames) = (seed ≤ most_seed) × (least_drill_frames ≤ frames) × (frames ≤ most_drill_frames)
