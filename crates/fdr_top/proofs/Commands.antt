-- Which answers commands give.
use Rattle.std.proofs.Common.{refl, ◌≢◌, ◌≡◌, ◌⊎◌, inl, inr, ⊎_elim, ℕ, List, Option, Some, None, sym, ◌∙◌, subst}
use Rattle.fdr_io.specs.declared.Input.TheVariants as input
use Rattle.fdr_words.specs.Forms.{Form, ImageUse, has_no_image, makes_image, records_in_image, reads_image, upgrades_image, command_uses}
use Rattle.fdr_words.specs.Forms.{InputUse, takes_nothing, takes_trace, takes_bits, takes_levels, takes_rules, exceed_image}
use Rattle.fdr_words.specs.Request.{form_of_request}
use Rattle.fdr_table.specs.declared.path.PathText.{PathText}
use Rattle.fdr_words.specs.declared.Request.{Request}
use Rattle.fdr_words.specs.declared.Request.TheVariants as request
use Rattle.std.specs.Prelude.{IfSome}
use Rattle.fdr_top.specs.declared.outcome.Outcome.{Outcome}
use Rattle.fdr_top.specs.declared.outcome.Outcome.TheVariants as outcome
use Rattle.fdr_top.specs.Stages.{EndsBeforeDeck, IsOfTable, IsPastTable, WritesNothing}
use Rattle.fdr_top.specs.Answers.{HasImage, IsImageRecorded, IsImageThere, IsOwn, MayAnswer, PullsInput, ReadsTable, WritesText}
use Rattle.fdr_top.specs.Answers.{KeepsInputAndFaults, MakesImage, ReadsBoth, ReadsImage, RecordsImage}
use Rattle.fdr_top.specs.Answers.{AreRulesTaken, IsInputTaken, IsInputTakenLast, PullsLast, PullsRules}
use Rattle.fdr_deck.specs.State.{State}
use Rattle.fdr_top.specs.Leaves.{IsCutShort}
use Rattle.fdr_top.specs.Check.{Reports}
use Rattle.fdr_io.proofs.Telling.{followed_by-nil}
use Rattle.fdr_table.specs.Rows.{TableRows}

-- what reading a table answers
pub table_may : (form : Form) (answer : Outcome) → ReadsTable form → IsOfTable answer → MayAnswer form answer
table_may form (outcome.TableRefused row f) reads of = reads
table_may form (outcome.ReadFault input.Table) reads of = reads
table_may form outcome.NoMemory reads of = tt
table_may form answer reads of = absurd of

-- a command's own answers come past the table, and are answers of the command
pub own_past : (form : Form) (answer : Outcome) → IsOwn form answer → IsPastTable answer
own_past form outcome.Usage own = own
own_past form (outcome.TableRefused row f) own = own
own_past form (outcome.ReadFault input.Table) own = own
own_past form outcome.NoMemory own = own
own_past form answer own = tt

pub memory_past : (form : Form) (answer : Outcome) → (answer ≡ outcome.NoMemory) ⊎ IsOwn form answer → (answer ≡ outcome.NoMemory) ⊎ IsPastTable answer
memory_past form answer either = ⊎_elim (λ memory. inl memory) (λ own. inr (own_past form answer own)) either

pub own_may : (form : Form) (answer : Outcome) → IsOwn form answer → MayAnswer form answer
own_may form (outcome.TableRefused row f) own = absurd own
own_may form (outcome.ReadFault input.Table) own = absurd own
own_may form outcome.NoMemory own = tt
own_may form answer own = own

pub memory_may : (form : Form) (answer : Outcome) → (answer ≡ outcome.NoMemory) ⊎ IsOwn form answer → MayAnswer form answer
memory_may form answer either = ⊎_elim
    (λ (memory : answer ≡ outcome.NoMemory). rw memory tt)
    (λ (own : IsOwn form answer). own_may form answer own)
    either

-- what isn't a command's own answer
pub own_uses : (form : Form) (answer : Outcome) → (answer ≡ outcome.NoMemory) ⊎ IsOwn form answer → EndsBeforeDeck answer → ⊥
own_uses form outcome.Usage of early = ⊎_elim (λ memory. absurd (cc)) (λ own. own) of
own_uses form (outcome.TableRefused row f) of early = ⊎_elim (λ memory. absurd (cc)) (λ own. own) of
own_uses form (outcome.ReadFault input.Table) of early = ⊎_elim (λ memory. absurd (cc)) (λ own. own) of
own_uses form answer of early = early

pub own_not_table : (form : Form) (answer : Outcome) → (answer ≡ outcome.NoMemory) ⊎ IsOwn form answer
    → answer ≡ outcome.ReadFault input.Table → ⊥
own_not_table form answer of e = own_uses form answer of (subst EndsBeforeDeck (sym e) tt)

pub own_not_memory : (form : Form) (answer : Outcome) → IsOwn form answer → answer ≡ outcome.NoMemory → ⊥
own_not_memory form answer own e = rw e at own

-- nor is one that it doesn't give, other than want of memory
pub own_not : (form : Form) (answer other : Outcome) → (answer ≡ outcome.NoMemory) ⊎ IsOwn form answer → (other ≡ outcome.NoMemory → ⊥)
    → (IsOwn form other → ⊥) → answer ≡ other → ⊥
own_not form answer other of left not e = ⊎_elim
    (λ (memory : answer ≡ outcome.NoMemory). left (sym e ∙ memory))
    (λ (own : IsOwn form answer). not (rw e at own))
    of

pub own_not_line : (form : Form) (answer : Outcome) → (answer ≡ outcome.NoMemory) ⊎ IsOwn form answer → (PullsInput form → ⊥)
    → answer ≡ outcome.ReadFault input.Line → ⊥
own_not_line form answer of = own_not form answer (outcome.ReadFault input.Line) of (λ e. absurd (cc))

pub own_not_sink : (form : Form) (answer : Outcome) → (answer ≡ outcome.NoMemory) ⊎ IsOwn form answer → (WritesText form → ⊥)
    → answer ≡ outcome.WriteFault → ⊥
own_not_sink form answer of = own_not form answer outcome.WriteFault of (λ e. absurd (cc))

pub own_not_disk : (form : Form) (answer : Outcome) → (answer ≡ outcome.NoMemory) ⊎ IsOwn form answer → (HasImage form → ⊥)
    → answer ≡ outcome.DiskFault → ⊥
own_not_disk form answer of = own_not form answer outcome.DiskFault of (λ e. absurd (cc))

-- where an image is recorded in, its header is read
recorded_there : (work : ImageUse) → IsImageRecorded work → IsImageThere work
recorded_there has_no_image recorded = recorded
recorded_there makes_image recorded = recorded
recorded_there records_in_image recorded = tt
recorded_there reads_image recorded = tt
recorded_there upgrades_image recorded = tt

-- rules come with an image that is read, and the input is pulled for them
pub rules_read : (form : Form) → PullsRules form → ReadsImage form
rules_read (exceed_image path image) rules = tt
rules_read form rules = absurd rules

rules_taken : (taken : InputUse) → AreRulesTaken taken → IsInputTaken taken
rules_taken takes_nothing rules = rules
rules_taken takes_trace rules = tt
rules_taken takes_bits rules = tt
rules_taken takes_levels rules = tt
rules_taken takes_rules rules = tt

pub rules_pulled : (form : Form) → PullsRules form → PullsInput form
rules_pulled form rules = rules_taken (command_uses form).input rules

last_taken : (taken : InputUse) → IsInputTakenLast taken → IsInputTaken taken
last_taken takes_nothing last = last
last_taken takes_trace last = tt
last_taken takes_bits last = tt
last_taken takes_levels last = tt
last_taken takes_rules last = tt

pub last_pulled : (form : Form) → PullsLast form → PullsInput form
last_pulled form last = last_taken (command_uses form).input last

-- no recording is by rules
pub rules_unrecorded : (form : Form) → RecordsImage form → PullsRules form → ⊥
rules_unrecorded (exceed_image path image) records rules = records
rules_unrecorded form records rules = rules

-- a command that reads no image and makes none has begun to write
pub own_begun : (form : Form) (answer : Outcome) → (ReadsImage form → ⊥) → (MakesImage form → ⊥) → (ReadsBoth form → ⊥) → IsOwn form answer
    → WritesNothing answer → ⊥
own_begun form (outcome.ImageRefused why) reads makes both own nothing = reads own
own_begun form outcome.NotEmpty reads makes both own nothing = makes own
own_begun form (outcome.WordsDiffer image table) reads makes both own nothing = both own
own_begun form outcome.OldVersion reads makes both own nothing = reads (recorded_there (command_uses form).work own)
own_begun form outcome.Usage reads makes both own nothing = own
own_begun form (outcome.TableRefused row f) reads makes both own nothing = own
own_begun form (outcome.ReadFault input.Table) reads makes both own nothing = own
own_begun form (outcome.RuleRefused row f) reads makes both own nothing = reads (rules_read form own)
own_begun form outcome.NoMemory reads makes both own nothing = own
own_begun form answer reads makes both own nothing = nothing

-- where an answer covers no fault of the input, none was met
pub uncovered_line : (form : Form) (old new : State) (answer : Outcome) → (answer ≡ outcome.NoMemory) ⊎ IsOwn form answer
    → (answer ≡ outcome.NoMemory → KeepsInputAndFaults old new) → (IsOwn form answer → answer ≢ outcome.WriteFault → new.input_faults ≡ old.input_faults)
    → (IsCutShort answer → ⊥) → new.input_faults ≡ old.input_faults
uncovered_line form old new answer of memory quiet covers = ⊎_elim
    (λ none. (memory none).faults)
    (λ own. quiet own (λ e. covers (subst IsCutShort (sym e) tt)))
    of

-- each request but four has a table
pub request_reads : (r : Request) → (r ≡ request.Encode → ⊥) → (r ≡ request.Decode → ⊥)
    → ((image : PathText) → r ≡ request.RecoverImage image → ⊥) → ((image : PathText) → r ≡ request.Upgrade image → ⊥)
    → ReadsTable (form_of_request r)
request_reads (request.CheckTable table) encode decode recover upgrade = refl
request_reads (request.StreamLine table) encode decode recover upgrade = refl
request_reads (request.ListBits table) encode decode recover upgrade = refl
request_reads request.Encode encode decode recover upgrade = absurd (encode refl)
request_reads request.Decode encode decode recover upgrade = absurd (decode refl)
request_reads (request.FormatImage table image slots payload) encode decode recover upgrade = refl
request_reads (request.RecordLine table image) encode decode recover upgrade = refl
request_reads (request.RecoverImage image) encode decode recover upgrade = absurd (recover image refl)
request_reads (request.ListImage table image) encode decode recover upgrade = refl
request_reads (request.Upgrade image) encode decode recover upgrade = absurd (upgrade image refl)
request_reads (request.Salvage table image ring) encode decode recover upgrade = refl
request_reads (request.Exceed table image) encode decode recover upgrade = refl
request_reads (request.Drill table image seed frames) encode decode recover upgrade = refl

-- what holds of each form holds of the one that words are of
pub of_form : (asked : Option Form) (P : Form → Type 0) → ((form : Form) → P form) → IfSome asked P
of_form None P all = tt
of_form (Some form) P all = all form

-- where memory ends, nothing of a report is written
pub nothing_reported : (t : TableRows) (written : Option (List ℕ)) → Reports t written written outcome.NoMemory
nothing_reported t written = record { text = λ done. absurd (cc); part = (0, sym (followed_by-nil written)) }
