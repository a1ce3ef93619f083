-- What the length of a disk decides.
use Rattle.std.proofs.Common.{◌≡◌, ◌⊎◌, ⊎_elim, ℕ, ◌<◌, Bool, true, false, cond, [], Option, Some, None, arith, refl, ap, subst}
use Rattle.std.specs.Prelude.{nat_lt, ◌==◌}
use Rattle.std.specs.Option.{option_map}
use Rattle.std.proofs.lemmas.Bool.Decides.{nat_tests}
use Rattle.fdr_slot.specs.declared.image.ImageFault.{ImageFault}
use Rattle.fdr_slot.specs.declared.image.ImageFault.TheVariants as fault
use Rattle.fdr_load.specs.Tables.{table_in}
use Rattle.fdr_words.specs.Forms.{Form, check_table, stream_line, list_bits, encode_bytes, decode_levels}
use Rattle.fdr_words.specs.Forms.{format_image, record_line, recover_image, list_image, upgrade_image, salvage_image, exceed_image, drill_image}
use Rattle.fdr_words.specs.Forms.{ImageUse, command_uses, has_no_image, makes_image, reads_image, records_in_image, upgrades_image}
use Rattle.fdr_top.specs.Answers.{IsImageThere}
use Rattle.fdr_top.specs.Commands.{RunsCommand}
use Rattle.fdr_top.specs.Doing.{SizeDecides}
use Rattle.fdr_top.specs.Refusals.{RefusesHeader, RefusesLength, ring_fault}
use Rattle.fdr_top.specs.Runs.{CommandRun, WorkRun}
use Rattle.fdr_top.specs.Stages.{IsPastTable}
use Rattle.fdr_top.specs.declared.outcome.Outcome.{Outcome}
use Rattle.fdr_top.specs.declared.outcome.Outcome.TheVariants as outcome

abbrev small : Option Outcome
small = Some (outcome.ImageRefused fault.Small)

-- by a header
module _ (r : WorkRun) (header : RefusesHeader r.tells r.old r.new r.answer) where
  header_always : (why : Outcome) → IsPastTable r.answer → cond (nat_lt r.new.extent 64) small None ≡ Some why
      → (r.answer ≡ why) ⊎ (r.answer ≡ outcome.DiskFault)
  header_always why past is = go (nat_lt r.new.extent 64) refl is
    where
      go : (b : Bool) → nat_lt r.new.extent 64 ≡ b → cond b small None ≡ Some why → (r.answer ≡ why) ⊎ (r.answer ≡ outcome.DiskFault)
      go true less e = let same : outcome.ImageRefused fault.Small ≡ why = cc in
          subst (λ (a : Outcome). (r.answer ≡ a) ⊎ (r.answer ≡ outcome.DiskFault)) same (header.small_always past (grind (arith, nat_tests)))
      go false more e = absurd (cc)

  header_short : (why : ImageFault) → r.answer ≡ outcome.ImageRefused why → why ≡ fault.Small
      → cond (nat_lt r.new.extent 64) small None ≡ Some (outcome.ImageRefused why)
  header_short why e is =
      let less : r.new.extent < 64 = (header.small why e).0 is in
      let yes : nat_lt r.new.extent 64 ≡ true = grind (arith, nat_tests) in
      rw (yes, is) refl

  by_header : (kind : ImageUse) → IsImageThere kind → (r.answer ≡ outcome.NotEmpty → ⊥) → SizeDecides kind None r
  by_header reads_image there apart = record {
    refused = header_always;
    not_empty = λ e. absurd (apart e);
    too_short = λ why e of. ⊎_elim (header_short why e) (λ none. absurd (cc)) of;
  }
  by_header records_in_image there apart = record {
    refused = header_always;
    not_empty = λ e. absurd (apart e);
    too_short = λ why e of. ⊎_elim (header_short why e) (λ none. absurd (cc)) of;
  }
  by_header upgrades_image there apart = record {
    refused = header_always;
    not_empty = λ e. absurd (apart e);
    too_short = λ why e of. ⊎_elim (header_short why e) (λ none. absurd (cc)) of;
  }
  by_header kind there apart = absurd there

-- by a ring
some_refused : (o : Option ImageFault) (why : Outcome) → option_map outcome.ImageRefused o ≡ Some why
    → (found : ImageFault) × (o ≡ Some found) × (outcome.ImageRefused found ≡ why)
some_refused None why is = absurd (cc)
some_refused (Some found) why is = (found, refl, cc)

by_ring : (ring : ℕ × ℕ) (r : WorkRun) → RefusesLength ring r.new r.answer → (r.answer ≡ outcome.NotEmpty → ⊥) → SizeDecides reads_image (Some ring) r
by_ring ring r length apart = record {
  refused = λ why past is. let f = some_refused (ring_fault ring r.new.extent) why is in
      subst (λ (a : Outcome). (r.answer ≡ a) ⊎ (r.answer ≡ outcome.DiskFault)) f.2 (length.refused_always f.0 past f.1);
  not_empty = λ e. absurd (apart e);
  too_short = λ why e of. ap (option_map outcome.ImageRefused) (length.refused why e);
}

-- by nothing but that it is there
by_making : (r : WorkRun) (makes : (r.answer ≡ outcome.NotEmpty → 0 < r.new.extent))
    (always : IsPastTable r.answer → 0 < r.old.extent → (r.answer ≡ outcome.NotEmpty) ⊎ (r.answer ≡ outcome.DiskFault))
    → ((why : ImageFault) → r.answer ≡ outcome.ImageRefused why → ⊥) → SizeDecides makes_image None r
by_making r makes always apart = record {
  refused = λ why past is. go (r.old.extent == 0) refl why past is;
  not_empty = λ e. let some = makes e in let no : (r.new.extent == 0) ≡ false = grind (arith, nat_tests) in rw no refl;
  too_short = λ why e of. absurd (apart why e);
}
  where
    go : (b : Bool) → (r.old.extent == 0) ≡ b → (why : Outcome) → IsPastTable r.answer → cond b None (Some outcome.NotEmpty) ≡ Some why
        → (r.answer ≡ why) ⊎ (r.answer ≡ outcome.DiskFault)
    go true none why past is = absurd (cc)
    go false some why past is = let same : outcome.NotEmpty ≡ why = cc in
        subst (λ (a : Outcome). (r.answer ≡ a) ⊎ (r.answer ≡ outcome.DiskFault)) same (always past (grind (arith, nat_tests)))

-- a command without an image
by_none : (r : WorkRun) → (r.answer ≡ outcome.NotEmpty → ⊥) → ((why : ImageFault) → r.answer ≡ outcome.ImageRefused why → ⊥)
    → SizeDecides has_no_image None r
by_none r apart unrefused = record {
  refused = λ why past is. absurd (cc);
  not_empty = λ e. absurd (apart e);
  too_short = λ why e of. absurd (unrefused why e);
}

-- the answer is none that the command may not give
pub sizes : (form : Form) (r : CommandRun) → RunsCommand form r → SizeDecides (command_uses form).work (command_uses form).ring r.work
sizes (check_table path) r runs = by_none r.work (λ e. rw e at runs.answers) (λ why e. rw e at runs.answers)
sizes (stream_line path) r runs = by_none r.work (λ e. rw e at runs.answers) (λ why e. rw e at runs.answers)
sizes (list_bits path) r runs = by_none r.work (λ e. rw e at runs.answers) (λ why e. rw e at runs.answers)
sizes encode_bytes r runs = by_none r.work (λ e. rw e at runs.answers) (λ why e. rw e at runs.answers)
sizes decode_levels r runs = by_none r.work (λ e. rw e at runs.answers) (λ why e. rw e at runs.answers)
sizes (format_image path image slots payload) r runs =
    by_making r.work runs.carries_out.3.not_empty runs.carries_out.3.not_empty_always (λ why e. rw e at runs.answers)
sizes (record_line path image) r runs = by_header r.work runs.carries_out.3.image.header records_in_image tt (λ e. rw e at runs.answers)
sizes (recover_image image) r runs = by_header r.work (runs.carries_out (table_in [])).header reads_image tt (λ e. rw e at runs.answers)
sizes (list_image path image) r runs = by_header r.work runs.carries_out.3.image.header reads_image tt (λ e. rw e at runs.answers)
sizes (upgrade_image image) r runs = by_header r.work (runs.carries_out (table_in [])).header upgrades_image tt (λ e. rw e at runs.answers)
sizes (salvage_image path image None) r runs = by_header r.work runs.carries_out.3.image.header reads_image tt (λ e. rw e at runs.answers)
sizes (salvage_image path image (Some ring)) r runs = by_ring ring r.work runs.carries_out.3.image (λ e. rw e at runs.answers)
sizes (exceed_image path image) r runs = by_header r.work runs.carries_out.3.image.header reads_image tt (λ e. rw e at runs.answers)
sizes (drill_image path image seed frames) r runs = by_header r.work runs.carries_out.3.image.header records_in_image tt (λ e. rw e at runs.answers)
