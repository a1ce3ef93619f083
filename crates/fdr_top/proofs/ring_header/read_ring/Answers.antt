use Rattle.std.proofs.Common.{◌≡◌, ◌∙◌, refl, arith}
use Rattle.std.proofs.lemmas.Grind.{common_steps}
use Rattle.fdr_slot.specs.declared.image.ImageFault.TheVariants as fault
use Rattle.fdr_recover.proofs.Looking.{Looks-call}
use Rattle.fdr_top.specs.Recover.{OnlyLooks}
use Rattle.fdr_top.proofs.Images.{OnlyLooks-then}
use Rattle.fdr_top.proofs.Salvages.{length_failed, length_refused, right_length, short_length, size_looks, small_length}
use Rattle.fdr_slot.specs.declared.image.ImageFault.{ImageFault}
use Rattle.fdr_top.specs.declared.outcome.Outcome.TheVariants as outcome
use Rattle.fdr_top.proofs.Results.{disk_not_memory, err_same, ok_not_err}
use Rattle.fdr_top.proofs.ring_header.read_ring.Given.{Over}
use Rattle.fdr_top.proofs.ring_header.read_ring.Goals.{After-size, After-read}
use Rattle.fdr_top.proofs.ring_header.read_ring.Goals as goal

refused_not_memory : (why : ImageFault) → outcome.ImageRefused why ≡ outcome.NoMemory → ⊥
refused_not_memory why e = cc

refused_not_disk : (why : ImageFault) → outcome.ImageRefused why ≡ outcome.DiskFault → ⊥
refused_not_disk why e = cc

-- what the length tells leaves the disk, and so does the header that is read then
sized : (g : Over) (c : After-size g) → OnlyLooks g.D.Deck.tells (g.D.Deck.state c.args.deck.now) (g.D.Deck.state c.size.new.self)
sized g c = size_looks _ _ _ (g.met.D.Deck.sound c.args.deck.now) c.size.ensures.learns c.size.ensures.disk c.size.ensures.passes c.size.ensures.moments

looked : (g : Over) (c : After-read g) → OnlyLooks g.D.Deck.tells (g.D.Deck.state c.args.deck.now) (g.D.Deck.state c.read.new.self)
looked g c = OnlyLooks-then _ _ _ _ (g.met.D.Deck.sound c.args.deck.now)
    (size_looks _ _ _ (g.met.D.Deck.sound c.args.deck.now) c.size.ensures.learns c.size.ensures.disk c.size.ensures.passes c.size.ensures.moments)
    (Looks-call _ _ _ (g.met.D.Deck.sound c.size.new.self) c.read.ensures.extent c.read.ensures.disk c.read.ensures.passes c.read.ensures.moments)

pub returns-in_default-clause-refused : goal.returns-in_default-clause-refused
returns-in_default-clause-refused g c = length_failed _ _

pub returns-in_default-clause-looks : goal.returns-in_default-clause-looks
returns-in_default-clause-looks g c = sized g (goal.at.returns-in_default-clause-looks g c).After-size

pub returns-then-size-lt64-clause-refused : goal.returns-then-size-lt64-clause-refused
returns-then-size-lt64-clause-refused g c =
    length_refused _ _ fault.Small (small_length (c.args.slots, c.args.payload) (g.D.Deck.state c.size.new.self).extent
    (omega (arith, c.if-size-lt64.true, c.in-Ok.ensures.answer)))

pub returns-then-size-lt64-clause-looks : goal.returns-then-size-lt64-clause-looks
returns-then-size-lt64-clause-looks g c = sized g (goal.at.returns-then-size-lt64-clause-looks g c).After-size

pub returns-in_default-read-clause-refused : goal.returns-in_default-read-clause-refused
returns-in_default-read-clause-refused g c = length_failed _ _

pub returns-in_default-read-clause-looks : goal.returns-in_default-read-clause-looks
returns-in_default-read-clause-looks g c = looked g (goal.at.returns-in_default-read-clause-looks g c).After-read

pub returns-then-size-image_size-clause-refused : goal.returns-then-size-image_size-clause-refused
returns-then-size-image_size-clause-refused g c =
    length_refused _ _ fault.Short (short_length (c.args.slots, c.args.payload) (g.D.Deck.state c.read.new.self).extent
    (omega (arith, c.if-size-lt64.false, c.in-Ok.ensures.answer, c.read.ensures.extent))
    (omega (arith, c.if-size-image_size.true, c.image_size.ensures, c.in-Ok.ensures.answer, c.read.ensures.extent)))

pub returns-then-size-image_size-clause-looks : goal.returns-then-size-image_size-clause-looks
returns-then-size-image_size-clause-looks g c = looked g (goal.at.returns-then-size-image_size-clause-looks g c).After-read

pub returns-clause-fits : goal.returns-clause-fits
returns-clause-fits g c =
    right_length (c.args.slots, c.args.payload) (g.D.Deck.state c.read.new.self).extent
    (omega (arith, c.if-size-lt64.false, c.in-Ok.ensures.answer, c.read.ensures.extent))
    (omega (arith, c.if-size-image_size.false, c.image_size.ensures, c.in-Ok.ensures.answer, c.read.ensures.extent))

pub returns-clause-looks : goal.returns-clause-looks
returns-clause-looks g c = looked g (goal.at.returns-clause-looks g c).After-read

-- ---- which answers there are, and what was counted

pub returns-in_default-clause-not_memory : goal.returns-in_default-clause-not_memory
returns-in_default-clause-not_memory g c = λ e. disk_not_memory (err_same _ _ e)

pub returns-in_default-clause-no_disk_fault : goal.returns-in_default-clause-no_disk_fault
returns-in_default-clause-no_disk_fault g c = λ other. absurd (other refl)

pub returns-then-size-lt64-clause-not_memory : goal.returns-then-size-lt64-clause-not_memory
returns-then-size-lt64-clause-not_memory g c = λ e. refused_not_memory fault.Small (err_same _ _ e)

pub returns-then-size-lt64-clause-disk_fault : goal.returns-then-size-lt64-clause-disk_fault
returns-then-size-lt64-clause-disk_fault g c = λ e. absurd (refused_not_disk fault.Small (err_same _ _ e))

pub returns-then-size-lt64-clause-no_disk_fault : goal.returns-then-size-lt64-clause-no_disk_fault
returns-then-size-lt64-clause-no_disk_fault g c = λ other. c.in-Ok.ensures.succeeds.disk_faults

pub returns-in_default-read-clause-not_memory : goal.returns-in_default-read-clause-not_memory
returns-in_default-read-clause-not_memory g c = λ e. disk_not_memory (err_same _ _ e)

pub returns-in_default-read-clause-no_disk_fault : goal.returns-in_default-read-clause-no_disk_fault
returns-in_default-read-clause-no_disk_fault g c = λ other. absurd (other refl)

pub returns-then-size-image_size-clause-not_memory : goal.returns-then-size-image_size-clause-not_memory
returns-then-size-image_size-clause-not_memory g c = λ e. refused_not_memory fault.Short (err_same _ _ e)

pub returns-then-size-image_size-clause-disk_fault : goal.returns-then-size-image_size-clause-disk_fault
returns-then-size-image_size-clause-disk_fault g c = λ e. absurd (refused_not_disk fault.Short (err_same _ _ e))

pub returns-then-size-image_size-clause-no_disk_fault : goal.returns-then-size-image_size-clause-no_disk_fault
returns-then-size-image_size-clause-no_disk_fault g c = λ other. c.in-Ok-read.ensures.succeeds.disk_faults ∙ c.in-Ok.ensures.succeeds.disk_faults

pub returns-clause-not_memory : goal.returns-clause-not_memory
returns-clause-not_memory g c = λ e. ok_not_err _ _ e

pub returns-clause-disk_fault : goal.returns-clause-disk_fault
returns-clause-disk_fault g c = λ e. absurd (ok_not_err _ _ e)

pub returns-clause-no_disk_fault : goal.returns-clause-no_disk_fault
returns-clause-no_disk_fault g c = λ other. c.in-Ok-read.ensures.succeeds.disk_faults ∙ c.in-Ok.ensures.succeeds.disk_faults

pub returns-clause-header : goal.returns-clause-header
returns-clause-header c = grind (arith, common_steps) steps 2000000
