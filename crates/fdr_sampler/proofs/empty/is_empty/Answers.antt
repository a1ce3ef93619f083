use Rattle.std.proofs.Common.{◌≡◌, ◌∙◌, ⊎_elim, [], length, refl, sym, ap, eqb-true}
use Rattle.std.proofs.lemmas.List.{nil_from_length}
use Rattle.std.proofs.lemmas.Option.{get_or_from_slice_get}
use Rattle.fdr_frame.specs.declared.SlotKind.TheVariants.{Sync, Counter, Plain}
use Rattle.fdr_frame.specs.Slots.{kind_of}
use Rattle.fdr_table.specs.Rows.{FrameRow}
use Rattle.fdr_sampler.proofs.empty.is_empty.Goals as goal

pub returns-in-Plain : goal.returns-in-Plain
returns-in-Plain c =
    let kind : kind_of c.args.frame.words c.args.frame.cword c.args.frame.csub c.args.slot ≡ c.slot_kind.result =
    ap (λ (f : FrameRow). kind_of f.words f.cword f.csub c.args.slot) (sym c.frame.view_is)
    ∙ ap (kind_of c.frame.inside.words c.frame.inside.cword c.frame.inside.csub) (sym c.from.ensures) ∙ sym c.slot_kind.ensures in
    let slots = c.args.layout.now.slots in
    let none : length c.at_slot.result.now ≡ 0 = eqb-true _ _ (sym c.is_empty.ensures ∙ c.if-is_empty.true) in (
      λ is. record {
        parts = get_or_from_slice_get slots c.args.slot c.at_slot.result.now [] c.at_slot.ensures.parts ∙ nil_from_length c.at_slot.result.now none;
        plain = kind ∙ c.in-Plain.is;
      },
      λ empty. refl,
    )

pub returns-in-Sync : goal.returns-in-Sync
returns-in-Sync c =
    let kind : kind_of c.args.frame.words c.args.frame.cword c.args.frame.csub c.args.slot ≡ c.slot_kind.result =
    ap (λ (f : FrameRow). kind_of f.words f.cword f.csub c.args.slot) (sym c.frame.view_is)
    ∙ ap (kind_of c.frame.inside.words c.frame.inside.cword c.frame.inside.csub) (sym c.from.ensures) ∙ sym c.slot_kind.ensures in (
      λ wrong. absurd (cc),
      λ empty. ⊎_elim
          (λ (is : c.slot_kind.result ≡ Sync). absurd (let wrong : Sync ≡ Plain = sym is ∙ sym kind ∙ empty.plain in cc))
          (λ (is : c.slot_kind.result ≡ Counter). absurd (let wrong : Counter ≡ Plain = sym is ∙ sym kind ∙ empty.plain in cc))
          c.in-Sync.is,
    )
