use Rattle.std.proofs.Common.{◌≡◌, ◌-◌, ◌/◌, ◌%◌, ◌^◌, ⊎_elim, sym, ap, ◌∙◌, subst}
use Rattle.std.specs.Prelude.{bit_and}
use Rattle.std.specs.Option.{option_map_or}
use Rattle.std.proofs.lemmas.Bool.{cases_eq, cond-true, cond-false, eq-eqb, ne_eqb}
use Rattle.std.proofs.lemmas.Nat.{and_mask}
use Rattle.std.proofs.Math.Nat.{zero-div, zero-mod}
use Rattle.fdr_bus.specs.Words.{bits_at}
use Rattle.fdr_sampler.specs.Held.{Source, HeldWord, field_held}
use Rattle.fdr_sampler.specs.HeldWords.{as_held_word}
use Rattle.fdr_sampler.specs.declared.timed_word.TimedWord.{TimedWord}
use Rattle.fdr_sampler.proofs.source.Source.field.Goals as goal

-- the field of the word 0 is 0
field_of_word : (s : Source) (t : TimedWord) → bits_at t.word s.lsb s.width ≡ field_held s (as_held_word t)
field_of_word s t =
    ⊎_elim
    (λ (none : t.word ≡ 0).
    let nothing = ap (λ x. bits_at x s.lsb s.width) none ∙ ap (λ x. x % 2 ^ s.width) (zero-div (2 ^ (s.lsb - 1))) ∙ zero-mod (2 ^ s.width) in
    nothing ∙ sym (ap (field_held s) (cond-true _ _ _ (eq-eqb t.word 0 none))))
    (λ (some : t.word ≡ 0 → ⊥). sym (ap (field_held s) (cond-false _ _ _ (ne_eqb t.word 0 some))))
    (cases_eq t.word 0)

pub returns : goal.returns
returns c =
    let field = c.self.inside in
    let word = c.args.held.word in
    let above = word / 2 ^ (field.lsb - 1) in
    subst (λ (s : Source). bit_and above field.ones ≡ field_held s (as_held_word c.args.held)) c.self.view_is
    (ap (bit_and above) c.self.invariant.4 ∙ and_mask above field.width
    ∙ field_of_word (record {
      bus = field.bus;
      label = field.label;
      sdi = field.sdi;
      lsb = field.lsb;
      width = field.width;
      age = field.age;
      tells = field.tells;
    }) c.args.held)
