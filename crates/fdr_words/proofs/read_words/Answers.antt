use Rattle.std.proofs.Common.{◌<◌, map, length, string_bytes, Global, arith, refl}
use Rattle.std.proofs.lemmas.List.{length-map}
use Rattle.fdr_words.specs.Words.{most_form_args}
use Rattle.fdr_words.proofs.UsesSteps.{too_many_words}
use Rattle.fdr_words.proofs.read_words.Goals as goal

pub returns-then-args-gt-MAX_ARGS-clause-usage : goal.returns-then-args-gt-MAX_ARGS-clause-usage
returns-then-args-gt-MAX_ARGS-clause-usage c =
    let args = map (string_bytes {Z = Global}) c.args.args.now in
    let many : most_form_args < length args = omega (arith, length-map c.args.args.now (string_bytes {Z = Global})) in
    ((λ e. too_many_words args many), (λ e. refl))

pub uses_in_words-requires : goal.uses_in_words-requires
uses_in_words-requires c = omega arith
