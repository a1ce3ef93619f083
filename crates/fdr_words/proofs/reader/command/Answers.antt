use Rattle.std.proofs.Common.{◌≡◌, ◌∙◌, true, ap, ap₂, codes}
use Rattle.std.proofs.lemmas.Result.{IfOk-weaker}
use Rattle.clap.specs.Words.{App, app_of, new_app, with_rule}
use Rattle.clap.specs.Simple.{Shape, app_of_fields, on_top}
use Rattle.fdr_words.specs.Reader.{reader}
use Rattle.fdr_words.proofs.reader.command.Goals as goal

abbrev set_up : App
set_up = on_top (λ s. record s { no_binary_name = true; disable_help_flag = true; disable_version_flag = true }) (new_app (codes "fdr"))

pub returns : goal.returns
returns c =
    let named : app_of c.no_binary_name.result ≡ on_top (λ (s : Shape). record s { no_binary_name = true }) (new_app (codes "fdr")) =
    ap app_of_fields c.no_binary_name.ensures ∙ ap (on_top (λ (s : Shape). record s { no_binary_name = true })) c.new.ensures.app in
    let plain : app_of c.disable_help_flag.result ≡ on_top (λ (s : Shape). record s { no_binary_name = true; disable_help_flag = true })
    (new_app (codes "fdr")) =
    ap app_of_fields c.disable_help_flag.ensures ∙ ap (on_top (λ (s : Shape). record s { disable_help_flag = true })) named in
    let start : app_of c.disable_version_flag.result ≡ set_up =
    ap app_of_fields c.disable_version_flag.ensures ∙ ap (on_top (λ (s : Shape). record s { disable_version_flag = true })) plain in
    let one = c.in_ok-arg.ensures.shape c.new-2.ensures.optional.1 ∙ ap₂ with_rule start c.new-2.ensures.rule in
    let two = c.in_ok-arg-2.ensures.shape c.new-3.ensures.optional.1 ∙ ap₂ with_rule one c.new-3.ensures.rule in
    let three = c.in_ok-arg-3.ensures.shape c.new-4.ensures.optional.1 ∙ ap₂ with_rule two c.new-4.ensures.rule in
    let four = c.in_ok-arg-4.ensures.shape c.option.ensures.own ∙ ap₂ with_rule three c.option.ensures.rule in
    let five = c.in_ok-arg-5.ensures.shape c.option-2.ensures.own ∙ ap₂ with_rule four c.option-2.ensures.rule in
    let six = c.in_ok-arg-6.ensures.shape c.option-3.ensures.own ∙ ap₂ with_rule five c.option-3.ensures.rule in
    IfOk-weaker c.arg-7.result _ (λ d. app_of d ≡ reader) (λ d h. h.shape c.option-4.ensures.own ∙ ap₂ with_rule six c.option-4.ensures.rule) c.arg-7.ensures
