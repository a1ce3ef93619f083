use Rattle.std.proofs.Common.{map, string_bytes, Global}
use Rattle.std.proofs.lemmas.Result.{IfOk-weaker}
use Rattle.clap.specs.Words.{app_of}
use Rattle.fdr_words.proofs.ClapLaws.{reader_fails, reader_matches}
use Rattle.fdr_words.proofs.reader.matches.Goals as goal

pub returns-clause-faults : goal.returns-clause-faults
returns-clause-faults c =
    reader_fails (app_of c.in_ok-command.field-0) (map (string_bytes {Z = Global}) c.args.args.now) c.try_get_matches_from.result c.in_ok-command.ensures
    c.try_get_matches_from.ensures.kinds

pub returns-clause-rows : goal.returns-clause-rows
returns-clause-rows c =
    IfOk-weaker c.try_get_matches_from.result _ _
    (λ m h. reader_matches (app_of c.in_ok-command.field-0) (map (string_bytes {Z = Global}) c.args.args.now) m c.in_ok-command.ensures h)
    c.try_get_matches_from.ensures.matches
