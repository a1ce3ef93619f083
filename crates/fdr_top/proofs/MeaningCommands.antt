-- What every command means.
use Rattle.fdr_deck.specs.Moments.{IsSoundDeck}
use Rattle.fdr_words.specs.Forms.{Form, check_table, stream_line, list_bits, encode_bytes, decode_levels}
use Rattle.fdr_words.specs.Forms.{format_image, record_line, recover_image, list_image, upgrade_image, salvage_image, exceed_image, drill_image}
use Rattle.fdr_top.specs.Commands.{RunsCommand}
use Rattle.fdr_top.specs.Runs.{CommandRun}
use Rattle.fdr_top.specs.Doing.{DoesAsMeant, IsTold}
use Rattle.fdr_top.proofs.MeaningWords.{Core}
use Rattle.fdr_top.proofs.MeaningStops.{stops}
use Rattle.fdr_top.proofs.MeansCheck.{means_check}
use Rattle.fdr_top.proofs.MeansStream.{means_stream}
use Rattle.fdr_top.proofs.MeansBits.{means_decode, means_encode, means_listbits}
use Rattle.fdr_top.proofs.MeansImages.{means_list, means_recover, means_upgrade}
use Rattle.fdr_top.proofs.MeansRings.{means_format, means_salvage}
use Rattle.fdr_top.proofs.MeansRecord.{means_drill, means_record}
use Rattle.fdr_top.proofs.MeansExceed.{means_exceed}

core : (form : Form) (r : CommandRun) → RunsCommand form r → IsSoundDeck r.work.tells r.work.old → IsTold form r
    → Core form r
core (check_table path) r runs sound told = means_check path r told runs
core (stream_line path) r runs sound told = means_stream path r told runs
core (list_bits path) r runs sound told = means_listbits path r told runs
core encode_bytes r runs sound told = means_encode r told runs
core decode_levels r runs sound told = means_decode r told runs
core (format_image path image slots payload) r runs sound told = means_format path image slots payload r told sound runs
core (record_line path image) r runs sound told = means_record path image r told runs
core (recover_image image) r runs sound told = means_recover image r told runs
core (list_image path image) r runs sound told = means_list path image r told runs
core (upgrade_image image) r runs sound told = means_upgrade image r told runs
core (salvage_image path image ring) r runs sound told = means_salvage path image ring r told sound runs
core (exceed_image path image) r runs sound told = means_exceed path image r told runs
core (drill_image path image seed frames) r runs sound told = means_drill path image seed frames r told runs

pub means : (form : Form) (r : CommandRun) → RunsCommand form r → IsSoundDeck r.work.tells r.work.old → IsTold form r
    → DoesAsMeant form r
means form r runs sound told =
    let c = core form r runs sound told in
    record { g = c.g; given = c.given; does = c.does; all = c.all; stops = stops form r runs told c.g c.given c.pulled }
