-- The listing of bits is that of their events, and they have no others.
use Rattle.std.proofs.Common.{List, ℕ, sym, ap}
use Rattle.std.specs.List.{flat_map}
use Rattle.fdr_sync.proofs.EventLemmas.{events_unique}
use Rattle.fdr_table.specs.Rows.{TableRows}
use Rattle.fdr_readout.specs.Listing.{ListsEvents, lines_of, listing_of}

pub lists_events : (t : TableRows) (b : List ℕ) → ListsEvents t b
unfolding listing_of
lists_events t b =
    let unique = events_unique b t.frame.words in
    record { unique = unique; lines = λ es are. ap (flat_map (lines_of t b)) (sym (unique.only_events es are)) }
