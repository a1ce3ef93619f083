use Rattle.std.proofs.Common.{rules, ◌≡◌, ◌+◌, ◌*◌, ◌==◌, List, [], ◌∷◌, ◌++◌, ℕ, Some, refl, ap, sym, ◌∙◌, append-nil, append_assoc}
use Rattle.std.specs.List.{list_any}
use Rattle.std.specs.Option.{option_map}
use Rattle.fdr_table.specs.Rows.{TableRows}
use Rattle.fdr_sync.specs.Accepted.{accepted_frames}
use Rattle.fdr_sync.specs.Events.{Event, Frame, Gap, events_of}
use Rattle.fdr_resync.specs.declared.Event.{Event as Answer}
use Rattle.fdr_resync.specs.declared.Event.TheVariants as answer
use Rattle.fdr_resync.specs.Answers.{answered_event}
use Rattle.fdr_resync.specs.Past.{ScannerPast, scanner_with_events}
use Rattle.fdr_recon.specs.Past.{read_frame}
use Rattle.fdr_readout.specs.Listing.{frame_words}
use Rattle.fdr_readout.specs.Reading.{MayGoOn, ReadsEvents}
use Rattle.fdr_readout.proofs.Readings.{reads_still, read_one, read_gap, ends_with_one, apart_push, first_after_no_frame}
use Rattle.fdr_readout.proofs.events.EventReader.next.Goals.{In-Some}
use Rattle.fdr_readout.proofs.events.EventReader.next.Goals as goal

-- the event comes next however the bytes go on
event_ahead : (c : In-Some) (e : Answer) → c.in-Some.event ≡ e → (t : TableRows) (past : ScannerPast) (more : List ℕ) → ReadsEvents t c.args.self.now past
    → MayGoOn past more → (after : List Event) × (events_of (past.bytes ++ more) past.words ≡ past.taken ++ answered_event e ∷ after)
event_ahead c e is t past more reads may =
    c.stays_decided.ensures.next c.args.self.now.scanner past more (answered_event e) reads.scanner (rw reads.words reads.count) may
    (sym (c.take.ensures.event past reads.scanner) ∙ ap (option_map answered_event) (c.in-Some.is ∙ ap Some is))

pub returns-in-Frame-clause-ahead : goal.returns-in-Frame-clause-ahead
returns-in-Frame-clause-ahead c = event_ahead (goal.at.returns-in-Frame-clause-ahead c).In-Some _ refl

pub returns-in-Gap-clause-ahead : goal.returns-in-Gap-clause-ahead
returns-in-Gap-clause-ahead c = event_ahead (goal.at.returns-in-Gap-clause-ahead c).In-Some _ refl

pub returns-in-Frame-clause-stands : goal.returns-in-Frame-clause-stands
returns-in-Frame-clause-stands c = λ t past reads.
    let at = c.in-Frame.at in
    let w = t.frame.words in
    let adjacent = c.args.self.now.after_frame in
    let frame = read_frame adjacent (frame_words past.bytes w at) in
    let scanner = rw (c.in-Some.is, c.in-Frame.is) at (c.take.ensures.stands past reads.scanner) in
    let at_frame = rw (c.in-Some.is, c.in-Frame.is) at c.take.ensures.frame in
    let read = c.read_frame.ensures.rebuild t (scanner_with_events past (Frame at ∷ [])) at (reads.earlier ++ reads.read) scanner at_frame
    reads.words reads.frames in
    let joined : (more : List ℕ) → MayGoOn past more → list_any (λ x. x + 48 * w == at) (accepted_frames (past.bytes ++ more) w) ≡ adjacent = λ more may.
    let ahead = event_ahead (goal.at.returns-in-Frame-clause-stands c).In-Some (answer.Frame at) c.in-Frame.is t past more reads may in
    c.adjacent_after_a_frame.ensures (past.bytes ++ more) w at past.taken ahead.0 reads.count
    (ap (events_of (past.bytes ++ more)) (sym reads.words) ∙ ahead.1) ∙ sym reads.adjacent in
    rw c.in-Frame.is (record {
      count = reads.count;
      words = reads.words;
      scanner = scanner;
      room = search rules;
      adjacent = sym (ends_with_one past.taken (Frame at));
      earlier = reads.earlier;
      read = reads.read ++ frame ∷ [];
      frames = rw append_assoc at read.1;
      apart = apart_push reads.read frame reads.apart (λ none. reads.adjacent ∙ first_after_no_frame t past reads.read reads.as_read none);
      as_read = read_one t past at adjacent reads.read read.0 joined reads.as_read;
    })

pub returns-in-Gap-clause-stands : goal.returns-in-Gap-clause-stands
returns-in-Gap-clause-stands c = λ t past reads.
    let scanner = rw (c.in-Some.is, c.in-Gap.is) at (c.take.ensures.stands past reads.scanner) in
    rw c.in-Gap.is (reads_still t c.args.self.now _ past _ reads refl refl refl scanner
    (sym (ends_with_one past.taken (Gap c.in-Gap.at c.in-Gap.bits))) (read_gap t past c.in-Gap.at c.in-Gap.bits reads.read reads.as_read))

pub returns-in_default-clause-stands : goal.returns-in_default-clause-stands
returns-in_default-clause-stands c = λ t past reads.
    let scanner = rw (append-nil past.taken) at (c.in_default.ensures.stands past reads.scanner) in
    rw (append-nil past.taken) (reads_still t c.args.self.now _ past _ reads refl refl refl scanner reads.adjacent reads.as_read)
