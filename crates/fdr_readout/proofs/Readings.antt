-- A reader of events goes on.
use Rattle.std.proofs.Common.{◌≡◌, ℕ, ◌+◌, ◌*◌, ◌≤◌, ◌==◌, Bool, true, false, List, [], ◌∷◌, ◌++◌, map}
use Rattle.std.proofs.Common.{sym, ap, refl, ◌∙◌, arith, append_assoc, append-nil}
use Rattle.std.specs.Prelude.{Some, is_some, vec_len}
use Rattle.std.specs.List.{filter_map, list_any}
use Rattle.std.proofs.lemmas.List.{map-append}
use Rattle.std.proofs.lemmas.List.Elements.{filter_map-append}
use Rattle.std.proofs.lemmas.List.Sums.{fold-append}
use Rattle.fdr_lists.proofs.Ranges.{map-range-agree}
use Rattle.fdr_bits.specs.Bits.{bits_in, word_at}
use Rattle.fdr_bits.proofs.AppendLemmas.{word_at_append_left}
use Rattle.fdr_sync.specs.Accepted.{accepted_frames}
use Rattle.fdr_frame.specs.WordCount.{IsWordCount}
use Rattle.fdr_sync.specs.Events.{Event, Frame, Gap, decided_events, frame_of_event}
use Rattle.fdr_resync.specs.Past.{ScannerPast, RepresentsScanner, scanner_made, scanner_with_bytes, scanner_with_events, scanner_finished}
use Rattle.fdr_resync.specs.Adjacency.{ends_with_frame}
use Rattle.fdr_resync.specs.declared.Event.{Event as Answer}
use Rattle.fdr_resync.specs.declared.Event.TheVariants.{Frame as FrameAnswer, Gap as GapAnswer}
use Rattle.fdr_resync.specs.Answers.{answered_event, answered_frame}
use Rattle.fdr_table.specs.Rows.{TableRows}
use Rattle.fdr_recon.specs.Rows.{ReadFrame}
use Rattle.fdr_recon.specs.Past.{BeginsApart, RepresentsRebuild, read_frame}
use Rattle.fdr_readout.specs.declared.events.EventReader.{EventReader}
use Rattle.fdr_readout.specs.Listing.{frame_read, frame_words}
use Rattle.fdr_readout.specs.Reading.{MayGoOn, AreRead, ReadsEvents, decided_past}

pub ends_with_one : (es : List Event) (e : Event) → ends_with_frame (es ++ e ∷ []) ≡ is_some (frame_of_event e)
ends_with_one es e = fold-append (λ was e. is_some (frame_of_event e)) false es (e ∷ [])

-- ---- what was read, as the past goes on

-- a further frame, which isn't adjacent where it is the first
pub apart_push : (read : List ReadFrame) (r : ReadFrame) → BeginsApart read → (read ≡ [] → r.adjacent ≡ false) → BeginsApart (read ++ r ∷ [])
apart_push [] r apart first = first refl
apart_push (x ∷ read) r apart first = apart

no_frame_last : (f : ℕ → ReadFrame) (es : List Event) → map f (filter_map frame_of_event es) ≡ [] → ends_with_frame es ≡ false
no_frame_last f [] none = refl
no_frame_last f (Gap a n ∷ es) none = no_frame_last f es none
no_frame_last f (Frame a ∷ es) none = absurd (let some : f a ∷ map f (filter_map frame_of_event es) ≡ [] = none in cc)

-- where no frame was read, the last event is none
pub first_after_no_frame : (t : TableRows) (past : ScannerPast) (read : List ReadFrame) → AreRead t past read → read ≡ []
    → ends_with_frame past.taken ≡ false
first_after_no_frame t past read is none =
    no_frame_last (frame_read (past.bytes ++ []) t.frame.words) past.taken (sym (is [] (λ finished. refl)) ∙ none)

-- a reader of new bytes, which may have read frames of others
pub reads_anew : (t : TableRows) (r : EventReader) (earlier : List ReadFrame) → IsWordCount t.frame.words → decided_events [] t.frame.words ≡ []
    → RepresentsScanner r.scanner (scanner_made t.frame.words) → vec_len r.words ≡ 4 * t.frame.words → r.after_frame ≡ false
    → RepresentsRebuild r.rebuild t earlier → ReadsEvents t r (decided_past t.frame.words [])
reads_anew t r earlier count empty scanner room after frames = rw empty (record {
  count = count;
  words = refl;
  scanner = scanner;
  room = room;
  adjacent = after;
  earlier = earlier;
  read = [];
  frames = rw append-nil frames;
  apart = tt;
  as_read = λ more may. refl;
})

-- a reader whose scanner went on, without a further frame
pub reads_still : (t : TableRows) (r s : EventReader) (past now : ScannerPast) (reads : ReadsEvents t r past) → now.words ≡ past.words
    → s.rebuild ≡ r.rebuild → s.words ≡ r.words → RepresentsScanner s.scanner now → s.after_frame ≡ ends_with_frame now.taken → AreRead t now reads.read
    → ReadsEvents t s now
reads_still t r s past now reads same rebuild words scanner adjacent as_read = record {
  count = reads.count;
  words = same ∙ reads.words;
  scanner = scanner;
  room = rw words reads.room;
  adjacent = adjacent;
  earlier = reads.earlier;
  read = reads.read;
  frames = rw rebuild reads.frames;
  apart = reads.apart;
  as_read = as_read;
}

pub read_on : (t : TableRows) (past : ScannerPast) (piece : List ℕ) (read : List ReadFrame) → past.finished ≡ false → AreRead t past read
    → AreRead t (scanner_with_bytes past piece) read
read_on t past piece read going is = λ more may.
    is (piece ++ more) (λ finished. let wrong : true ≡ false = sym finished ∙ going in cc)
    ∙ ap (λ b. map (frame_read b t.frame.words) (filter_map frame_of_event past.taken)) (sym (append_assoc past.bytes piece more))

pub read_to_end : (t : TableRows) (past : ScannerPast) (read : List ReadFrame) → AreRead t past read → AreRead t (scanner_finished past) read
read_to_end t past read is = λ more may. is more (λ finished. may refl)

pub read_gap : (t : TableRows) (past : ScannerPast) (a n : ℕ) (read : List ReadFrame) → AreRead t past read
    → AreRead t (scanner_with_events past (Gap a n ∷ [])) read
read_gap t past a n read is = λ more may.
    is more may
    ∙ ap (map (frame_read (past.bytes ++ more) t.frame.words))
    (sym (filter_map-append frame_of_event past.taken (Gap a n ∷ []) ∙ append-nil (filter_map frame_of_event past.taken)))

pub read_one : (t : TableRows) (past : ScannerPast) (a : ℕ) (adjacent : Bool) (read : List ReadFrame) → a + 48 * t.frame.words ≤ bits_in past.bytes
    → ((more : List ℕ) → MayGoOn past more
    → list_any (λ x. x + 48 * t.frame.words == a) (accepted_frames (past.bytes ++ more) t.frame.words) ≡ adjacent)
    → AreRead t past read
    → AreRead t (scanner_with_events past (Frame a ∷ [])) (read ++ read_frame adjacent (frame_words past.bytes t.frame.words a) ∷ [])
unfolding frame_read frame_words
read_one t past a adjacent read within joined is = λ more may.
    let w = t.frame.words in
    let b = past.bytes ++ more in
    let f = frame_read b w in
    let xs = filter_map frame_of_event past.taken in
    let here : f a ≡ read_frame adjacent (frame_words past.bytes w a) =
    ap (λ (j : Bool). read_frame j (frame_words b w a)) (joined more may) ∙ ap (read_frame adjacent)
    (map-range-agree (λ k. word_at b (a + 12 * k)) (λ k. word_at past.bytes (a + 12 * k)) 0 (4 * w)
    (λ k low high. word_at_append_left past.bytes more (a + 12 * k) (omega arith))) in
    rw (is more may, filter_map-append frame_of_event past.taken (Frame a ∷ []), map-append f xs (a ∷ []))
    (ap (λ (r : ReadFrame). map f xs ++ r ∷ []) (sym here))

pub frame_answered : (e : Answer) → answered_frame (Some e) ≡ frame_of_event (answered_event e)
frame_answered (FrameAnswer at) = refl
frame_answered (GapAnswer at bits) = refl
