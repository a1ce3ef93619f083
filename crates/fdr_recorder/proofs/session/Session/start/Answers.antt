use Rattle.std.proofs.Common.{◌≡◌, ◌∙◌, ◌<◌, ◌+◌, ◌-◌, ◌%◌, ◌^◌, ℕ, List, length, ap, arith, refl, sym, subst, inr, rules}
use Rattle.std.specs.Prelude.{IsTrue}
use Rattle.fdr_deck.specs.Calls.{HasOneAnnounced, IsDiskWork, Announces}
use Rattle.fdr_deck.proofs.Composing.{refusal, same_fault, LearnsExtent-then}
use Rattle.fdr_deck.proofs.Moments.{KeepsAnnounced-then}
use Rattle.fdr_slot.specs.declared.image.Header.{Header}
use Rattle.fdr_slot.specs.Places.{gate_at}
use Rattle.fdr_recover.specs.Stretches.{last_session}
use Rattle.fdr_recover.specs.Images.{recovered_run, next_of}
use Rattle.fdr_recover.specs.ImageHeader.{IsFor, header_in}
use Rattle.fdr_recover.specs.declared.error.HeaderFault.TheVariants as header_fault
use Rattle.fdr_ring.specs.Closing.{image_with_closed_gate}
use Rattle.fdr_ring.specs.Runs.{last_blocks}
use Rattle.fdr_ring.specs.Rings.{IsAttaching, OfSettled}
use Rattle.fdr_table.specs.Rows.{FrameRow, TableRows}
use Rattle.fdr_stream.specs.Past.{RepresentsStream}
use Rattle.fdr_recorder.specs.Past.{due_count, past_at_start, session_of, stream_past}
use Rattle.fdr_recorder.specs.declared.error.SessionFault.TheVariants as fault
use Rattle.fdr_recorder.proofs.Refused.{apart, header_disk, header_image, header_not, header_short, header_words}
use Rattle.fdr_recorder.proofs.Refused.{disk_above, ok_not_err, too_short_for, version_2}
use Rattle.fdr_recorder.proofs.Adding.{IsSureRing-told}
use Rattle.fdr_recorder.proofs.Starting.{Starts-looked, Starts-attached, Starts-announced, attaching_announced, looking_announced, starting_announced}
use Rattle.fdr_recorder.proofs.Starting.{greatest-started, least-started, stream-started, next-started, session_of-is}
use Rattle.fdr_recorder.proofs.session.Session.start.Given.{Over}
use Rattle.fdr_recorder.proofs.session.Session.start.Goals.{After-attach}
use Rattle.fdr_recorder.proofs.session.Session.start.Goals as goal

-- where a stop can be, the header that was read is the image's
same_header : (g : Over) (c : After-attach g) → IsTrue g.D.Deck.tells.stops → c.in_ok-header.header ≡ header_in (g.D.Deck.state c.args.deck.now).held
same_header g c stops = c.in_ok-header.ensures.read ((g.met.D.Deck.sound c.args.deck.now).stops_need_bytes stops)

-- and the table has as many words
same_words : (g : Over) (c : After-attach g) → c.in_ok-header.header.words ≡ c.args.sound.now.frame.words
same_words g c =
    c.in_ok-header.ensures.for_words
    ∙ ap (λ (f : FrameRow). f.words) (c.words.view_is ∙ c.frame.ensures ∙ ap (λ (t : TableRows). t.frame) c.table.ensures)

-- the header was read
header_read : (g : Over) (c : After-attach g) → HasOneAnnounced (g.D.Deck.state c.read_header_for.new.deck)
header_read g c = (c.in_ok-header.ensures.succeeds (λ e. absurd (ok_not_err _ header_fault.DiskFault e))).fresh

-- and the ring was attached by it
attaching : (g : Over) (c : After-attach g) → let s = g.D.Deck.state in
    IsTrue g.D.Deck.tells.stops → IsDiskWork g.D.Deck.tells (OfSettled (s c.read_header_for.new.deck) (IsAttaching (header_in (s c.args.deck.now).held)))
    (s c.read_header_for.new.deck) (s c.attach.new.deck)
attaching g c stops =
    let d1 = g.D.Deck.state c.read_header_for.new.deck in
    subst (λ (h : Header). IsDiskWork g.D.Deck.tells (OfSettled d1 (IsAttaching h)) d1 (g.D.Deck.state c.attach.new.deck)) (same_header g c stops)
    c.attach.ensures.changes.disk_work

-- no header was read
pub returns-in_err-header : goal.returns-in_err-header
returns-in_err-header g c =
    let e = c.in_err-header.field-0.0 in
    let a = c.in_err-header.ensures in
    rw (refusal _ _ c.from_residual.ensures.1) (record {
      numbers = (header_not e).0;
      image = λ told why is. a.first_fault told why (header_image e why is);
      small = λ why is. a.small why (header_image e why is);
      small_always = header_short e _ a.small (λ i t is. (a.differ i t is).2);
      words = λ i t is. let d = a.differ i t (header_words e i t is) in
          (d.0 ∙ ap (λ (f : FrameRow). f.words) (c.words.view_is ∙ c.frame.ensures ∙ ap (λ (t : TableRows). t.frame) c.table.ensures), d.1, d.3);
      no_memory = λ told is. absurd ((header_not e).1 is);
      memory_current = λ told is. absurd ((header_not e).1 is);
      good = λ told. tt;
      current = λ told. tt;
      old_version = λ is. absurd ((header_not e).2 is);
      started = tt;
      starts = Starts-looked _ _ _ _ (g.met.D.Deck.sound c.args.deck.now) a.disk_work;
      looked = λ other. a.disk_work;
      announced_last = looking_announced _ (header_in (g.D.Deck.state c.args.deck.now).held) _ _ (g.met.D.Deck.sound c.args.deck.now) a.disk_work
          (g.D.Deck.state c.read_header_for.new.deck);
      refused = a.disk_work.passes.announced;
      learns = a.learns;
      untouched = λ other. a.disk;
      no_fault = λ other. (a.succeeds (λ is. other (disk_above e is))).disk_faults;
      cause = λ is. a.cause (header_disk e is);
      rest = a.rest;
    })

-- the image is of version 1
pub returns-then-header-eq1 : goal.returns-then-header-eq1
returns-then-header-eq1 g c =
    let h = c.in_ok-header.ensures in
    let succeeds = h.succeeds (ok_not_err _ header_fault.DiskFault) in
    record {
      numbers = apart _ _ refl;
      image = λ told why is. absurd (apart _ _ refl is);
      small = λ why is. absurd (apart _ _ refl is);
      small_always = λ short. absurd (too_short_for c.in_ok-header.header _ h.whole short);
      words = λ i t is. absurd (apart _ _ refl is);
      no_memory = λ told is. absurd (apart _ _ refl is);
      memory_current = λ told is. absurd (apart _ _ refl is);
      good = λ told. tt;
      current = λ told. tt;
      old_version = λ is told. (
        subst (λ (n : ℕ). IsFor n (g.D.Deck.state c.args.deck.now).held)
            (ap (λ (f : FrameRow). f.words) (c.words.view_is ∙ c.frame.ensures ∙ ap (λ (t : TableRows). t.frame) c.table.ensures)) (h.good told),
        ap (λ (x : Header). x.version) (sym (h.read told)) ∙ c.if-header-eq1.true,
      );
      started = tt;
      starts = Starts-looked _ _ _ _ (g.met.D.Deck.sound c.args.deck.now) h.disk_work;
      looked = λ other. h.disk_work;
      announced_last = looking_announced _ (header_in (g.D.Deck.state c.args.deck.now).held) _ _ (g.met.D.Deck.sound c.args.deck.now) h.disk_work
          (g.D.Deck.state c.read_header_for.new.deck);
      refused = h.disk_work.passes.announced;
      learns = h.learns;
      untouched = λ other. h.disk;
      no_fault = λ other. succeeds.disk_faults;
      cause = λ is. absurd (apart _ _ refl is);
      rest = h.rest;
    }

-- memory ended
pub returns-in_err-memory : goal.returns-in_err-memory
returns-in_err-memory g c =
    let h = c.in_ok-header.ensures in
    let limits = h.limits in
    let succeeds = h.succeeds (ok_not_err _ header_fault.DiskFault) in
    rw (refusal _ _ c.from_residual-in_err-memory.ensures.1) (record {
      numbers = apart _ _ refl;
      image = λ told why is. absurd (apart _ _ refl is);
      small = λ why is. absurd (apart _ _ refl is);
      small_always = λ short. absurd (too_short_for c.in_ok-header.header _ h.whole short);
      words = λ i t is. absurd (apart _ _ refl is);
      no_memory = λ told is. subst (λ (n : ℕ). IsFor n (g.D.Deck.state c.args.deck.now).held)
          (ap (λ (f : FrameRow). f.words) (c.words.view_is ∙ c.frame.ensures ∙ ap (λ (t : TableRows). t.frame) c.table.ensures)) (h.good told);
      memory_current = λ told is. ap (λ (x : Header). x.version) (sym (h.read told))
          ∙ version_2 _ limits.least_version limits.most_version c.if-header-eq1.false;
      good = λ told. tt;
      current = λ told. tt;
      old_version = λ is. absurd (apart _ _ refl is);
      started = tt;
      starts = Starts-looked _ _ _ _ (g.met.D.Deck.sound c.args.deck.now) h.disk_work;
      looked = λ other. h.disk_work;
      announced_last = looking_announced _ (header_in (g.D.Deck.state c.args.deck.now).held) _ _ (g.met.D.Deck.sound c.args.deck.now) h.disk_work
          (g.D.Deck.state c.read_header_for.new.deck);
      refused = h.disk_work.passes.announced;
      learns = h.learns;
      untouched = λ other. h.disk;
      no_fault = λ other. succeeds.disk_faults;
      cause = λ is. absurd (apart _ _ refl is);
      rest = h.rest;
    })

-- the ring was not attached
pub returns-in_err-ring : goal.returns-in_err-ring
returns-in_err-ring g c =
    let s = g.D.Deck.state in
    let at = (goal.at.returns-in_err-ring g c).After-attach in
    let read = c.in_ok-header.ensures in
    let passes = c.attach.ensures.changes.disk_work.passes in
    let succeeds = read.succeeds (ok_not_err _ header_fault.DiskFault) in
    rw (refusal _ _ c.from_residual-in_err-ring.ensures.1, same_fault c.in_err-ring.ensures.only, ← succeeds.disk_faults) (record {
      numbers = apart _ _ refl;
      image = λ told why is. absurd (apart _ _ refl is);
      small = λ why is. absurd (apart _ _ refl is);
      small_always = λ short. inr refl;
      words = λ i t is. absurd (apart _ _ refl is);
      no_memory = λ told is. absurd (apart _ _ refl is);
      memory_current = λ told is. absurd (apart _ _ refl is);
      good = λ told. tt;
      current = λ told. tt;
      old_version = λ is. absurd (apart _ _ refl is);
      started = tt;
      starts = Starts-attached g.D.Deck.tells _ _ _ (g.met.D.Deck.sound c.args.deck.now) read.disk_work read.disk (header_read g at) (s c.attach.new.deck)
          passes (attaching g at);
      looked = λ other. absurd (other refl);
      announced_last = attaching_announced g.D.Deck.tells (header_in (s c.args.deck.now).held) _ _
          (g.met.D.Deck.sound c.args.deck.now) read.disk_work read.disk (header_read g at)
          (s c.attach.new.deck) passes (attaching g at) (s c.attach.new.deck);
      refused = KeepsAnnounced-then _ _ _ read.disk_work.passes.announced passes.announced;
      learns = LearnsExtent-then _ _ _ _ read.learns c.attach.ensures.changes.extent;
      untouched = λ other. absurd (other refl);
      no_fault = λ other. absurd (other refl);
      cause = λ is. c.in_err-ring.ensures.cause;
      rest = g.met.D.Deck.rest_then _ _ _ read.rest c.attach.ensures.rest;
    })

-- a session was answered
pub returns : goal.returns
returns g c =
    let at = (goal.at.returns g c).After-attach in
    let t = g.D.Deck.tells in
    let s = g.D.Deck.state in
    let is = g.met.D.Deck.sound in
    let d0 = c.args.deck.now in
    let d1 = c.read_header_for.new.deck in
    let d2 = c.attach.new.deck in
    let d3 = c.announce.new.self in
    let read = c.read_header_for.ensures in
    let ok = c.in_ok-ring.ensures in
    let table = c.args.sound.now in
    let h = c.in_ok-header.header in
    let r = c.in_ok-ring.ring in
    let same : r.header ≡ h = ok.header in
    let m = c.in_ok-memory.memory in
    let made = c.in_ok-memory.ensures in
    let long : length m.block.value ≡ 4096 = made.block in
    let words = same_words g at in
    let held01 : (s d1).held ≡ (s d0).held = read.disk.held in
    let held23 : (s d3).held ≡ (s d2).held = c.announce.ensures.disk.disk.held in
    let fresh = header_read g at in
    let announces : Announces r.next (s d2) (s d3) = subst (λ (n : ℕ). Announces n (s d2) (s d3)) c.next.ensures.number c.announce.ensures.announces in
    let n : ℕ = (c.session-session.result + 1) % 2 ^ 32 in
    let next : IsTrue t.bytes → r.next ≡ next_of r.header (s d0).held =
    (λ told. ok.attached.next told ∙ ap (λ (l : List ℕ). next_of h l) held01 ∙ ap (λ (hh : Header). next_of hh (s d0).held) (sym same)) in
    let header = c.in_ok-header.ensures in
    let told_after = c.announce.ensures in
    let extent = told_after.disk.extent ∙ c.attach.ensures.changes.extent in
    let then = g.met.D.Deck.rest_then d0 in
    record {
      numbers = ok_not_err _ fault.SeqEnd;
      image = λ told why is. absurd (ok_not_err _ (fault.Image why) is);
      small = λ why is. absurd (ok_not_err _ (fault.Image why) is);
      small_always = λ short. absurd (too_short_for h _ header.whole (subst (λ (n : ℕ). n < 64) extent short));
      words = λ i t is. absurd (ok_not_err _ (fault.WordsDiffer i t) is);
      no_memory = λ told is. absurd (ok_not_err _ fault.NoMemory is);
      memory_current = λ told is. absurd (ok_not_err _ fault.NoMemory is);
      good = λ told. subst (λ (k : ℕ). IsFor k (s d0).held) (sym header.for_words ∙ words) (header.good told);
      current = λ told. ap (λ (hh : Header). hh.version) (sym (header.read told))
          ∙ version_2 _ header.limits.least_version header.limits.most_version c.if-header-eq1.false;
      old_version = λ is. absurd (ok_not_err _ fault.OldVersion is);
      started = record {
        stands = record {
          header = refl;
          stream = subst (λ (hh : Header). RepresentsStream m.stream.value (stream_past (past_at_start table hh r.next n))) (sym same)
              (stream-started m.stream.value table h.payload made.stream);
          session = refl;
          next = subst (λ (hh : Header). r.next ≡ r.next + due_count (past_at_start table hh r.next n)) (sym same)
              (next-started m.stream.value table h.payload r.next made.stream);
          room = omega (arith, ap (λ (hh : Header). hh.payload) same, c.in_ok-header.ensures.limits.most_payload, long);
        };
        session = λ told. ap (λ (m : ℕ). (m + 1) % 2 ^ 32) (c.session-session.ensures.number ∙ ok.session told
            ∙ ap (λ (l : List ℕ). last_session (recovered_run h l)) held01)
            ∙ sym (session_of-is (recovered_run h (s d0).held)) ∙ ap (λ (hh : Header). session_of (recovered_run hh (s d0).held)) (sym same);
        version = ap (λ (hh : Header). hh.version) same ∙ omega (
          arith,
          c.in_ok-header.ensures.limits.least_version,
          c.in_ok-header.ensures.limits.most_version,
          c.if-header-eq1.false,
        );
        words = ap (λ (hh : Header). hh.words) same ∙ words;
        header = λ told. same ∙ c.in_ok-header.ensures.read told;
        next = next;
        held = λ told. held23 ∙ ok.attached.held told ∙ ap (λ (l : List ℕ). image_with_closed_gate (gate_at h (next_of h l)) l) held01
            ∙ ap (λ (hh : Header). image_with_closed_gate (gate_at hh (next_of hh (s d0).held)) (s d0).held) (sym same);
        run = λ told. ap (λ (l : List ℕ). recovered_run r.header l) held23 ∙ ap (λ (hh : Header). recovered_run hh (s d2).held) same ∙ ok.attached.run told
            ∙ ap (λ (l : List ℕ). last_blocks (h.slots - 1) (recovered_run h l)) held01
            ∙ ap (λ (hh : Header). last_blocks (hh.slots - 1) (recovered_run hh (s d0).held)) (sym same);
        fact = IsSureRing-told _ _ _ _ _ c.announce.ensures.disk ok.fact;
        settled = λ stops image left. ok.attached.settled stops image (c.announce.ensures.disk.disk.no_more image left) ∙ sym held23;
        announced = announces.announced;
        greatest = greatest-started t h (s d0) (s d1) (is d0) read.disk_work read.disk fresh (s d2) c.attach.ensures.changes.disk_work.passes
            (λ stops. c.attach.ensures.changes.disk_work) ok.attached.succeeds.fresh r.next (s d3) announces;
        least = least-started t h (s d0) (s d1) (is d0) read.disk_work read.disk fresh (s d2) c.attach.ensures.changes.disk_work.passes
            (λ stops. c.attach.ensures.changes.disk_work) ok.attached.succeeds.fresh r.next (s d3) announces;
      };
      starts = Starts-announced t _ _ _ (is d0) read.disk_work read.disk fresh (s d2) c.attach.ensures.changes.disk_work.passes
          (attaching g at) ok.attached.succeeds.fresh c.next.result (s d3) told_after.announces ok.attached.settled
          (λ stops. subst (λ (hh : Header). IsAttaching hh (s d1).held (s d2).held) (same_header g at stops)
          (c.attach.ensures.changes.keeps ((is d0).stops_need_bytes stops)))
          (λ stops. c.next.ensures.number ∙ ok.attached.next ((is d0).stops_need_bytes stops)
          ∙ ap (λ (hh : Header). next_of hh (s d1).held) (same_header g at stops))
          told_after.disk told_after.input told_after.input_faults told_after.time told_after.moments;
      looked = λ other. tt;
      announced_last = starting_announced t (header_in (s d0).held) _ _ (is d0) read.disk_work read.disk fresh
          (s d2) c.attach.ensures.changes.disk_work.passes
          (attaching g at) (s d3) told_after.time told_after.moments;
      refused = tt;
      learns = LearnsExtent-then _ _ _ _ read.learns extent;
      untouched = λ other. tt;
      no_fault = λ other.
          told_after.disk.disk_faults ∙ ok.attached.succeeds.disk_faults ∙ (header.succeeds (ok_not_err _ header_fault.DiskFault)).disk_faults;
      cause = λ is. absurd (ok_not_err _ fault.DiskFault is);
      rest = then _ _ (then _ _ read.rest c.attach.ensures.rest) told_after.rest;
    }

pub invariant_of-result : goal.invariant_of-result
invariant_of-result c = search rules
