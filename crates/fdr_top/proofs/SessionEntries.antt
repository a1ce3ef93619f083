-- What is taken of blocks that come one after another, session by session.
use Rattle.std.proofs.Common.{◌≡◌, ◌≢◌, ◌⊎◌, ⊎_elim, ℕ, ◌+◌, ◌<◌, ◌≤◌, ◌==◌, true, false, cond, List, [], ◌∷◌, ◌++◌, length, Option, Some, None, ap, sym}
use Rattle.std.proofs.Common.{refl, ◌∙◌, ◌-◌, ap₂, drop, take, subst, arith, append_assoc, append-nil, length-append}
use Rattle.std.specs.List.{flat_map}
use Rattle.std.proofs.Math.Seq.{drop-append_seam, take-append_seam}
use Rattle.std.proofs.lemmas.Grind.{flat_map-append}
use Rattle.std.proofs.lemmas.Bool.{cond-false}
use Rattle.std.proofs.lemmas.Bool.Decides.{eqb_tells}
use Rattle.fdr_frame.specs.WordCount.{IsWordCount}
use Rattle.fdr_sync.specs.Events.{decided_events}
use Rattle.fdr_sync.proofs.EventSteps.{decided_from_none}
use Rattle.fdr_sync.proofs.FrameLemmas.{none_in_few_bytes}
use Rattle.fdr_sync.proofs.FrameSteps.{word_count_some}
use Rattle.fdr_recover.specs.Blocks.{Block}
use Rattle.fdr_recover.specs.Payloads.{payloads_of}
use Rattle.fdr_recover.proofs.Between.{payloads-push}
use Rattle.fdr_recover.proofs.Stretching.{last_session-push, stretches-all}
use Rattle.fdr_table.specs.Rows.{TableRows}
use Rattle.fdr_readout.specs.declared.events.EventReader.{EventReader}
use Rattle.fdr_readout.specs.Entries.{Entry, LineEntry, entries_of, entry_lines}
use Rattle.fdr_readout.specs.Listing.{listing_of}
use Rattle.fdr_readout.specs.Reading.{ReadsEvents, decided_past, entries_in}
use Rattle.fdr_readout.specs.Taken.{HasTaken}
use Rattle.fdr_readout.specs.Takers.{TakerLaws}
use Rattle.fdr_readout.proofs.EntryLemmas.{lines_of_entries}
use Rattle.fdr_readout.proofs.Taking.{nothing_listed, taken_first, taken_nothing}
use Rattle.fdr_top.specs.Sessions.{are_of_one_session, entries_of_blocks, listing_of_blocks, session_entries, session_line, session_listing, session_text}
use Rattle.fdr_top.specs.Sessions.{sessions_of}
use Rattle.fdr_top.specs.SessionsTaken.{HasBegunBlock, HasTakenBlocks, IsOpenSession, TakesFirstBlocks, decided_entries, decided_of_blocks}
use Rattle.fdr_top.specs.SessionsTaken.{decided_of_sessions, decided_session, entries_before}
use Rattle.fdr_top.proofs.SessionLemmas.{sessions_ahead, sessions_other, sessions_same}

-- ---- the lines of the entries

lines_of_session : (t : TableRows) (session : List Block) → flat_map (entry_lines t) (session_entries t session) ≡ session_listing t session
unfolding entry_lines
lines_of_session t session = ap (λ (l : List ℕ). session_line session ++ l) (lines_of_entries t (payloads_of session))

lines_of_sessions : (t : TableRows) (sessions : List (List Block))
    → flat_map (entry_lines t) (flat_map (session_entries t) sessions) ≡ flat_map (session_listing t) sessions
lines_of_sessions t [] = refl
lines_of_sessions t (session ∷ sessions) =
    flat_map-append (entry_lines t) (session_entries t session) (flat_map (session_entries t) sessions)
    ∙ ap (λ (l : List ℕ). l ++ flat_map (entry_lines t) (flat_map (session_entries t) sessions)) (lines_of_session t session)
    ∙ ap (λ (l : List ℕ). session_listing t session ++ l) (lines_of_sessions t sessions)

-- the lines of the entries of blocks are their listing
pub lines_of_blocks : (t : TableRows) (version : ℕ) (blocks : List Block)
    → flat_map (entry_lines t) (entries_of_blocks t version blocks) ≡ listing_of_blocks t version blocks
unfolding entries_of_blocks listing_of_blocks
lines_of_blocks t version blocks =
    elim (version == 2) as (λ v. flat_map (entry_lines t) (cond v (flat_map (session_entries t) (sessions_of blocks)) (entries_of t (payloads_of blocks)))
    ≡ cond v (flat_map (session_listing t) (sessions_of blocks)) (listing_of t (payloads_of blocks))) [
      | true ↦ lines_of_sessions t (sessions_of blocks)
      | false ↦ lines_of_entries t (payloads_of blocks)
    ]

-- ---- the open session

same_line : (session more : List Block) → 0 < length session → session_line (session ++ more) ≡ session_line session
same_line [] more some = absurd (omega (arith, some))
same_line (b ∷ bs) more some = refl

-- the sessions that are closed once another begins
abbrev closed_then : Option ℕ → List (List Block) → List Block → List (List Block)
closed_then None closed current = []
closed_then (Some number) closed current = closed ++ current ∷ []

-- a block goes on with what is read
goes_on : (version : ℕ) (blocks : List Block) (open_session : Option ℕ) (closed : List (List Block)) (current : List Block) (b : Block)
    → (version ≢ 2) ⊎ (open_session ≡ Some b.session) → IsOpenSession version blocks open_session closed current
    → IsOpenSession version (blocks ++ b ∷ []) open_session closed (current ++ b ∷ [])
goes_on version blocks None closed current b either is = (
  λ second. absurd (⊎_elim (λ other. other second) (λ same. cc) either),
  ap (λ (l : List Block). l ++ b ∷ []) is.1,
)
goes_on version blocks (Some number) closed current b either is =
    let same : number ≡ b.session = ⊎_elim (λ other. absurd (other is.0)) (λ same. cc) either in (
      is.0,
      omega (arith, length-append current (b ∷ [])),
      last_session-push current b ∙ sym same,
      sessions_same blocks closed current b is.1 is.3 (is.2 ∙ same),
    )

goes_on-before : (t : TableRows) (version : ℕ) (blocks : List Block) (open_session : Option ℕ) (closed : List (List Block)) (current more : List Block)
    → IsOpenSession version blocks open_session closed current
    → entries_before t open_session closed (current ++ more) ≡ entries_before t open_session closed current
goes_on-before t version blocks None closed current more is = refl
goes_on-before t version blocks (Some number) closed current more is =
    ap (λ (l : List ℕ). flat_map (session_entries t) closed ++ LineEntry l ∷ []) (same_line current more is.1)

-- a block of another session begins it
begins : (version : ℕ) (blocks : List Block) (open_session : Option ℕ) (closed : List (List Block)) (current : List Block) (b : Block)
    → version ≡ 2 → open_session ≢ Some b.session → IsOpenSession version blocks open_session closed current
    → IsOpenSession version (blocks ++ b ∷ []) (Some b.session) (closed_then open_session closed current) (b ∷ [])
begins version blocks None closed current b second other is =
    (second, omega arith, refl, ap (λ (l : List Block). sessions_of (l ++ b ∷ [])) (is.0 second))
begins version blocks (Some number) closed current b second other is =
    (second, omega arith, refl, sessions_other blocks closed current b is.1 is.3 (λ same. other (ap Some (sym is.2 ∙ same))))

begins-before : (t : TableRows) (version : ℕ) (blocks : List Block) (open_session : Option ℕ) (closed : List (List Block)) (current : List Block) (b : Block)
    → IsWordCount t.frame.words → version ≡ 2 → IsOpenSession version blocks open_session closed current
    → entries_before t (Some b.session) (closed_then open_session closed current) (b ∷ [])
    ≡ (entries_before t open_session closed current ++ entries_of t (payloads_of current)) ++ LineEntry (session_text b.session b.number) ∷ []
begins-before t version blocks None closed current b count second is =
    let none : current ≡ [] = is.1 ∙ is.0 second in
    ap (λ (l : List Entry). l ++ LineEntry (session_text b.session b.number) ∷ [])
    (sym (ap (λ (l : List Block). entries_of t (payloads_of l)) none ∙ nothing_listed t count))
begins-before t version blocks (Some number) closed current b count second is =
    let line : Entry = LineEntry (session_text b.session b.number) in
    let front : List Entry = flat_map (session_entries t) closed in
    ap (λ (l : List Entry). l ++ line ∷ []) (
    flat_map-append (session_entries t) closed (current ∷ [])
    ∙ ap (λ (l : List Entry). front ++ l) (append-nil (session_entries t current))
    ∙ sym (append_assoc front (LineEntry (session_line current) ∷ []) (entries_of t (payloads_of current)))
    )

-- ---- what is listed of blocks, seen from the open session

of_version_2 : (t : TableRows) (version : ℕ) (blocks : List Block) → version ≡ 2
    → entries_of_blocks t version blocks ≡ flat_map (session_entries t) (sessions_of blocks)
unfolding entries_of_blocks
of_version_2 t version blocks second =
    ap (λ (n : ℕ). cond (n == 2) (flat_map (session_entries t) (sessions_of blocks)) (entries_of t (payloads_of blocks))) second

of_version_1 : (t : TableRows) (version : ℕ) (blocks : List Block) → version == 2 ≡ false
    → entries_of_blocks t version blocks ≡ entries_of t (payloads_of blocks)
unfolding entries_of_blocks
of_version_1 t version blocks first = cond-false (version == 2) _ _ first

-- however the blocks go on
ahead : (t : TableRows) (version : ℕ) (blocks more : List Block) (open_session : Option ℕ) (closed : List (List Block)) (current : List Block)
    → IsWordCount t.frame.words → IsOpenSession version blocks open_session closed current
    → (grown : List Block) × (later : List Entry) × (entries_of_blocks t version (blocks ++ more)
    ≡ (entries_before t open_session closed current ++ entries_of t (payloads_of (current ++ grown))) ++ later)
ahead t version blocks more None closed current count is = ⊎_elim
    (λ yes.
    let none : current ≡ [] = is.1 ∙ is.0 yes.1 in
    let nothing : entries_of t (payloads_of (current ++ [])) ≡ [] =
    ap (λ (l : List Block). entries_of t (payloads_of (l ++ []))) none ∙ nothing_listed t count in (
      [],
      entries_of_blocks t version more,
      ap (λ (l : List Block). entries_of_blocks t version (l ++ more)) (is.0 yes.1)
          ∙ ap (λ (l : List Entry). l ++ entries_of_blocks t version more) (sym nothing),
    ))
    (λ no. (
      more,
      [],
      of_version_1 t version (blocks ++ more) no.0
          ∙ ap (λ (l : List Block). entries_of t (payloads_of (l ++ more))) (sym is.1)
          ∙ sym (append-nil (entries_of t (payloads_of (current ++ more)))),
    ))
    (eqb_tells version 2)
ahead t version blocks more (Some number) closed current count is =
    let next = sessions_ahead blocks closed current more is.1 is.3 in
    let grown : List Block = current ++ next.0 in
    let front : List Entry = flat_map (session_entries t) closed in
    let later : List Entry = flat_map (session_entries t) next.1 in
    let line : LineEntry (session_line grown) ≡ LineEntry (session_line current) = ap LineEntry (same_line current next.0 is.1) in (
      next.0,
      later,
      of_version_2 t version (blocks ++ more) is.0
          ∙ ap (flat_map (session_entries t)) next.2
          ∙ flat_map-append (session_entries t) closed (grown ∷ next.1)
          ∙ ap (λ (e : Entry). front ++ ((e ∷ entries_of t (payloads_of grown)) ++ later)) line
          ∙ sym (append_assoc front (LineEntry (session_line current) ∷ entries_of t (payloads_of grown)) later)
          ∙ ap (λ (l : List Entry). l ++ later) (sym (append_assoc front (LineEntry (session_line current) ∷ []) (entries_of t (payloads_of grown)))),
    )

-- all that is listed of the blocks that came
whole : (t : TableRows) (version : ℕ) (blocks : List Block) (open_session : Option ℕ) (closed : List (List Block)) (current : List Block)
    → IsWordCount t.frame.words → IsOpenSession version blocks open_session closed current
    → entries_of_blocks t version blocks ≡ entries_before t open_session closed current ++ entries_of t (payloads_of current)
whole t version blocks None closed current count is = ⊎_elim
    (λ yes.
    let none : current ≡ [] = is.1 ∙ is.0 yes.1 in
    of_version_2 t version blocks yes.1 ∙ ap (λ (l : List Block). flat_map (session_entries t) (sessions_of l)) (is.0 yes.1)
    ∙ sym (ap (λ (l : List Block). entries_of t (payloads_of l)) none ∙ nothing_listed t count))
    (λ no. of_version_1 t version blocks no.0 ∙ ap (λ (l : List Block). entries_of t (payloads_of l)) (sym is.1))
    (eqb_tells version 2)
whole t version blocks (Some number) closed current count is =
    let front : List Entry = flat_map (session_entries t) closed in
    of_version_2 t version blocks is.0
    ∙ ap (flat_map (session_entries t)) is.3
    ∙ flat_map-append (session_entries t) closed (current ∷ [])
    ∙ ap (λ (l : List Entry). front ++ l) (append-nil (session_entries t current))
    ∙ sym (append_assoc front (LineEntry (session_line current) ∷ []) (entries_of t (payloads_of current)))

-- ---- what a taker took

-- it can't be read in more than all bits
bits_within : (version : ℕ) (blocks : List Block) (open_session : Option ℕ) (closed : List (List Block)) (current : List Block)
    → IsOpenSession version blocks open_session closed current → length (payloads_of current) ≤ length (payloads_of blocks)
bits_within version blocks None closed current is = rw is.1 (omega arith)
bits_within version blocks (Some number) closed current is =
    let front : List Block = flat_map (λ (s : List Block). s) closed in
    let all : blocks ≡ front ++ current =
    sym (stretches-all are_of_one_session blocks)
    ∙ ap (flat_map (λ (s : List Block). s)) is.3
    ∙ flat_map-append (λ (s : List Block). s) closed (current ∷ [])
    ∙ ap (λ (l : List Block). front ++ l) (append-nil current) in
    let bits : payloads_of blocks ≡ payloads_of front ++ payloads_of current =
    ap payloads_of all ∙ flat_map-append (λ (b : Block). b.payload) front current in
    omega (arith, ap length bits, length-append (payloads_of front) (payloads_of current))

-- ---- what blocks decide that may go on

-- no bytes decide anything
decided_none : (t : TableRows) → IsWordCount t.frame.words → decided_entries t [] ≡ []
decided_none t count =
    let w = t.frame.words in
    ap (entries_in t []) (decided_from_none [] w 0 (none_in_few_bytes [] w 0 (omega (arith, word_count_some w count))))

decided_last : (t : TableRows) (closed : List (List Block)) (current : List Block)
    → decided_of_sessions t (closed ++ current ∷ []) ≡ flat_map (session_entries t) closed ++ decided_session t current
decided_last t closed current =
    let sessions : List (List Block) = closed ++ current ∷ [] in
    let before : length sessions - 1 ≡ length closed = omega (arith, length-append closed (current ∷ [])) in
    ap (λ (n : ℕ). flat_map (session_entries t) (take n sessions) ++ flat_map (decided_session t) (drop n sessions)) before
    ∙ ap₂ (λ (xs ys : List (List Block)). flat_map (session_entries t) xs ++ flat_map (decided_session t) ys)
    (take-append_seam closed (current ∷ [])) (drop-append_seam closed (current ∷ []))
    ∙ ap (λ (l : List Entry). flat_map (session_entries t) closed ++ l) (append-nil (decided_session t current))

decided_of_version_2 : (t : TableRows) (version : ℕ) (blocks : List Block) → version ≡ 2
    → decided_of_blocks t version blocks ≡ decided_of_sessions t (sessions_of blocks)
unfolding decided_of_blocks
decided_of_version_2 t version blocks second =
    ap (λ (n : ℕ). cond (n == 2) (decided_of_sessions t (sessions_of blocks)) (decided_entries t (payloads_of blocks))) second

decided_of_version_1 : (t : TableRows) (version : ℕ) (blocks : List Block) → version == 2 ≡ false
    → decided_of_blocks t version blocks ≡ decided_entries t (payloads_of blocks)
unfolding decided_of_blocks
decided_of_version_1 t version blocks first = cond-false (version == 2) _ _ first

-- no blocks decide anything
pub decided_of_none : (t : TableRows) (version : ℕ) → IsWordCount t.frame.words → decided_of_blocks t version [] ≡ []
decided_of_none t version count = ⊎_elim
    (λ yes. decided_of_version_2 t version [] yes.1)
    (λ no. decided_of_version_1 t version [] no.0 ∙ decided_none t count)
    (eqb_tells version 2)

-- it is what comes before the bits of the open session, and what these decide
decided_open : (t : TableRows) (version : ℕ) (blocks : List Block) (open_session : Option ℕ) (closed : List (List Block)) (current : List Block)
    → IsWordCount t.frame.words → IsOpenSession version blocks open_session closed current
    → decided_of_blocks t version blocks ≡ entries_before t open_session closed current ++ decided_entries t (payloads_of current)
decided_open t version blocks None closed current count is = ⊎_elim
    (λ yes.
    let none : current ≡ [] = is.1 ∙ is.0 yes.1 in
    decided_of_version_2 t version blocks yes.1
    ∙ ap (λ (l : List Block). decided_of_sessions t (sessions_of l)) (is.0 yes.1)
    ∙ sym (ap (λ (l : List Block). decided_entries t (payloads_of l)) none ∙ decided_none t count))
    (λ no. decided_of_version_1 t version blocks no.0 ∙ ap (λ (l : List Block). decided_entries t (payloads_of l)) (sym is.1))
    (eqb_tells version 2)
decided_open t version blocks (Some number) closed current count is =
    decided_of_version_2 t version blocks is.0
    ∙ ap (decided_of_sessions t) is.3
    ∙ decided_last t closed current
    ∙ sym (append_assoc (flat_map (session_entries t) closed) (LineEntry (session_line current) ∷ []) (decided_entries t (payloads_of current)))

module _ {S O : Type 0} (took : TableRows → S → O → S → O → List Entry → Type 0) (failed_in : TableRows → S → O → O → List Entry → Type 0)
    (laws : TakerLaws took failed_in) (t : TableRows) (version : ℕ)
  where
    -- nothing yet
    pub no_blocks : (r : EventReader) (s : S) (o : O) → ReadsEvents t r (decided_past t.frame.words []) → HasTakenBlocks took t version None r [] s o s o
    no_blocks r s o reads = record {
      closed = [];
      current = [];
      mid = s;
      out_mid = o;
      session = (λ second. refl, refl);
      before = laws.nothing t s o;
      bits = taken_nothing took failed_in laws t r s o reads;
    }

    -- none were read
    pub first_none : (whole : List Block) (s : S) (o : O) → IsWordCount t.frame.words → TakesFirstBlocks took t version whole s o s o
    first_none whole s o count =
        let none = decided_of_none t version count in
        record {
          read = [];
          unread = whole;
          parted = refl;
          taken = subst (took t s o s o) (sym none) (laws.nothing t s o);
          later = entries_of_blocks t version whole;
          ahead = ap (λ (l : List Entry). l ++ entries_of_blocks t version whole) (sym none);
        }

    module _ (open_session : Option ℕ) (r : EventReader) (blocks : List Block) (b : Block) (first : S) (out_first : O) (now : S) (out_now : O) where
      -- the bits of a block that was begun are read
      pub block_read : (last : EventReader) (then_now : S) (out_then : O)
          → (had : HasBegunBlock took t version open_session r blocks b first out_first now out_now)
          → HasTaken took t last (payloads_of had.current ++ b.payload) had.mid had.out_mid then_now out_then
          → HasTakenBlocks took t version open_session last (blocks ++ b ∷ []) first out_first then_now out_then
      block_read last then_now out_then had read = record {
        closed = had.closed;
        current = had.current ++ b ∷ [];
        mid = had.mid;
        out_mid = had.out_mid;
        session = had.session;
        before = had.before;
        bits = subst (λ (bytes : List ℕ). HasTaken took t last bytes had.mid had.out_mid then_now out_then) (sym (payloads-push had.current b)) read;
      }

      -- and there are few of them
      pub few_begun : (had : HasBegunBlock took t version open_session r blocks b first out_first now out_now) (most : ℕ)
          → length (payloads_of blocks) + length b.payload ≤ most → length (payloads_of had.current) + length b.payload ≤ most
      few_begun had most few = omega (
        arith,
        few,
        bits_within version (blocks ++ b ∷ []) open_session had.closed (had.current ++ b ∷ []) had.session,
        ap length (payloads-push blocks b),
        ap length (payloads-push had.current b),
        length-append (payloads_of blocks) b.payload,
        length-append (payloads_of had.current) b.payload,
      )

      -- the taker failed in them
      pub block_failed : (out_then : O) (more : List Block) → (had : HasBegunBlock took t version open_session r blocks b first out_first now out_now)
          → ((rest : List ℕ) → failed_in t had.mid had.out_mid out_then (entries_of t ((payloads_of had.current ++ b.payload) ++ rest)))
          → failed_in t first out_first out_then (entries_of_blocks t version ((blocks ++ b ∷ []) ++ more))
      block_failed out_then more had failed =
          let next = ahead t version (blocks ++ b ∷ []) more open_session had.closed (had.current ++ b ∷ []) had.bits.reads.count had.session in
          let bits : payloads_of ((had.current ++ b ∷ []) ++ next.0) ≡ (payloads_of had.current ++ b.payload) ++ payloads_of next.0 =
          flat_map-append (λ (x : Block). x.payload) (had.current ++ b ∷ []) next.0
          ∙ ap (λ (l : List ℕ). l ++ payloads_of next.0) (payloads-push had.current b) in
          subst (failed_in t first out_first out_then) (sym next.2) (laws.fails_before t first out_first out_then _ next.1
          (laws.fails_then t first had.mid out_first had.out_mid out_then _ _ had.before
          (subst (λ (l : List ℕ). failed_in t had.mid had.out_mid out_then (entries_of t l)) (sym bits) (failed (payloads_of next.0)))))

    module _ (open_session : Option ℕ) (r : EventReader) (blocks : List Block) (first : S) (out_first : O) (now : S) (out_now : O)
        (had : HasTakenBlocks took t version open_session r blocks first out_first now out_now)
      where
        -- a block goes on with what is read
        pub block_goes_on : (b : Block) → (version ≢ 2) ⊎ (open_session ≡ Some b.session)
            → HasBegunBlock took t version open_session r blocks b first out_first now out_now
        block_goes_on b either = record {
          closed = had.closed;
          current = had.current;
          mid = had.mid;
          out_mid = had.out_mid;
          session = goes_on version blocks open_session had.closed had.current b either had.session;
          before = subst (took t first out_first had.mid had.out_mid)
              (sym (goes_on-before t version blocks open_session had.closed had.current (b ∷ []) had.session)) had.before;
          bits = had.bits;
        }

        -- all that the blocks hold was taken
        pub blocks_ended : (last : S) (out_last : O) → took t had.mid had.out_mid last out_last (entries_of t (payloads_of had.current))
            → took t first out_first last out_last (entries_of_blocks t version blocks)
        blocks_ended last out_last rest =
            subst (took t first out_first last out_last) (sym (whole t version blocks open_session had.closed had.current had.bits.reads.count had.session))
            (laws.then t first had.mid last out_first had.out_mid out_last _ _ had.before rest)

        -- the taker failed in the rest
        pub blocks_failed : (out_last : O) → failed_in t had.mid had.out_mid out_last (entries_of t (payloads_of had.current))
            → failed_in t first out_first out_last (entries_of_blocks t version blocks)
        blocks_failed out_last rest =
            subst (failed_in t first out_first out_last) (sym (whole t version blocks open_session had.closed had.current had.bits.reads.count had.session))
            (laws.fails_then t first had.mid out_first had.out_mid out_last _ _ had.before rest)

        -- what was taken is what the blocks decide, and comes first in all that is listed, however they go on
        pub blocks_first : (more : List Block) → TakesFirstBlocks took t version (blocks ++ more) first out_first now out_now
        blocks_first more =
            let count = had.bits.reads.count in
            let next = ahead t version blocks more open_session had.closed had.current count had.session in
            let bits = taken_first took t r (payloads_of had.current) (payloads_of next.0) had.mid had.out_mid now out_now had.bits in
            let before : List Entry = entries_before t open_session had.closed had.current in
            let all : entries_of t (payloads_of (had.current ++ next.0)) ≡ had.bits.entries ++ bits.0 =
            ap (entries_of t) (flat_map-append (λ (b : Block). b.payload) had.current next.0) ∙ bits.1 in
            let decided : had.bits.entries ≡ decided_entries t (payloads_of had.current) =
            sym (had.bits.decided [])
            ∙ ap (λ (l : List ℕ). entries_in t l (decided_events (payloads_of had.current) t.frame.words)) (append-nil (payloads_of had.current)) in
            let same : before ++ had.bits.entries ≡ decided_of_blocks t version blocks =
            ap (λ (l : List Entry). before ++ l) decided ∙ sym (decided_open t version blocks open_session had.closed had.current count had.session) in
            record {
              read = blocks;
              unread = more;
              parted = refl;
              taken = subst (took t first out_first now out_now) same
                  (laws.then t first had.mid now out_first had.out_mid out_now _ _ had.before had.bits.taken);
              later = bits.0 ++ next.1;
              ahead = next.2 ∙ ap (λ (l : List Entry). (before ++ l) ++ next.1) all
                  ∙ ap (λ (l : List Entry). l ++ next.1) (sym (append_assoc before had.bits.entries bits.0))
                  ∙ append_assoc (before ++ had.bits.entries) bits.0 next.1
                  ∙ ap (λ (l : List Entry). l ++ (bits.0 ++ next.1)) same;
            }

        -- ---- another session begins

        module _ (b : Block) (second : version ≡ 2) (other : open_session ≢ Some b.session) where
          line : Entry
          line = LineEntry (session_text b.session b.number)

          front : List Entry
          front = entries_before t open_session had.closed had.current ++ entries_of t (payloads_of had.current)

          -- what comes first, however the blocks go on
          begun_ahead : (more : List Block)
              → (rest : List Entry) × (entries_of_blocks t version ((blocks ++ b ∷ []) ++ more) ≡ (front ++ line ∷ []) ++ rest)
          unfolding front line
          begun_ahead more =
              let is = begins version blocks open_session had.closed had.current b second other had.session in
              let next = ahead t version (blocks ++ b ∷ []) more (Some b.session) (closed_then open_session had.closed had.current) (b ∷ [])
              had.bits.reads.count is in
              let bits : List Entry = entries_of t (payloads_of ((b ∷ []) ++ next.0)) in (
                bits ++ next.1,
                next.2 ∙ ap (λ (l : List Entry). (l ++ bits) ++ next.1)
                    (begins-before t version blocks open_session had.closed had.current b had.bits.reads.count second had.session)
                    ∙ append_assoc (front ++ line ∷ []) bits next.1,
              )

          -- the taker failed in what was left of the session before
          pub rest_failed : (out_last : O) (more : List Block) → failed_in t had.mid had.out_mid out_last (entries_of t (payloads_of had.current))
              → failed_in t first out_first out_last (entries_of_blocks t version ((blocks ++ b ∷ []) ++ more))
          unfolding front
          rest_failed out_last more failed =
              let next = begun_ahead more in
              subst (failed_in t first out_first out_last) (sym next.1)
              (laws.fails_before t first out_first out_last _ next.0 (laws.fails_before t first out_first out_last _ (line ∷ [])
              (laws.fails_then t first had.mid out_first had.out_mid out_last _ _ had.before failed)))

          module _ (ended : S) (out_ended : O) (rest : took t had.mid had.out_mid ended out_ended (entries_of t (payloads_of had.current))) where
            all_before : took t first out_first ended out_ended front
            unfolding front
            all_before = laws.then t first had.mid ended out_first had.out_mid out_ended _ _ had.before rest

            -- the taker failed in the session's line
            pub line_failed : (out_last : O) (more : List Block) → failed_in t ended out_ended out_last (LineEntry (session_text b.session b.number) ∷ [])
                → failed_in t first out_first out_last (entries_of_blocks t version ((blocks ++ b ∷ []) ++ more))
            unfolding line
            line_failed out_last more failed =
                let next = begun_ahead more in
                subst (failed_in t first out_first out_last) (sym next.1) (laws.fails_before t first out_first out_last _ next.0
                (laws.fails_then t first ended out_first out_ended out_last _ _ all_before failed))

            -- the session is begun
            pub session_begun : (last : EventReader) (then_now : S) (out_then : O)
                → took t ended out_ended then_now out_then (LineEntry (session_text b.session b.number) ∷ [])
                → ReadsEvents t last (decided_past t.frame.words [])
                → HasBegunBlock took t version (Some b.session) last blocks b first out_first then_now out_then
            unfolding front line
            session_begun last then_now out_then taken reads = record {
              closed = closed_then open_session had.closed had.current;
              current = [];
              mid = then_now;
              out_mid = out_then;
              session = begins version blocks open_session had.closed had.current b second other had.session;
              before = subst (took t first out_first then_now out_then)
                  (sym (begins-before t version blocks open_session had.closed had.current b had.bits.reads.count second had.session))
                  (laws.then t first ended then_now out_first out_ended out_then _ _ all_before taken);
              bits = taken_nothing took failed_in laws t last then_now out_then reads;
            }
