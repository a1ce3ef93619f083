-- What is in the runs of an image, and in the text of them.
use Rattle.std.proofs.Common.{◌≡◌, ◌⊎◌, inl, inr, ⊎_elim, ℕ, zero, suc, ◌+◌, ◌-◌, ◌<◌, ◌≤◌, List, [], ◌∷◌, ◌++◌, length, take, drop, refl, sym, ap, subst}
use Rattle.std.proofs.Common.{◌∙◌, arith, append_assoc, append-nil}
use Rattle.std.specs.Prelude.{Contains}
use Rattle.std.specs.List.{flat_map, slice_index_or}
use Rattle.std.proofs.lemmas.List.{length-drop, get_or-drop}
use Rattle.std.proofs.lemmas.List.Concat.{flat_map-append}
use Rattle.std.proofs.lemmas.List.Elements.{All-contains, Contains-append_right}
use Rattle.fdr_bus.specs.declared.BusRecord.{BusRecord}
use Rattle.fdr_check.specs.Soundness.{IsSound}
use Rattle.fdr_slot.specs.declared.image.Header.{Header}
use Rattle.fdr_slot.specs.Limits.{IsInLimits}
use Rattle.fdr_recover.specs.Blocks.{Block, StandsInSlot}
use Rattle.fdr_recover.specs.Images.{block_in, next_of, recovered_run}
use Rattle.fdr_recover.specs.Payloads.{payloads_of}
use Rattle.fdr_recover.proofs.BlockLemmas.{recovered_run-is_recovered}
use Rattle.fdr_ring.specs.Runs.{last_blocks}
use Rattle.fdr_recorder.specs.Keeping.{RecoversPrefix}
use Rattle.fdr_salvage.specs.Runs.{runs_of}
use Rattle.fdr_salvage.proofs.InOne.{in_one_run}
use Rattle.fdr_salvage.proofs.LastRun.{runs-last}
use Rattle.fdr_table.specs.Ranges.{IsInRange}
use Rattle.fdr_table.specs.Rows.{TableRows}
use Rattle.fdr_readout.specs.Listing.{listing_of}
use Rattle.fdr_readout.specs.Survival.{Survives, frames_from, lines_at}
use Rattle.fdr_readout.proofs.Surviving.{surviving_run_listed}
use Rattle.fdr_top.specs.Salvage.{run_listing, salvage_text}
use Rattle.fdr_top.specs.Sessions.{listing_of_blocks, session_line, session_listing, sessions_of}
use Rattle.fdr_laws.specs.Salvaged.{IsInOneRun, StandsIn, promised_blocks}

-- ---- blocks

-- an element of a list that fewer elements were dropped of
Contains_dropped : {X : Type 0} (few many : ℕ) (xs : List X) (x : X) → few ≤ many → Contains (drop many xs) x → Contains (drop few xs) x
Contains_dropped few many xs x less h =
    let within : h.0 < length (drop many xs) = h.1 in
    let at : few + (many - few + h.0) ≡ many + h.0 = omega arith in (
      many - few + h.0,
      omega (arith, length-drop many xs, length-drop few xs),
      get_or-drop few xs (many - few + h.0) x ∙ ap (λ k. slice_index_or xs k x) at ∙ sym (get_or-drop many xs h.0 x) ∙ h.2,
    )

-- the promised blocks are in the recovered run
promised_recovered : (h : Header) (entry image : List ℕ) (old new : List Block) (announced : ℕ) (b : Block)
    → RecoversPrefix h entry old new announced image → Contains (promised_blocks h entry old new image) b → Contains (recovered_run h image) b
promised_recovered h entry image old new announced b keeps promised =
    let count : next_of h image - next_of h entry ≡ keeps.count = omega (arith, keeps.next) in
    let whole = old ++ take keeps.count new in
    let here : Contains (last_blocks (h.slots - 2) whole) b = subst (λ n. Contains (last_blocks (h.slots - 2) (old ++ take n new)) b) count promised in
    let few : keeps.run.lost ≤ length whole - (h.slots - 2) =
    omega (arith, keeps.run.enough, keeps.run.within, ap length keeps.run.tail, length-drop keeps.run.lost whole) in
    subst (λ xs. Contains xs b) (sym keeps.run.tail) (Contains_dropped keeps.run.lost (length whole - (h.slots - 2)) whole b few here)

contains_not_nil : (xs : List Block) (b : Block) → Contains xs b → xs ≡ [] → ⊥
contains_not_nil xs b h none = let within : h.0 < length xs = h.1 in omega (arith, ap length none)

in_last : (runs : List (List Block)) (earlier : List (List Block)) (run : List Block) → runs ≡ earlier ++ run ∷ [] → Contains runs run
in_last runs earlier run is = subst (λ xs. Contains xs run) (sym is) (Contains-append_right earlier (run ∷ []) run (0, omega arith, refl))

pub promised_in_one : (h : Header) (entry image : List ℕ) (old new : List Block) (announced : ℕ) (b : Block) → IsInLimits h
    → RecoversPrefix h entry old new announced image → Contains (promised_blocks h entry old new image) b → IsInOneRun h image b
promised_in_one h entry image old new announced b limits keeps promised =
    let there : Contains (recovered_run h image) b = promised_recovered h entry image old new announced b keeps promised in
    let stands : StandsInSlot h.slots (block_in h image) b =
    All-contains (StandsInSlot h.slots (block_in h image)) (recovered_run h image) b (recovered_run-is_recovered h image limits).is_run.stand there in
    record {
      run = recovered_run h image;
      is_run = ⊎_elim
          (λ none. absurd (contains_not_nil (recovered_run h image) b there none.1))
          (λ some. in_last (runs_of h image) some.0 (recovered_run h image) some.1)
          (runs-last h image limits);
      among = there;
      once = in_one_run h image _ b limits stands;
    }

-- ---- texts

stands_further : {X : Type 0} (part mid whole : List X) → StandsIn part mid → StandsIn mid whole → StandsIn part whole
stands_further part mid whole inner outer = (
  outer.0 ++ inner.0,
  inner.1 ++ outer.1,
  outer.2 ∙ ap (λ xs. (outer.0 ++ xs) ++ outer.1) inner.2
      ∙ ap (λ xs. xs ++ outer.1) (sym (append_assoc outer.0 (inner.0 ++ part) inner.1) ∙ ap (λ xs. xs ++ inner.1) (sym (append_assoc outer.0 inner.0 part)))
      ∙ append_assoc ((outer.0 ++ inner.0) ++ part) inner.1 outer.1,
)

stands_in_flat : {A B : Type 0} (f : A → List B) (xs before after : List A) (x : A) → xs ≡ before ++ x ∷ after → StandsIn (f x) (flat_map f xs)
stands_in_flat f xs before after x is = (
  flat_map f before,
  flat_map f after,
  ap (flat_map f) is ∙ flat_map-append f before (x ∷ after) ∙ sym (append_assoc (flat_map f before) (f x) (flat_map f after)),
)

-- a list that has an element is what is before it, itself, and what is after it
split_at : {X : Type 0} (xs : List X) (x : X) → Contains xs x → (before : List X) × (after : List X) × (xs ≡ before ++ x ∷ after)
split_at [] x h = absurd (let within : h.0 < 0 = h.1 in omega arith)
split_at (y ∷ ys) x (zero, within, is) = ([], ys, ap (λ z. z ∷ ys) is)
split_at (y ∷ ys) x (suc k, within, is) =
    let rest = split_at ys x (k, omega (arith, within), is) in
    (y ∷ rest.0, rest.1, ap (λ zs. y ∷ zs) rest.2)

stands_behind : {X : Type 0} (front xs : List X) → StandsIn xs (front ++ xs)
stands_behind front xs = (front, [], sym (append-nil (front ++ xs)))

pub survivors_in_text : (t : TableRows) (records : List BusRecord) (h : Header) (image : List ℕ) (run session : List Block)
    (earlier later : List (List Block)) (q j m : ℕ) → IsInRange t → IsSound t → h.version ≡ 2 → Contains (runs_of h image) run
    → sessions_of run ≡ earlier ++ session ∷ later → Survives t records (payloads_of session) q j m
    → StandsIn (flat_map (lines_at t (payloads_of session)) (frames_from t.frame.words q m)) (salvage_text t h image)
unfolding salvage_text listing_of_blocks
survivors_in_text t records h image run session earlier later q j m range sound second is_run cut survives =
    let bits = payloads_of session in
    let lines = flat_map (lines_at t bits) (frames_from t.frame.words q m) in
    let listed : StandsIn lines (listing_of t bits) = (surviving_run_listed t records bits q j m range sound survives).lines in
    let in_session : StandsIn lines (session_listing t session) =
    stands_further lines (listing_of t bits) (session_listing t session) listed (stands_behind (session_line session) (listing_of t bits)) in
    let in_sessions : StandsIn lines (flat_map (session_listing t) (sessions_of run)) =
    stands_further lines (session_listing t session) (flat_map (session_listing t) (sessions_of run)) in_session
    (stands_in_flat (session_listing t) (sessions_of run) earlier later session cut) in
    let by_version : listing_of_blocks t h.version run ≡ flat_map (session_listing t) (sessions_of run) = ap (λ v. listing_of_blocks t v run) second in
    let in_run : StandsIn lines (run_listing t h.version run) =
    stands_further lines (listing_of_blocks t h.version run) (run_listing t h.version run) (subst (StandsIn lines) (sym by_version) in_sessions)
    (stands_behind _ (listing_of_blocks t h.version run)) in
    let place = split_at (runs_of h image) run is_run in
    stands_further lines (run_listing t h.version run) (salvage_text t h image) in_run
    (stands_in_flat (run_listing t h.version) (runs_of h image) place.0 place.1 run place.2)

pub last_run_text : (t : TableRows) (h : Header) (image : List ℕ) → IsInLimits h
    → ((recovered_run h image ≡ []) × (salvage_text t h image ≡ []))
    ⊎ ((front : List ℕ) × (salvage_text t h image ≡ front ++ run_listing t h.version (recovered_run h image)))
unfolding salvage_text
last_run_text t h image limits =
    let f = run_listing t h.version in
    ⊎_elim
    (λ none. inl (none.1, ap (flat_map f) none.0))
    (λ some. inr (
      flat_map f some.0,
      ap (flat_map f) some.1 ∙ flat_map-append f some.0 (recovered_run h image ∷ [])
          ∙ ap (λ xs. flat_map f some.0 ++ xs) (append-nil (f (recovered_run h image))),
    ))
    (runs-last h image limits)
