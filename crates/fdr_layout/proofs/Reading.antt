-- What is read of a layout's flat lists.
use Rattle.std.proofs.Common.{◌≡◌, ℕ, ◌+◌, ◌-◌, ◌<◌, List, [], ◌∷◌, Option, Some, map, length, get_or, take, drop, refl, sym, ap, subst, ◌∙◌, zero-add}
use Rattle.std.proofs.Common.{arith}
use Rattle.std.specs.Option.{option_map, option_map_or}
use Rattle.std.specs.List.{All, range_with_len, slice_get}
use Rattle.std.proofs.lemmas.List.{length-map, length-take, length-drop, get_or-take, get_or-drop}
use Rattle.std.proofs.lemmas.List.FromFn.{length-map-range_with_len, get_or-map-range_with_len}
use Rattle.std.proofs.lemmas.Option.{slice_get-map, slice_get-get_or, slice_get_within}
use Rattle.std.proofs.lemmas.List.Elements.{All-cons, All-head, All-tail}
use Rattle.fdr_lists.proofs.Filters.{map-agree}
use Rattle.fdr_layout.specs.declared.flat.FlatLists.{FlatLists}
use Rattle.fdr_layout.specs.declared.parts.Sample.{Sample as ListedSample}
use Rattle.fdr_layout.specs.Flat.{segment, segments}
use Rattle.fdr_layout.specs.Listed.{numbered_parts, sample_in, IsListedSample}
use Rattle.fdr_layout.specs.LayoutView.{parts_numbered, listed_sample, sample_numbered, laid}
use Rattle.fdr_layout.specs.Samples.{Part, Sample}
use Rattle.fdr_layout.specs.SlotParts.{SlotPart, Laid, parts_of_sample}

pub segments_long : {X : Type 0} (starts : List ℕ) (flat : List X) → length (segments starts flat) ≡ length starts - 1
segments_long starts flat = length-map-range_with_len (segment starts flat) 0 (length starts - 1)

pub segment_at : {X : Type 0} (starts : List ℕ) (flat : List X) (k : ℕ) (d : List X) → k + 1 < length starts
    → get_or (segments starts flat) k d ≡ segment starts flat k
segment_at starts flat k d within = get_or-map-range_with_len (segment starts flat) 0 (length starts - 1) k k d (omega arith) (zero-add k)

pub segment_got : {X : Type 0} (starts : List ℕ) (flat : List X) (k : ℕ) → k + 1 < length starts
    → slice_get (segments starts flat) k ≡ Some (segment starts flat k)
segment_got starts flat k within =
    slice_get-get_or (segments starts flat) k (segment starts flat k) (omega (arith, segments_long starts flat))
    ∙ ap Some (segment_at starts flat k (segment starts flat k) within)

-- list k, as it was read
pub read_segment : {X : Type 0} (starts starts2 : List ℕ) (flat flat2 : List X) (k : ℕ) (read : List X) → read ≡ segment starts2 flat2 k
    → starts2 ≡ starts → flat2 ≡ flat → read ≡ segment starts flat k
read_segment starts starts2 flat flat2 k read is same_starts same_flat =
    is ∙ ap (λ xs. segment xs flat2 k) same_starts ∙ ap (λ xs. segment starts xs k) same_flat

-- what holds of each list holds of this one
pub segment_holds : {X : Type 0} (P : List X → Type 0) (starts : List ℕ) (flat : List X) (k : ℕ) → All P (segments starts flat) → k + 1 < length starts
    → P (segment starts flat k)
segment_holds P starts flat k all within =
    let d = segment starts flat k in
    subst P (segment_at starts flat k d within) (all k d (omega (arith, segments_long starts flat)))

-- what holds of each item holds of those of a list
pub All-segment : {X : Type 0} (P : X → Type 0) (starts : List ℕ) (flat : List X) (k : ℕ) → All P flat → All P (segment starts flat k)
All-segment P starts flat k all = λ j d l.
    let a = get_or starts k 0 in
    let n = get_or starts (k + 1) 0 - a in
    let within : j < length (take n (drop a flat)) = l in
    let long = length-take n (drop a flat) in
    let rest = length-drop a flat in
    let at : get_or (take n (drop a flat)) j d ≡ get_or flat (a + j) d =
    get_or-take n (drop a flat) j d (omega (arith, within, long)) ∙ get_or-drop a flat j d in
    subst P (sym at) (all (a + j) d (omega (arith, within, long, rest)))

-- how many slots a layout has, and how many samples
pub slots_counted : (l : FlatLists) (s : Laid) → laid l ≡ s → length s.slots ≡ length l.slot_starts.items - 1
slots_counted l s is = ap (λ (x : Laid). length x.slots) (sym is) ∙ segments_long l.slot_starts.items l.by_slot.items

pub samples_counted : (l : FlatLists) (s : Laid) → laid l ≡ s → length s.samples ≡ length l.sample_starts.items - 1
samples_counted l s is =
    ap (λ (x : Laid). length x.samples) (sym is)
    ∙ length-map-range_with_len (sample_numbered l.sample_starts.items l.by_sample.items l.ending.items) 0
    (length l.sample_starts.items - 1)

-- the parts of a sample, by its number
pub numbered_parts_are : (l : Laid) (starts : List ℕ) (parts : List SlotPart) (ending : List ListedSample) (n : ℕ)
    → l.samples ≡ map (sample_numbered starts parts ending) (range_with_len 0 (length starts - 1)) → n + 1 < length starts
    → numbered_parts l n ≡ parts_numbered starts parts n
numbered_parts_are l starts parts ending n are within =
    let f = sample_numbered starts parts ending in
    let long = length-map-range_with_len f 0 (length starts - 1) in
    let at : slice_get l.samples n ≡ Some (f n) =
    ap (λ xs. slice_get xs n) are ∙ slice_get-get_or (map f (range_with_len 0 (length starts - 1))) n (f n) (omega (arith, long))
    ∙ ap Some (get_or-map-range_with_len f 0 (length starts - 1) n n (f n) (omega arith) (zero-add n)) in
    ap (λ (o : Option Sample). option_map_or (λ (s : Sample). s.parts) o []) at

-- a listed sample is that of its number
pub listed_is : (l : Laid) (starts : List ℕ) (parts : List SlotPart) (ending : List ListedSample) (e : ListedSample)
    → l.samples ≡ map (sample_numbered starts parts ending) (range_with_len 0 (length starts - 1)) → IsListedSample l e
    → listed_sample starts parts e ≡ sample_in l e
listed_is l starts parts ending e are is =
    let f = sample_numbered starts parts ending in
    let long = ap length are ∙ length-map-range_with_len f 0 (length starts - 1) in
    let within = slice_get_within l.samples e.number (sample_in l e) is.sample in
    let made : List Part → Sample = λ ps. record { param = e.param; index = e.index; parts = ps } in
    ap made (sym (numbered_parts_are l starts parts ending e.number are (omega (arith, long, within))))

pub cycle_got : (l : Laid) (starts cycles : List ℕ) (parts : List SlotPart) (ending : List ListedSample) (c : ℕ)
    → l.samples ≡ map (sample_numbered starts parts ending) (range_with_len 0 (length starts - 1))
    → l.cycles ≡ map (λ (es : List ListedSample). map (listed_sample starts parts) es) (segments cycles ending)
    → All (IsListedSample l) ending → c + 1 < length cycles → slice_get l.cycles c ≡ Some (map (sample_in l) (segment cycles ending c))
cycle_got l starts cycles parts ending c are cycles_are listed within =
    let g : List ListedSample → List Sample = λ es. map (listed_sample starts parts) es in
    let own = All-segment (IsListedSample l) cycles ending c listed in
    ap (λ xs. slice_get xs c) cycles_are ∙ slice_get-map g (segments cycles ending) c
    ∙ ap (option_map g) (segment_got cycles ending c within)
    ∙ ap Some (map-agree (listed_sample starts parts) (sample_in l) (segment cycles ending c)
    (λ k d lt. listed_is l starts parts ending (get_or (segment cycles ending c) k d) are (own k d lt)))

-- parts that are all of one sample, by that and their places
pub owned : (n : ℕ) (parts : List SlotPart) → All (λ (a : SlotPart). a.sample ≡ n) parts → parts ≡ parts_of_sample n (map (λ (a : SlotPart). a.part) parts)
owned n [] all = refl
owned n (a ∷ rest) all =
    let here = All-head (λ (b : SlotPart). b.sample ≡ n) a rest all in
    let made : ℕ → SlotPart = λ m. record { sample = m; part = a.part } in
    ap (λ m. made m ∷ rest) here ∙ ap (λ bs. made n ∷ bs) (owned n rest (All-tail (λ (b : SlotPart). b.sample ≡ n) a rest all))

-- lists whose images are short are short
pub all_few : {X Y : Type 0} (g : X → Y) (m : ℕ) (xss : List (List X)) → All (λ ys. length ys < m) (map (λ xs. map g xs) xss) → All (λ xs. length xs < m) xss
all_few g m [] all = λ k d l. absurd (omega arith)
all_few g m (xs ∷ xss) all =
    let long : length (map g xs) ≡ length xs = length-map xs g in
    let here = All-head (λ ys. length ys < m) (map g xs) (map (λ zs. map g zs) xss) all in
    All-cons (λ zs. length zs < m) xs xss (omega (arith, long, here)) (all_few g m xss (All-tail (λ ys. length ys < m) (map g xs) (map
    (λ zs. map g zs) xss) all))
