use Rattle.std.proofs.Common.{◌≡◌, ◌∙◌, List, ℕ, length, take, drop, ap, arith, length-take, rules}
use Rattle.std.specs.Prelude.{[], ◌∷◌, IsTrue, replicate}
use Rattle.fdr_deck.specs.Disk.{Torn, patched}
use Rattle.fdr_deck.specs.Calls.{IsDiskWork}
use Rattle.fdr_deck.proofs.Composing.{refusal, calls}
use Rattle.fdr_deck.proofs.Moments.{IsDiskWork-keep}
use Rattle.fdr_slot.specs.Places.{image_size}
use Rattle.fdr_slot.specs.Headers.{header_bytes}
use Rattle.fdr_ring.specs.Formatting.{fresh_image}
use Rattle.fdr_deck.proofs.Quiet.{IsDiskWork-weaken, IsDiskWork-then}
use Rattle.fdr_ring.proofs.Results.{map_ok}
use Rattle.fdr_ring.proofs.Made.{lays_tail, torn_stop, gate_stop, opened_fresh}
use Rattle.fdr_ring.proofs.make.lay_header.Given.{Over}
use Rattle.fdr_ring.proofs.make.lay_header.Goals.{After-write, After-sync, After-open_gate}
use Rattle.fdr_ring.proofs.make.lay_header.Goals as goal

-- a write that puts no more than the header after its gate
tail_laid : (g : Over) (c : After-write g) → IsDiskWork g.D.Deck.tells (Torn 1 63 (replicate (image_size c.args.h.now) 0)) (g.D.Deck.state c.args.deck.now)
    (g.D.Deck.state c.write.new.self)
tail_laid g c =
    lays_tail _ (image_size c.args.h.now) _ _ _ (g.met.D.Deck.sound c.args.deck.now) c.requires.zeros c.requires.settled
    (omega (arith, length-take 63 (drop 1 c.write_header-bytes.result))) c.write.ensures.passes c.write.ensures.moments c.write.ensures.tears

-- and the sync after it
synced : (g : Over) (c : After-sync g) → IsDiskWork g.D.Deck.tells (Torn 1 63 (replicate (image_size c.args.h.now) 0)) (g.D.Deck.state c.args.deck.now)
    (g.D.Deck.state c.write.new.self) → IsDiskWork g.D.Deck.tells (Torn 1 63 (replicate (image_size c.args.h.now) 0)) (g.D.Deck.state c.args.deck.now)
    (g.D.Deck.state c.sync.new.self)
synced g c laid =
    IsDiskWork-keep _ _ _ _ _ (g.met.D.Deck.sound c.args.deck.now) (g.met.D.Deck.sound c.write.new.self) laid
    c.sync.ensures.passes c.sync.ensures.moments c.sync.ensures.no_more

-- then the header after its gate is laid on zeros
header_held : (g : Over) (c : After-open_gate g) → IsTrue g.D.Deck.tells.bytes → (g.D.Deck.state c.sync.new.self).held
    ≡ patched 1 (take 63 (drop 1 (header_bytes c.args.h.now))) (replicate (image_size c.args.h.now) 0)
header_held g c told =
    c.sync.ensures.held ∙ c.in_ok-write.ensures.writes.held told
    ∙ ap (λ (l : List ℕ). patched 1 (take 63 (drop 1 l)) (g.D.Deck.state c.args.deck.now).held) c.write_header-bytes.ensures.bytes
    ∙ ap (patched 1 (take 63 (drop 1 (header_bytes c.args.h.now)))) (c.requires.zeros told)

-- the header was not written
pub returns-in_err-write : goal.returns-in_err-write
returns-in_err-write g c =
    let laid = IsDiskWork-weaken _ _ _ _ _ (tail_laid g (goal.at.returns-in_err-write g c).After-write)
    (λ told image torn. torn_stop c.args.h.now _ _ _ torn) in
    rw (refusal _ _ c.from_residual.ensures.1) (search (rules, laid, c.in_err-write.ensures))

-- it was not synced
pub returns-in_err-sync : goal.returns-in_err-sync
returns-in_err-sync g c =
    let at = goal.at.returns-in_err-sync g c in
    let laid = IsDiskWork-weaken _ _ _ _ _ (synced g at.After-sync (tail_laid g at.After-write)) (λ told image torn. torn_stop c.args.h.now _ _ _ torn) in
    rw (refusal _ _ c.from_residual-in_err-sync.ensures.1, c.sync.ensures.extent, ← c.in_ok-write.ensures.succeeds.disk_faults)
    (search (rules, laid, g.met.D.Deck.rest_then, c.in_err-sync.ensures, c.write.ensures))

-- its gate was opened
pub returns : goal.returns
returns g c =
    let sound = g.met.D.Deck.sound c.args.deck.now in
    let at = goal.at.returns g c in
    let tells = g.D.Deck.tells in
    let end = g.D.Deck.state c.open_gate.new.deck in
    let laid = IsDiskWork-then _ _ _ _ _ _ _ sound (synced g at.After-sync (tail_laid g at.After-write)) c.open_gate.ensures.changes.disk_work
    (λ told image torn. torn_stop c.args.h.now _ _ _ torn)
    (λ told image turned.
    let bytes_told = sound.stops_need_bytes told in
    let long : length (g.D.Deck.state c.sync.new.self).held ≡ image_size c.args.h.now = (g.met.D.Deck.sound c.sync.new.self).size bytes_told
    ∙ c.sync.ensures.extent ∙ c.write.ensures.extent ∙ c.requires.extent in
    gate_stop c.args.h.now (g.D.Deck.state c.sync.new.self).held image c.requires.limits (header_held g at.After-open_gate bytes_told)
    (omega (arith, long)) (turned (c.in_ok-sync.ensures.settles told))) in
    let held = map_ok c.open_gate.result (IsTrue tells.bytes → end.held ≡ patched 0 (0x5a ∷ []) (g.D.Deck.state c.sync.new.self).held)
    (IsTrue tells.bytes → end.held ≡ fresh_image c.args.h.now)
    (λ written told. written told ∙ ap (patched 0 (0x5a ∷ [])) (header_held g at.After-open_gate told) ∙ opened_fresh c.args.h.now)
    c.open_gate.ensures.written in
    rw (c.open_gate.ensures.changes.extent, c.sync.ensures.extent, ← c.in_ok-write.ensures.succeeds.disk_faults, ← c.in_ok-sync.ensures.succeeds.disk_faults)
    (search (rules, calls, laid, held, g.met.D.Deck.rest_then, c.open_gate.ensures, c.in_ok-sync.ensures, c.in_ok-write.ensures))
