use Rattle.std.proofs.Common.{◌+◌, ◌-◌, ◌*◌, ◌<◌, Bool, sym, subst, ⊎_elim, arith}
use Rattle.std.specs.Prelude.{MatchBool}
use Rattle.std.proofs.lemmas.Bool.{cases_Bool}
use Rattle.fdr_sync.specs.Frames.{IsFramePosition}
use Rattle.fdr_resync.specs.Past.{ScannerKept, bytes_pushed}
use Rattle.fdr_resync.specs.View.{scanner_kept}
use Rattle.fdr_resync.proofs.Standing.{stands_seen}
use Rattle.fdr_resync.proofs.Taking.{not_all_taken}
use Rattle.fdr_resync.proofs.scanner.Scanner.drop_searched.Goals as goal

pub returns-clause-all_taken : goal.returns-clause-all_taken
returns-clause-all_taken c = λ past st all.
    let k = scanner_kept c.self.inside in
    let P : Bool → ScannerKept → Type 0 = λ b k.
    MatchBool b (IsFramePosition k.window k.words (k.from - 8 * k.before)) (8 * bytes_pushed k < k.from + 48 * k.words) in
    let reached : P c.seek.result k = subst (P c.seek.result) (sym c.self.view_is) c.seek.ensures.frame in
    let stood = stands_seen k _ past c.self.view_is (c.seek.ensures.stands past st) in
    ⊎_elim
    (λ whole. absurd (not_all_taken k past _ stood c.self.invariant (record { frame = subst (λ b. P b k) whole reached }) all))
    (λ short. let few : 8 * bytes_pushed k < k.from + 48 * k.words = subst (λ b. P b k) short reached in
    omega (arith, few, c.truncate.ensures.len, c.copy_within.ensures.len, c.len.ensures, c.self.invariant.behind))
    (cases_Bool c.seek.result)
