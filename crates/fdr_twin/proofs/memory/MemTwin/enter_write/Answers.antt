use Rattle.std.proofs.Common.{◌≡◌, Vec, ℕ, arith}
use Rattle.std.proofs.lemmas.Grind.{common_steps}
use Rattle.std.specs.Prelude.{Result, Ok, Err, OnOk}
use Rattle.std.specs.declared.alloc.Global.{Global}
use Rattle.fdr_twin.specs.declared.calls.SideCall.TheVariants.{Wrote}
use Rattle.fdr_twin.specs.TwinMemory.{IsTwinEntered}
use Rattle.fdr_twin.proofs.memory.MemTwin.enter_write.Goals as goal

map_ok : {T E : Type 0} (r : Result T E) (P Q : Type 0) → (P → Q) → OnOk r P → OnOk r Q
map_ok (Ok x) P Q f p = f p
map_ok (Err e) P Q f p = tt

pub returns-clause-entered : goal.returns-clause-entered
returns-clause-entered c =
    let Entered : Type 0 = (x : Vec ℕ Global) × (x.items ≡ c.args.bytes.now) × IsTwinEntered (Wrote c.args.at x) c.args.self.now c.enter_changed.new.self in
    map_ok c.enter_changed.result _ Entered (λ is. (c.in_ok-copy.copy, c.in_ok-copy.ensures, is)) c.enter_changed.ensures.entered

pub enter_changed-requires-clause-is : goal.enter_changed-requires-clause-is
enter_changed-requires-clause-is c = grind (arith, common_steps) steps 2000000
