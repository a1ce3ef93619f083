use Rattle.std.proofs.Common.{ℕ, ◌<◌, List, set, replicate, arith}
use Rattle.std.proofs.lemmas.List.Elements.{All-set, All-replicate}
use Rattle.fdr_cases_values.proofs.frames.frame_of.Goals as goal

pub returns : goal.returns
returns c =
    let Small : ℕ → Type 0 = λ word. word < 4096 in
    let zeros : List ℕ = replicate 256 0 in
    let first : List ℕ = set zeros 0 583 in
    let counted : List ℕ = set first 1 c.args.counter in
    let flown : List ℕ = set counted 9 c.args.altitude in
    let placed : List ℕ = set flown 19 c.args.position in
    let second : List ℕ = set placed 64 1464 in
    let third : List ℕ = set second 128 2631 in
    All-set Small third 192 3512 (omega arith)
    (All-set Small second 128 2631 (omega arith)
    (All-set Small placed 64 1464 (omega arith)
    (All-set Small flown 19 c.args.position c.requires.position
    (All-set Small counted 9 c.args.altitude c.requires.altitude
    (All-set Small first 1 c.args.counter c.requires.counter
    (All-set Small zeros 0 583 (omega arith) (All-replicate Small 256 0 (omega arith))))))))
