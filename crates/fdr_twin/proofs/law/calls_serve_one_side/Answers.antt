use Rattle.std.specs.Prelude.{ℕ, List, IsTrue}
use Rattle.fdr_twin.proofs.Serves.{serves}
use Rattle.fdr_twin.proofs.law.calls_serve_one_side.Goals as goal

pub returns : goal.returns
returns g c = λ holds side old new turned rest quiet.
    serves _ (λ (image : List ℕ). IsTrue (holds image)) side _ _ _ _ (g.met.T.Twin.sound_pair old) (g.met.T.Twin.faces old) (g.met.T.Twin.faces new) turned
    (g.met.T.Twin.leaves_rest old new rest) quiet
