use Rattle.std.proofs.Common.{sym, subst}
use Rattle.std.proofs.lemmas.Int.{to_z-of_z}
use Rattle.fdr_exceed.specs.Windows.{IsWatched}
use Rattle.fdr_exceed.proofs.Signs.{other-sign, window-push}
use mir.Syntax.{w64}
use mir.Val.{to_z, of_z}
use Rattle.fdr_exceed.proofs.window.Window.push.Goals as goal

pub invariant_of-self : goal.invariant_of-self
invariant_of-self c =
    let v = to_z w64 (of_z w64 c.args.value) in
    let watched : IsWatched v = subst IsWatched (sym (to_z-of_z w64 c.args.value c.ranges.value)) c.requires in
    window-push c.self.inside.high c.self.inside.low c.push.new.self c.push-2.new.self v _ c.self.invariant c.push.ensures c.push-2.ensures
    (other-sign v watched)
