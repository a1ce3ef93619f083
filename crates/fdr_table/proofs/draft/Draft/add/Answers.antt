use Rattle.std.proofs.Common.{◌≡◌, ◌+◌, ◌<◌, ◌∙◌, sym, ap, subst, [], ◌∷◌, ◌++◌, length, arith, rules, length-append}
use Rattle.std.proofs.lemmas.List.Elements.{All-push, All-same, All-weaker}
use Rattle.fdr_table.specs.Rows.{PlaceRow}
use Rattle.fdr_table.specs.Ranges.{IsPlaceInRange, IsFrameInRange}
use Rattle.fdr_table.specs.Draft.{Fits, IsDraftInRange}
use Rattle.fdr_table.specs.DraftRows.{DraftRows}
use Rattle.fdr_table.specs.declared.draft.Draft.TheInside.{Inside}
use Rattle.fdr_table.proofs.draft.Draft.add.Goals as goal
use Rattle.fdr_table.proofs.draft.Draft.add.Goals.{in-Frame, in-Param+in_ok-push-in-Param, in-Place+else-is_err}

-- the fields keep their ranges, whatever the number of rows
abbrev AreInRange : Inside → Type 0
AreInRange s = IsDraftInRange (record { frame = s.frame; params = s.params; places = s.places.items; rows = s.rows + 1 })

pub invariant_of-self : goal.invariant_of-self
invariant_of-self c = rw c.in_err-push-in-Param.ensures.kept c.self.invariant

pub invariant_of-self-2 : goal.invariant_of-self-2
invariant_of-self-2 c =
    let params = c.self.inside.params in
    let places = c.self.inside.places.items in
    elim c.match-entry.branch [
      | in-Frame w ↦
          let frame : IsFrameInRange w.in-Frame.frame = search rules in
          subst AreInRange (sym w.self-inside-is) (record { frame = frame; places = c.self.invariant.places; owners = c.self.invariant.owners })
      | in-Param+in_ok-push-in-Param w ↦
          let more = ap length w.in_ok-push-in-Param.ensures.added ∙ length-append params (w.in-Param.param ∷ []) in
          let owners = All-weaker (λ (l : PlaceRow). l.param < length params) (λ (l : PlaceRow). l.param < length w.push.new.self)
          (λ l lt. omega (arith, more, lt)) places c.self.invariant.owners in
          subst AreInRange (sym w.self-inside-is) (record { frame = c.self.invariant.frame; places = c.self.invariant.places; owners = owners })
      | in-Place+else-is_err w ↦
          let place : IsPlaceInRange w.in-Place.place = search rules in
          let items : w.push-in-Place.new.self.items ≡ places ++ w.in-Place.place ∷ [] = search rules in
          let view = ap (λ (d : DraftRows). length d.params) c.self.view_is in
          let fits = subst (Fits c.args.self.now) w.in-Place.is c.requires.fits in
          let owner : w.in-Place.place.param < length params = omega (arith, fits, view) in
          let inside = All-same IsPlaceInRange w.push-in-Place.new.self.items (places ++ w.in-Place.place ∷ []) items
          (All-push IsPlaceInRange places w.in-Place.place c.self.invariant.places place) in
          let owned = λ (l : PlaceRow). l.param < length params in
          let owners = All-same owned w.push-in-Place.new.self.items (places ++ w.in-Place.place ∷ []) items
          (All-push owned places w.in-Place.place c.self.invariant.owners owner) in
          subst AreInRange (sym w.self-inside-is) (record { frame = c.self.invariant.frame; places = inside; owners = owners })
    ]
