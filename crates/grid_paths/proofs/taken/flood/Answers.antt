use Rattle.std.proofs.Common.{refl, sym, ◌∙◌, ap, subst}
use Rattle.grid_paths.proofs.Common.{IfOk-weaker, IsFlood, places}
use Rattle.grid_paths.proofs.Lemmas.{HoldsOfAnswers-if_ok, answers-same, way-same, flood_in_range}
use Rattle.grid_paths.specs.contracts.taken.EnterPartialEq.TheImpl.{ghosts}
use Rattle.grid_paths.proofs.taken.flood.Goals as goal

pub returns : goal.returns
returns g c =
    let walked = c.in_ok-take_region.ensures.flood in
    let ways = c.in_ok-ways.ways in
    let q = c.take_region.new.self.taken.items in
    let same : IsFlood c.args.connectivity ways.rows c.args.starts.now (places q) = subst (λ u. IsFlood c.args.connectivity u c.args.starts.now (places q)) (answers-same _ (way-same ghosts.eq refl refl refl refl refl) ways.rows ways.table) walked in
    let flood =
    HoldsOfAnswers-if_ok _ _ _ c.places_of.result (λ u found. IsFlood c.args.connectivity u c.args.starts.now found.items)
    ways.rows c.in_ok-ways.ensures.answers c.in_ok-ways.ensures.cells
    (IfOk-weaker c.places_of.result _ _
    (λ found e. subst (λ xs. IsFlood c.args.connectivity ways.rows c.args.starts.now xs) (sym (e ∙ ap places c.deref.ensures.value)) same)
    c.places_of.ensures) in
    record {
      flood = flood;
      in_range = IfOk-weaker c.places_of.result _ _ (λ found h. flood_in_range _ _ c.args.connectivity _ c.args.starts.now found.items h) flood;
    }
