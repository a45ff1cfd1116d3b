use Rattle.std.proofs.Common.{◌≡◌, ◌<◌, ◌+◌, sym, ◌∙◌, ap, subst, arith}
use Rattle.std.specs.Ordering.{is_lt}
use Rattle.grid_base.proofs.Common.{act}
use Rattle.grid_base.proofs.GroupLemmas.{act-identity}
use Rattle.grid_images.specs.Images.{symmetry_at}
use Rattle.grid_images.specs.TableOrder.{table_cmp}
use Rattle.grid_images.proofs.LeastLemmas.{IsLeastOf, least_one, least_new, least_old, least_all}
use Rattle.grid_images.proofs.least.least_image.Goals as goal
use Rattle.grid_images.proofs.least.least_image.Goals.{then-is_lt, else-is_lt}

pub loop-i-init : goal.loop-i-init
loop-i-init g c =
    let t = g.V.AsView.rows c.args.board.now in (
      ap (λ v. v.rows) c.view-least_view.ensures ∙ (c.as_view-view.ensures ∙ sym (act-identity t (g.met.V.AsView.table c.args.board.now))),
      least_one g.T.Ord.cmp g.met.T.Ord.total t,
    )

pub loop-i-preserved : goal.loop-i-preserved
loop-i-preserved g c =
    let t = g.V.AsView.rows c.args.board.now in
    let i = c.loop-i.i in
    let s = c.loop-i.least in
    let small : i < 8 = omega arith in
    let image : c.turned-image.result.rows ≡ act (symmetry_at i) t = c.turned-image.ensures.rows ∙ ap (act (symmetry_at i)) c.as_view-view.ensures in
    let told : is_lt (table_cmp g.T.Ord.cmp (act (symmetry_at i) t) (act s t)) ≡ c.is_lt.result = cc in
    elim c.if-is_lt.branch [
      | then-is_lt w ↦ (ap (λ v. v.rows) w.least_view-is ∙ (image ∙ ap (λ u. act u t) (sym w.least-is)), subst (IsLeastOf g.T.Ord.cmp t (i + 1)) (sym w.least-is) (least_new g.T.Ord.cmp g.met.T.Ord.total t i s small c.loop-i.invariant.1 (told ∙ w.if-is_lt.true)))
      | else-is_lt w ↦ (ap (λ v. v.rows) w.least_view-is ∙ (c.loop-i.invariant.0 ∙ ap (λ u. act u t) (sym w.least-is)), subst (IsLeastOf g.T.Ord.cmp t (i + 1)) (sym w.least-is) (least_old g.T.Ord.cmp g.met.T.Ord.total t i s small c.loop-i.invariant.1 (told ∙ w.if-is_lt.false)))
    ]

pub returns : goal.returns
returns g c =
    let at_end : c.loop-i.i ≡ 8 = omega arith in
    least_all g.T.Ord.cmp g.met.T.Ord.total (g.V.AsView.rows c.args.board.now) c.loop-i.least (subst (λ i. IsLeastOf g.T.Ord.cmp (g.V.AsView.rows c.args.board.now) i c.loop-i.least) at_end c.loop-i.invariant.1)
