use Rattle.std.proofs.Common.{◌≡◌, sym, refl, subst, length, arith}
use Rattle.grid.proofs.Common.{length_all_zip, same_from_all_zip, AreClones}
use Rattle.grid.proofs.Lemmas.{CanCut-same, cut_memory, cut_shape}
use Rattle.grid.proofs.ConversionLemmas.{refused}
use Rattle.grid.proofs.convert.cut_clones.Goals as goal

pub returns-in_err-copies : goal.returns-in_err-copies
returns-in_err-copies g c =
    let len : c.len-len.result ≡ length c.args.cells.now.items = omega arith in
    cut_memory _ c.args.cells.now.items c.args.cols (AreClones g.T.Clone.is_clone c.args.cells.now.items) c.from_residual.result
    (CanCut-same _ _ c.args.cols len (c.can_cut.ensures.0 c.if-can_cut.true)) c.from_residual.ensures.1

pub returns-in_ok-copies : goal.returns-in_ok-copies
returns-in_ok-copies g c =
    let len : c.len-len.result ≡ length c.args.cells.now.items = omega arith in
    let made = c.from_vec.ensures in
    let zip = c.in_ok-copies.ensures.cases.0 in (
      CanCut-same _ _ c.args.cols len (c.can_cut.ensures.0 c.if-can_cut.true),
      cut_shape _ _ _ _ made.order made.storage made.cols (sym (length_all_zip g.T.Clone.is_clone c.args.cells.now.items c.in_ok-copies.copies.items zip)),
      subst (AreClones g.T.Clone.is_clone c.args.cells.now.items) (sym made.storage)
          (record { each = zip; same = λ equal. same_from_all_zip g.T.Clone.is_clone c.args.cells.now.items c.in_ok-copies.copies.items zip equal }),
    )

pub returns-else-can_cut : goal.returns-else-can_cut
returns-else-can_cut g c =
    let len : c.len-len.result ≡ length c.args.cells.now.items = omega arith in
    (refused _ _ _ _ len c.can_cut.ensures.1 c.if-can_cut.false, len, refl)
