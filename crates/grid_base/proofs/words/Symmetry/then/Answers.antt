use Rattle.std.proofs.Common.{◌≡◌, arith}
use Rattle.grid_base.proofs.Lemmas.{product, IsThen-product}
use Rattle.grid_base.proofs.words.Symmetry.then.Goals as goal

pub returns-then-next_transposes : goal.returns-then-next_transposes
returns-then-next_transposes c =
    let concat_rows : c.with_flags.result ≡ product c.args.self c.args.next =
    grind (arith, c.with_flags.ensures, c.flags-transposes.ensures, c.flags-next_transposes.ensures, c.if-next_transposes.true) in
    rw concat_rows (IsThen-product _ _)

pub returns-else-next_transposes : goal.returns-else-next_transposes
returns-else-next_transposes c =
    let concat_rows : c.with_flags-else-next_transposes.result ≡ product c.args.self c.args.next =
    grind (arith, c.with_flags-else-next_transposes.ensures, c.flags-transposes.ensures, c.flags-next_transposes.ensures, c.if-next_transposes.false) in
    rw concat_rows (IsThen-product _ _)
