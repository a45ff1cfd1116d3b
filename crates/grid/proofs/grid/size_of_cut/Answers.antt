use Rattle.std.proofs.Common.{◌≡◌, ◌≢◌, ◌%◌, arith, ⊎_elim}
use Rattle.grid.proofs.Common.{HoldsSize-none, HoldsSize-cut}
use Rattle.grid.proofs.grid.size_of_cut.Goals as goal

pub returns-then-len-eq0-clause-holds : goal.returns-then-len-eq0-clause-holds
returns-then-len-eq0-clause-holds c = HoldsSize-none _ (omega arith)

pub returns-else-len-eq0-clause-holds : goal.returns-else-len-eq0-clause-holds
returns-else-len-eq0-clause-holds c =
    let even : (c.args.cols ≢ 0) × (c.args.len % c.args.cols ≡ 0) =
    ⊎_elim (λ e. absurd (omega arith)) (λ h. h) c.requires in
    HoldsSize-cut _ _ c.if-len-eq0.false even.0 even.1 (omega arith)
