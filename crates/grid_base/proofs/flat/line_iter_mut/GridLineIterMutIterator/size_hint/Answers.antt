use Rattle.std.proofs.Common.{arith, ap, length, ◌≡◌, ◌∙◌, sym, ℕ, Some}
use Rattle.grid_base.proofs.Common.{line_mut_rest}
use Rattle.grid_base.proofs.Lemmas.{length-strided}
use Rattle.grid_base.proofs.flat.line_iter_mut.GridLineIterMutIterator.size_hint.Goals as goal

pub returns-clause-lower : goal.returns-clause-lower
returns-clause-lower g c = λ _. omega (arith, length-strided c.args.self.now.stride c.args.self.now.rest.now c.args.self.now.steps, c.div_ceil-len.ensures)

pub returns-clause-upper : goal.returns-clause-upper
returns-clause-upper g c = (tt, omega (arith, length-strided c.args.self.now.stride c.args.self.now.rest.now c.args.self.now.steps, c.div_ceil-len.ensures))

pub returns-clause-exact : goal.returns-clause-exact
returns-clause-exact g c =
    let e : c.div_ceil-len.result ≡ length (line_mut_rest c.args.self.now) = c.div_ceil-len.ensures ∙ sym (length-strided c.args.self.now.stride c.args.self.now.rest.now c.args.self.now.steps) in
    ap (λ (n : ℕ). (n, Some n)) e
