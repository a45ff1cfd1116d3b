use Rattle.std.proofs.Common.{◌≡◌, ◌∙◌, ap, sym, take, take_all}
use Rattle.grid_base.proofs.Common.{act, test_table}
use Rattle.grid_base.proofs.Lemmas.{word_symmetry, word_symmetry-more, word-acts, alike_normal, then_is, product, IsTable-test}
use Rattle.grid_base.specs.declared.words.Move.TheVariants as moves
use Rattle.grid_base.proofs.words.reduce.Goals as goal

-- at the end of the loop
whole : (c : goal.After-loop-step) → c.loop-step.reduced ≡ word_symmetry c.args.word.now
whole c = c.loop-step.invariant ∙ ap word_symmetry (take_all c.loop-step.step-index c.args.word.now c.loop-step-test.false)

pub loop-step-preserved : goal.loop-step-preserved
loop-step-preserved c =
    then_is _ _ _ c.then-reduced.ensures
    ∙ (ap (λ x. product x c.of.result) c.loop-step.invariant ∙ (ap (product (word_symmetry (take c.loop-step.step-index c.args.word.now))) c.of.ensures
    ∙ sym (word_symmetry-more c.args.word.now c.loop-step.step-index moves.Transpose c.loop-step-test.true)))

pub returns-clause-normal : goal.returns-clause-normal
returns-clause-normal c = word-acts c.args.word.now test_table IsTable-test ∙ ap (λ x. act x test_table) (sym (whole c))

pub returns-clause-acts : goal.returns-clause-acts
returns-clause-acts c = λ t h. word-acts c.args.word.now t h ∙ ap (λ x. act x t) (sym (whole c))

pub returns-clause-alike : goal.returns-clause-alike
returns-clause-alike c = λ v. alike_normal c.args.word.now v c.loop-step.reduced (whole c)
