use Rattle.std.proofs.Common.{rules, ◌≡◌, sym, subst, ⊎_elim}
use Rattle.grid_paths.proofs.Common.{IsOpen}
use Rattle.grid_paths.proofs.Lemmas.{free_there, inside_left, IsLeft-reach, Spreads-mark, Spreads-stay}
use Rattle.grid_paths.proofs.search.SearchVisitUsize.visit.Goals as goal

pub index_mut-requires : goal.index_mut-requires
index_mut-requires g c =
    let s = c.args.self.now in
    let is_left : IsOpen s.left.rows c.args.at = search rules in
    inside_left c.requires.0 s.steps.numbers.rows s.left.rows c.requires.1 s.steps.numbers.table s.left.table c.args.at c.args.count is_left

pub mark-requires : goal.mark-requires
mark-requires g c =
    let s = c.args.self.now in
    let is_left : IsOpen s.left.rows c.args.at = search rules in
    free_there c.requires.0 s.steps.numbers.rows s.left.rows c.requires.1 s.steps.numbers.table s.left.table c.args.at c.args.count is_left

pub returns-in_ok-mark : goal.returns-in_ok-mark
returns-in_ok-mark g c =
    λ mask l.
    let s = c.args.self.now in
    let u = s.steps.numbers in
    let w = s.left in
    let at = c.args.at in
    let k = c.args.count in
    let is_left : IsOpen w.rows at = search rules in
    let is_free = free_there mask u.rows w.rows l u.table w.table at k is_left in
    let marks = c.in_ok-mark.ensures in (
      Spreads-mark is_free marks mask (l.unreached_yet at is_left).0,
      IsLeft-reach mask u.rows w.rows l u.table w.table at k is_left c.mark.new.self.numbers.rows marks.numbers,
    )

pub returns-else-is_left : goal.returns-else-is_left
returns-else-is_left g c =
    λ mask l. (
      Spreads-stay (λ b. c.args.at ≡ b) c.args.self.now.steps
          (λ b e o. ⊎_elim (λ h. let here : IsOpen c.args.self.now.left.rows c.args.at = subst (λ x. IsOpen c.args.self.now.left.rows x) (sym e) h in absurd (search rules)) (λ m. m) (l.all b o)),
      l,
    )
