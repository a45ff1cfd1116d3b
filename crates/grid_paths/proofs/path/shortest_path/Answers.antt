use Rattle.std.proofs.Common.{ℕ, refl, rules}
use Rattle.grid_paths.proofs.Common.{IsMarked, Walk, IsShortestPath}
use Rattle.grid_paths.proofs.Lemmas.{HoldsOfAnswers-is, IsShortestPath-from_number, no_walk, path_in_range}
use Rattle.grid_paths.proofs.path.shortest_path.Goals as goal

pub follow-requires-clause-least : goal.follow-requires-clause-least
follow-requires-clause-least g c =
    let marked : IsMarked c.in_ok-steps.steps.rows c.args.from c.in-Some.count = search rules in
    (c.args.connectivity, c.in_ok-mask.mask.rows, c.args.to, (c.in_ok-steps.ensures.settled c.args.to c.args.from refl refl).found c.in-Some.count marked)

pub returns-in-Some : goal.returns-in-Some
returns-in-Some g c =
    let path = c.in_ok-follow-in-Some.field-0.items in
    let mask = c.in_ok-mask.mask.rows in
    let marked : IsMarked c.in_ok-steps.steps.rows c.args.from c.in-Some.count = search rules in
    let least = (c.in_ok-steps.ensures.settled c.args.to c.args.from refl refl).found c.in-Some.count marked in
    let shortest =
    HoldsOfAnswers-is _ _ _ (λ x. IsShortestPath c.args.connectivity x c.args.from c.args.to path) mask c.in_ok-mask.ensures.answers c.in_ok-mask.ensures.cells
    (IsShortestPath-from_number c.args.connectivity mask c.args.from c.args.to c.in_ok-steps.steps.rows c.in-Some.count path least
    marked (c.in_ok-follow-in-Some.ensures.path c.args.connectivity mask c.args.to least) c.in_ok-follow-in-Some.ensures.len) in
    record { shortest = shortest; in_range = path_in_range _ _ c.args.connectivity _ c.args.from c.args.to path shortest }

pub returns : goal.returns
returns g c = record {
  shortest =
      HoldsOfAnswers-is _ _ _ (λ x. (n : ℕ) → Walk c.args.connectivity x c.args.from c.args.to n → ⊥) c.in_ok-mask.mask.rows c.in_ok-mask.ensures.answers c.in_ok-mask.ensures.cells
      (no_walk c.args.connectivity c.in_ok-mask.mask.rows c.args.from c.args.to c.in_ok-steps.steps.rows
      (c.in_ok-steps.ensures.settled c.args.to c.args.from refl refl) (λ k m. search (rules, m)));
  in_range = tt;
}
