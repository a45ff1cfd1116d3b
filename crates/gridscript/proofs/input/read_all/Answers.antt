-- What reads consume adds up to what the reader had, once it has nothing left.
use Rattle.std.proofs.Common.{◌≡◌, ℕ, ◌<◌, ◌∙◌, List, [], ◌++◌, length, take, Option, Some, None, IfSome, ap, sym, arith, append_assoc, append-nil}
use Rattle.std.specs.Io.KnownBytes.{Consumes, Keeps, IsAtEnd}
use Rattle.gridscript.proofs.input.read_all.Goals.{in-Ok+in_ok-extend_from_slice-in-Ok, in-Err}
use Rattle.gridscript.proofs.input.read_all.Goals as goal

then_consumes : (a b c : Option (List ℕ)) (xs ys : List ℕ) → Consumes a b xs → Consumes b c ys → Consumes a c (xs ++ ys)
then_consumes None b c xs ys had more = tt
then_consumes (Some p) None c xs ys had more = absurd had
then_consumes (Some p) (Some q) None xs ys had more = absurd more
then_consumes (Some p) (Some q) (Some r) xs ys had more = rw append_assoc (had ∙ ap (λ t. xs ++ t) more)

then_keeps : (a b c : Option (List ℕ)) (xs : List ℕ) → Consumes a b xs → Keeps b c → Consumes a c xs
then_keeps None b c xs had same = tt
then_keeps (Some p) None c xs had same = absurd had
then_keeps (Some p) (Some q) None xs had same = absurd same
then_keeps (Some p) (Some q) (Some r) xs had same = had ∙ ap (λ t. xs ++ t) (sym same)

all_consumed : (a b c : Option (List ℕ)) (xs buf : List ℕ) (n : ℕ) → Consumes a b xs → Consumes b c (take n buf) → n ≡ 0 → IsAtEnd c → IfSome a (λ left. xs ≡ left)
all_consumed None b c xs buf n had more none end = tt
all_consumed (Some p) None c xs buf n had more none end = absurd had
all_consumed (Some p) (Some q) None xs buf n had more none end = absurd more
all_consumed (Some p) (Some q) (Some r) xs buf n had more none end =
    let nothing : take n buf ++ r ≡ [] = ap (λ k. take k buf ++ r) none ∙ end in
    sym (had ∙ ap (λ t. xs ++ t) (more ∙ nothing) ∙ append-nil xs)

pub returns-in-Ok-eq0 : goal.returns-in-Ok-eq0
returns-in-Ok-eq0 g c =
    let given = rw c.in-Ok-eq0.is at c.read.ensures.bytes in
    let room : 0 < length c.read.new.buf = omega arith in
    all_consumed _ _ _ _ c.read.new.buf c.in-Ok-eq0.field-0 c.loop.invariant given.0 c.in-Ok-eq0.field-0-test (given.1 c.in-Ok-eq0.field-0-test room)

pub loop-preserved : goal.loop-preserved
loop-preserved g c =
    elim c.match-read.branch [
      | in-Ok+in_ok-extend_from_slice-in-Ok w ↦
          rw (w.bytes-is, w.in_ok-extend_from_slice-in-Ok.ensures.items)
          (then_consumes (g.R.Read.remaining c.args.reader.now) (g.R.Read.remaining c.loop.reader) (g.R.Read.remaining c.read.new.self) _ _ c.loop.invariant w.in-Ok.ensures.bytes.0)
      | in-Err w ↦
          rw w.bytes-is
          (then_keeps (g.R.Read.remaining c.args.reader.now) (g.R.Read.remaining c.loop.reader) (g.R.Read.remaining c.read.new.self) _ c.loop.invariant w.in-Err.ensures.bytes)
    ]
