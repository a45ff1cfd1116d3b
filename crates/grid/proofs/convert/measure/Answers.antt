use Rattle.std.proofs.Common.{ℕ, ◌≡◌, ◌*◌, ◌^◌, ◌<◌, ◌≤◌, ◌∙◌, ap, sym, length, map, arith, below_more, ⊎_elim}
use Rattle.grid.proofs.Common.{cases_lt, length-map, row_count, col_count, concat_rows, AreEven}
use Rattle.grid.proofs.Lemmas.{row-map, length-even}
use Rattle.grid.proofs.convert.measure.Goals as goal

not_less : (m n : ℕ) → (m < n → ⊥) → n ≤ m
not_less m n h = ⊎_elim (λ lt. absurd (h lt)) (λ ge. ge) (cases_lt m n)

pub loop-number-preserved : goal.loop-number-preserved
loop-number-preserved g c =
    below_more _ _ c.loop-number.invariant
    (ap length (row-map g.L.AsSlice.items c.args.rows.now c.loop-number.number c.index-rows-number.result c.loop-number-test.true c.index-rows-number.is ∙ sym c.as_slice-len.ensures)
    ∙ (c.if-len-cols.false ∙ c.first_len-cols.ensures))

pub returns-in-Some : goal.returns-in-Some
returns-in-Some g c =
    let lists = map g.L.AsSlice.items c.args.rows.now in
    let even : AreEven lists = λ r lr. c.loop-number.invariant r (omega (arith, length-map c.args.rows.now g.L.AsSlice.items)) in
    let product : row_count lists * col_count lists ≡ length c.args.rows.now * c.first_len-cols.result =
    ap (λ x. x * col_count lists) (length-map c.args.rows.now g.L.AsSlice.items) ∙ ap (λ x. length c.args.rows.now * x) (sym c.first_len-cols.ensures) in
    let cells : length (concat_rows lists) ≡ row_count lists * col_count lists = length-even lists even in
    let count : c.in-Some.count ≡ length (concat_rows lists) = omega (arith, cells, product, c.in-Some.ensures.1) in
    (record { even = even; below = omega (arith, c.in-Some.ensures.0, c.in-Some.ensures.1) }, count, c.first_len-cols.ensures)

pub returns-in-None : goal.returns-in-None
returns-in-None g c =
    let lists = map g.L.AsSlice.items c.args.rows.now in
    let even : AreEven lists = λ r lr. c.loop-number.invariant r (omega (arith, length-map c.args.rows.now g.L.AsSlice.items)) in
    let product : row_count lists * col_count lists ≡ length c.args.rows.now * c.first_len-cols.result =
    ap (λ x. x * col_count lists) (length-map c.args.rows.now g.L.AsSlice.items) ∙ ap (λ x. length c.args.rows.now * x) (sym c.first_len-cols.ensures) in
    let count : length (concat_rows lists) ≡ length c.args.rows.now * c.first_len-cols.result = length-even lists even ∙ product in
    let large : 2 ^ 64 ≤ length c.args.rows.now * c.first_len-cols.result =
    not_less (length c.args.rows.now * c.first_len-cols.result) (2 ^ 64) c.in-None.ensures in
    ((even, omega arith), λ e. cc)
